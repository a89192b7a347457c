use Rattle.choice_draw.proofs.LeastCells.{draws_least}
use Rattle.choice_draw.proofs.laws.a_draw_takes_the_least_cell.Goals as goal

pub returns-clause-wholes : goal.returns-clause-wholes
returns-clause-wholes c = λ decide. draws_least decide

pub returns-clause-choices : goal.returns-clause-choices
returns-clause-choices c = λ decide. draws_least decide
