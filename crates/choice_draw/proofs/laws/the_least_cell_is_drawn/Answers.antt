use Rattle.choice_draw.proofs.LeastDrawn.{least_is_drawn}
use Rattle.choice_draw.proofs.laws.the_least_cell_is_drawn.Goals as goal

pub returns-clause-wholes : goal.returns-clause-wholes
returns-clause-wholes c = λ decide. least_is_drawn decide

pub returns-clause-choices : goal.returns-clause-choices
returns-clause-choices c = λ decide. least_is_drawn decide
