use Rattle.choice_draw.proofs.SpelledDraws.{draws_spell}
use Rattle.choice_draw.proofs.laws.a_draw_spells_its_bits.Goals as goal

pub returns-clause-wholes : goal.returns-clause-wholes
returns-clause-wholes c = λ decide. draws_spell decide

pub returns-clause-choices : goal.returns-clause-choices
returns-clause-choices c = λ decide. draws_spell decide
