use Rattle.bz_laws.proofs.Fractions.{AtMost-refl, AtMost-trans, AtMost-total}
use Rattle.bz_laws.proofs.order.fractions_are_in_order.Goals as goal

pub returns-clause-itself : goal.returns-clause-itself
returns-clause-itself c = AtMost-refl

pub returns-clause-passes_on : goal.returns-clause-passes_on
returns-clause-passes_on c = λ a b d h k. AtMost-trans h k

pub returns-clause-total : goal.returns-clause-total
returns-clause-total c = AtMost-total
