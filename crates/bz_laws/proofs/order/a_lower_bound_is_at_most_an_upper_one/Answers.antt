use Rattle.bz_laws.proofs.Fractions.{AtMost-trans}
use Rattle.bz_laws.proofs.order.a_lower_bound_is_at_most_an_upper_one.Goals as goal

pub returns : goal.returns
returns c = λ s x f g e down up. AtMost-trans down.reached (up.holds down.list down.sample)
