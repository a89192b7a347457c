use Rattle.std.proofs.Common.{◌*◌}
use Rattle.std.proofs.Math.Nat.{mul-pos}
use Rattle.bz_laws.proofs.Fractions.{gap}
use Rattle.bz_laws.proofs.order.there_is_a_gap.Goals as goal

pub returns : goal.returns
returns c = λ a b d h k. (a.den * d.den, mul-pos a.positive d.positive, gap a b d h k)
