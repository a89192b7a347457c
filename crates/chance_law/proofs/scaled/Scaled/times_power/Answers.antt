-- The exponent is greater by k.
use Rattle.std.proofs.Common.{◌^◌, arith, refl, to_z, of_z, w64}
use Rattle.std.specs.Prelude.{pos}
use mir.Val.{SFits}
use Rattle.chance_law.specs.Scaled.{IsNearZero}
use Rattle.chance_law.proofs.Equal.{power-exact}
use Rattle.chance_law.proofs.Exponents.{passed, sum-of-two}
use Rattle.chance_law.proofs.scaled.Scaled.times_power.Goals as goal

near : IsNearZero (2 ^ 61) (pos 0)
near = record { above = omega arith; below = omega arith }

pub returns-clause-exact : goal.returns-clause-exact
returns-clause-exact c =
    let fits : SFits w64 c.sum.result = record { sfits = c.sum.type_inv } in
    let e = passed c.args.self.e (pos 0) c.sum.result c.args.k c.requires.near near fits c.sum.ensures.exact in
    let h = sum-of-two c.args.self.e (pos 0) (to_z w64 (of_z w64 c.sum.result)) c.args.k e in
    power-exact c.args.self (record { m = c.args.self.m; e = to_z w64 (of_z w64 c.sum.result) }) c.args.k refl (omega arith)
