use Rattle.std.proofs.Common.{◌*◌, ◌^◌, ◌≤◌, arith}
use Rattle.std.proofs.Math.Nat.{mod-le, pow-le-pow_right}
use Rattle.fixed_enclosure.proofs.narrow.power_of_two.Goals as goal

pub returns-clause-within : goal.returns-clause-within
returns-clause-within c =
    let grows : 2 ^ c.args.n ≤ 2 ^ 112 = pow-le-pow_right (omega arith) c.requires.within_bits in
    omega (arith, grows, mod-le (1 * 2 ^ c.args.n) (2 ^ 128))
