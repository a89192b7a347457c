use Rattle.std.proofs.Common.{◌*◌, arith, ap, to_z, of_z, w64}
use mir.Val.{SFits}
use Rattle.chance_law.proofs.Exponents.{passed, sum-near}
use Rattle.chance_law.proofs.Upward.{product-up, product-whole}
use Rattle.chance_law.proofs.scaled.Scaled.times_up.Goals as goal

pub returns-then-digits : goal.returns-then-digits
returns-then-digits c =
    let fits : SFits w64 c.sum-e.result = record { sfits = c.sum-e.type_inv } in
    let e = passed c.args.self.e c.args.other.e c.sum-e.result c.digits_of-digits.result.left_out c.requires.near c.requires.other_near fits c.sum-e.ensures.exact in
    let h = c.digits_of-digits.ensures.digits in
    let a = c.from.ensures in
    let b = c.from-2.ensures in
    let p = ap (λ n. n * c.from-2.result) a in
    let q = ap (λ n. c.args.self.m * n) b in
    let less = c.digits_of-digits.ensures.cut c.if-digits.true in
    let l = c.digits_of-digits.ensures.below in
    let n = sum-near c.args.self.e c.args.other.e (to_z w64 (of_z w64 c.sum-e.result)) c.digits_of-digits.result.left_out e in
    let few = c.digits_of-digits.ensures.few in
    record { above = omega (arith, n.0, c.next.ensures.above); below = omega (arith, n.1, c.next.ensures.below); rounded = product-up c.args.self c.args.other c.digits_of-digits.result.m (to_z w64 (of_z w64 c.sum-e.result)) c.next.result c.digits_of-digits.result.left_out h.0 (let x = h.1 in omega arith) c.next.ensures.scaled c.next.ensures.same e (omega (arith, less)) (omega arith) }

pub returns-else-digits : goal.returns-else-digits
returns-else-digits c =
    let fits : SFits w64 c.sum-e.result = record { sfits = c.sum-e.type_inv } in
    let e = passed c.args.self.e c.args.other.e c.sum-e.result c.digits_of-digits.result.left_out c.requires.near c.requires.other_near fits c.sum-e.ensures.exact in
    let h = c.digits_of-digits.ensures.digits in
    let a = c.from.ensures in
    let b = c.from-2.ensures in
    let p = ap (λ n. n * c.from-2.result) a in
    let q = ap (λ n. c.args.self.m * n) b in
    let whole = c.digits_of-digits.ensures.whole c.if-digits.false in
    let n = sum-near c.args.self.e c.args.other.e (to_z w64 (of_z w64 c.sum-e.result)) c.digits_of-digits.result.left_out e in
    let few = c.digits_of-digits.ensures.few in
    record { above = omega (arith, n.0); below = omega (arith, n.1); rounded = product-whole c.args.self c.args.other (record { m = c.digits_of-digits.result.m; e = to_z w64 (of_z w64 c.sum-e.result) }) c.digits_of-digits.result.left_out (record { from_2_63 = h.0; below_2_64 = h.1 }) e (omega arith) }
