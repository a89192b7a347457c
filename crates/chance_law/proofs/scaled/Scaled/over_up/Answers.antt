use Rattle.std.proofs.Common.{◌≡◌, ◌+◌, ◌*◌, ◌^◌, ◌<◌, ◌≤◌, arith, subst, sym, to_z, of_z, w64}
use Rattle.std.specs.Prelude.{negsuc}
use mir.Val.{SFits}
use Rattle.chance_law.specs.Scaled.{IsNearZero}
use Rattle.chance_law.proofs.Exponents.{passed, quotient-near}
use Rattle.chance_law.proofs.Upward.{part-up, part-whole, moved, cut-strictly, rest-strictly, quotient-within, divided-exactly}
use Rattle.chance_law.proofs.scaled.Scaled.over_up.Goals as goal

near : IsNearZero (2 ^ 61) (negsuc 63)
near = record { above = omega arith; below = omega arith }

pub returns-then-digits : goal.returns-then-digits
returns-then-digits c =
    let fits : SFits w64 c.sum-e.result = record { sfits = c.sum-e.type_inv } in
    let e = passed c.args.self.e (negsuc 63) c.sum-e.result c.digits_of-digits.result.left_out c.requires.near near fits c.sum-e.ensures.exact in
    let h = c.digits_of-digits.ensures.digits in
    let some : 1 ≤ c.from-parts.result = subst (λ z. 1 ≤ z) (sym c.from-parts.ensures) c.requires.some in
    let lo = moved (λ m d. (c.digits_of-digits.result.m * 2 ^ c.digits_of-digits.result.left_out) * d < m * 18446744073709551616) c.from-whole.result c.args.self.m c.from-parts.result c.args.number c.from-whole.ensures c.from-parts.ensures (cut-strictly (c.digits_of-digits.result.m * 2 ^ c.digits_of-digits.result.left_out) (c.from-whole.result * 18446744073709551616) c.from-parts.result some (c.digits_of-digits.ensures.cut c.if-digits.true)) in
    let hi = moved (λ m d. m * 18446744073709551616 ≤ ((c.digits_of-digits.result.m + 1) * 2 ^ c.digits_of-digits.result.left_out) * d) c.from-whole.result c.args.self.m c.from-parts.result c.args.number c.from-whole.ensures c.from-parts.ensures (quotient-within ((c.digits_of-digits.result.m + 1) * 2 ^ c.digits_of-digits.result.left_out) (c.from-whole.result * 18446744073709551616) c.from-parts.result some c.digits_of-digits.ensures.below) in
    let n = quotient-near c.args.self.e (to_z w64 (of_z w64 c.sum-e.result)) c.digits_of-digits.result.left_out c.digits_of-digits.ensures.few e in
    record { above = omega (arith, n.0, c.next.ensures.above); below = omega (arith, n.1, c.next.ensures.below); rounded = part-up c.args.self c.digits_of-digits.result.m (to_z w64 (of_z w64 c.sum-e.result)) c.next.result c.args.number c.digits_of-digits.result.left_out c.requires.some h.0 (let x = h.1 in omega arith) c.next.ensures.scaled c.next.ensures.same e lo hi }

pub returns-then-whole-parts-gt0 : goal.returns-then-whole-parts-gt0
returns-then-whole-parts-gt0 c =
    let fits : SFits w64 c.sum-e.result = record { sfits = c.sum-e.type_inv } in
    let e = passed c.args.self.e (negsuc 63) c.sum-e.result c.digits_of-digits.result.left_out c.requires.near near fits c.sum-e.ensures.exact in
    let h = c.digits_of-digits.ensures.digits in
    let some : 1 ≤ c.from-parts.result = subst (λ z. 1 ≤ z) (sym c.from-parts.ensures) c.requires.some in
    let lo = moved (λ m d. (c.digits_of-digits.result.m * 2 ^ c.digits_of-digits.result.left_out) * d < m * 18446744073709551616) c.from-whole.result c.args.self.m c.from-parts.result c.args.number c.from-whole.ensures c.from-parts.ensures (rest-strictly (c.digits_of-digits.result.m * 2 ^ c.digits_of-digits.result.left_out) (c.from-whole.result * 18446744073709551616) c.from-parts.result some (c.digits_of-digits.ensures.whole c.if-digits.false) c.if-whole-parts-gt0.true) in
    let hi = moved (λ m d. m * 18446744073709551616 ≤ ((c.digits_of-digits.result.m + 1) * 2 ^ c.digits_of-digits.result.left_out) * d) c.from-whole.result c.args.self.m c.from-parts.result c.args.number c.from-whole.ensures c.from-parts.ensures (quotient-within ((c.digits_of-digits.result.m + 1) * 2 ^ c.digits_of-digits.result.left_out) (c.from-whole.result * 18446744073709551616) c.from-parts.result some c.digits_of-digits.ensures.below) in
    let n = quotient-near c.args.self.e (to_z w64 (of_z w64 c.sum-e.result)) c.digits_of-digits.result.left_out c.digits_of-digits.ensures.few e in
    record { above = omega (arith, n.0, c.next-then-whole-parts-gt0.ensures.above); below = omega (arith, n.1, c.next-then-whole-parts-gt0.ensures.below); rounded = part-up c.args.self c.digits_of-digits.result.m (to_z w64 (of_z w64 c.sum-e.result)) c.next-then-whole-parts-gt0.result c.args.number c.digits_of-digits.result.left_out c.requires.some h.0 (let x = h.1 in omega arith) c.next-then-whole-parts-gt0.ensures.scaled c.next-then-whole-parts-gt0.ensures.same e lo hi }

pub returns-else-whole-parts-gt0 : goal.returns-else-whole-parts-gt0
returns-else-whole-parts-gt0 c =
    let fits : SFits w64 c.sum-e.result = record { sfits = c.sum-e.type_inv } in
    let e = passed c.args.self.e (negsuc 63) c.sum-e.result c.digits_of-digits.result.left_out c.requires.near near fits c.sum-e.ensures.exact in
    let h = c.digits_of-digits.ensures.digits in
    let some : 1 ≤ c.from-parts.result = subst (λ z. 1 ≤ z) (sym c.from-parts.ensures) c.requires.some in
    let is = moved (λ m d. (c.digits_of-digits.result.m * 2 ^ c.digits_of-digits.result.left_out) * d ≡ m * 18446744073709551616) c.from-whole.result c.args.self.m c.from-parts.result c.args.number c.from-whole.ensures c.from-parts.ensures (divided-exactly (c.digits_of-digits.result.m * 2 ^ c.digits_of-digits.result.left_out) (c.from-whole.result * 18446744073709551616) c.from-parts.result some (c.digits_of-digits.ensures.whole c.if-digits.false) c.if-whole-parts-gt0.false) in
    let n = quotient-near c.args.self.e (to_z w64 (of_z w64 c.sum-e.result)) c.digits_of-digits.result.left_out c.digits_of-digits.ensures.few e in
    record { above = omega (arith, n.0); below = omega (arith, n.1); rounded = part-whole c.args.self (record { m = c.digits_of-digits.result.m; e = to_z w64 (of_z w64 c.sum-e.result) }) c.args.number c.digits_of-digits.result.left_out c.requires.some (record { from_2_63 = h.0; below_2_64 = h.1 }) e is }
