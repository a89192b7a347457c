use Rattle.std.proofs.Common.{◌≡◌, ℕ, ◌+◌, ◌-◌, ◌*◌, ◌/◌, ◌%◌, ◌^◌, ◌<◌, ◌≤◌, arith, add-zero, pow_pos}
use Rattle.series_bounds.proofs.Halves.{halves, scaled-within}
use Rattle.series_bounds.proofs.series_terms.scale_down.Goals as goal

halves_down : (f c a : ℕ) → f ≤ 64 → c / 2 ^ 64 * a * 2 ^ (64 - f) + c % 2 ^ 64 * a / 2 ^ f ≡ c * a / 2 ^ f
halves_down f c a h = simp add-zero at (halves f c a 0 h)

within : (f c a : ℕ) → 24 ≤ f → c < 2 ^ 85 → a < 2 ^ 64 → c * a / 2 ^ f ≤ 2 ^ 125
within f c a h k l = rw add-zero at (scaled-within f c a 0 h k l (pow_pos f))

pub overflow_mul-result-else-c-le-GREATEST-2 : goal.overflow_mul-result-else-c-le-GREATEST-2
overflow_mul-result-else-c-le-GREATEST-2 g c = rw (c.from-factor.ensures, c.power_of_two.ensures.exact) (let e = halves_down g.row.F c.args.c c.args.a (omega arith) in let b = within g.row.F c.args.c c.args.a (omega arith) (omega arith) (omega arith) in omega arith)

pub overflow_add-result : goal.overflow_add-result
overflow_add-result g c = rw (c.from-factor.ensures, c.power_of_two.ensures.exact) (let e = halves_down g.row.F c.args.c c.args.a (omega arith) in let b = within g.row.F c.args.c c.args.a (omega arith) (omega arith) (omega arith) in omega arith)

pub returns-then-c-le-GREATEST-clause-within : goal.returns-then-c-le-GREATEST-clause-within
returns-then-c-le-GREATEST-clause-within g c = rw c.from-factor.ensures (within g.row.F c.args.c c.args.a (omega arith) (omega arith) (omega arith))

pub returns-else-c-le-GREATEST-clause-exact : goal.returns-else-c-le-GREATEST-clause-exact
returns-else-c-le-GREATEST-clause-exact g c = rw (c.from-factor.ensures, c.power_of_two.ensures.exact) (halves_down g.row.F c.args.c c.args.a (omega arith))

pub returns-else-c-le-GREATEST-clause-within : goal.returns-else-c-le-GREATEST-clause-within
returns-else-c-le-GREATEST-clause-within g c = rw (c.from-factor.ensures, c.power_of_two.ensures.exact) (let e = halves_down g.row.F c.args.c c.args.a (omega arith) in let b = within g.row.F c.args.c c.args.a (omega arith) (omega arith) (omega arith) in omega arith)
