use Rattle.std.proofs.Common.{ℕ, ◌+◌, ◌-◌, ◌*◌, ◌/◌, ◌^◌, ◌<◌, ◌≤◌, arith, pow_pos}
use Rattle.series_bounds.proofs.Halves.{halves, scaled-within}
use Rattle.series_bounds.proofs.series_terms.scale_up.Goals as goal

within : (f c a : ℕ) → 24 ≤ f → c < 2 ^ 85 → a < 2 ^ 64 → (c * a + (2 ^ f - 1)) / 2 ^ f ≤ 2 ^ 125
within f c a h k l = let p : 0 < 2 ^ f = pow_pos f in scaled-within f c a (2 ^ f - 1) h k l (omega arith)

pub overflow_mul-result-else-c-le-GREATEST-2 : goal.overflow_mul-result-else-c-le-GREATEST-2
overflow_mul-result-else-c-le-GREATEST-2 g c = rw (c.from-factor.ensures, c.power_of_two.ensures.exact) (let e = halves g.row.F c.args.c c.args.a (2 ^ g.row.F - 1) (omega arith) in let b = within g.row.F c.args.c c.args.a (omega arith) (omega arith) (omega arith) in omega arith)

pub overflow_add-result-else-c-le-GREATEST-2 : goal.overflow_add-result-else-c-le-GREATEST-2
overflow_add-result-else-c-le-GREATEST-2 g c = rw (c.from-factor.ensures, c.power_of_two.ensures.exact, c.power_of_two-rounding.ensures.exact) (let e = halves g.row.F c.args.c c.args.a (2 ^ g.row.F - 1) (omega arith) in let b = within g.row.F c.args.c c.args.a (omega arith) (omega arith) (omega arith) in omega arith)

pub returns-then-c-le-GREATEST-clause-within : goal.returns-then-c-le-GREATEST-clause-within
returns-then-c-le-GREATEST-clause-within g c = rw (c.from-factor.ensures, c.power_of_two-rounding.ensures.exact) (within g.row.F c.args.c c.args.a (omega arith) (omega arith) (omega arith))

pub returns-else-c-le-GREATEST-clause-exact : goal.returns-else-c-le-GREATEST-clause-exact
returns-else-c-le-GREATEST-clause-exact g c = rw (c.from-factor.ensures, c.power_of_two.ensures.exact, c.power_of_two-rounding.ensures.exact) (halves g.row.F c.args.c c.args.a (2 ^ g.row.F - 1) (omega arith))

pub returns-else-c-le-GREATEST-clause-within : goal.returns-else-c-le-GREATEST-clause-within
returns-else-c-le-GREATEST-clause-within g c = rw (c.from-factor.ensures, c.power_of_two.ensures.exact, c.power_of_two-rounding.ensures.exact) (let e = halves g.row.F c.args.c c.args.a (2 ^ g.row.F - 1) (omega arith) in let b = within g.row.F c.args.c c.args.a (omega arith) (omega arith) (omega arith) in omega arith)
