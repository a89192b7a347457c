use Rattle.std.proofs.Common.{◌-◌, ◌*◌, ◌^◌, ◌≤◌, sym, ◌∙◌, arith}
use Rattle.std.proofs.Math.Nat.{mul-pos, le_trans}
use Rattle.series_bounds.proofs.Ends.{cycle-past, cycle-none, cycle-some, rest-product, rest-divisor, quotient_up-within}
use Rattle.series_bounds.proofs.value_bounds.cycle_from_hi.Goals as goal

pub returns-then-argument-one : goal.returns-then-argument-one
returns-then-argument-one g c = record { exact = cycle-past g.row.F c.args.a.0 c.args.low (omega arith) }

pub returns-in_err-summed : goal.returns-in_err-summed
returns-in_err-summed g c = record { exact = rw c.from_residual.ensures (cycle-none g.row.F c.args.a.0 c.args.low c.last_term-last.result (omega arith) c.last_term-last.ensures.exact (sym c.in_err-summed.ensures.exact)) }

pub overflow_mul-next : goal.overflow_mul-next
overflow_mul-next g c = rw c.power_of_two-one.ensures.exact (let product = rest-product g.row.F c.args.a.0 c.last_term-last.result c.in_ok-summed.summed.carried c.carry_up-next.result (omega arith) (omega arith) c.in_ok-summed.ensures.last c.carry_up-next.ensures.exact in omega arith)

pub divide_up-rest-requires-clause-in_range : goal.divide_up-rest-requires-clause-in_range
divide_up-rest-requires-clause-in_range g c = rw (c.power_of_two-one.ensures.exact, c.from.ensures, c.from-argument.ensures) (let product = rest-product g.row.F c.args.a.0 c.last_term-last.result c.in_ok-summed.summed.carried c.carry_up-next.result (omega arith) (omega arith) c.in_ok-summed.ensures.last c.carry_up-next.ensures.exact in let divisor = rest-divisor g.row.F c.args.a.0 c.last_term-last.result (omega arith) c.last_term-last.ensures.within in (omega arith, omega arith))

pub overflow_add-from : goal.overflow_add-from
overflow_add-from g c =
    let product = rest-product g.row.F c.args.a.0 c.last_term-last.result c.in_ok-summed.summed.carried c.carry_up-next.result (omega arith) (omega arith) c.in_ok-summed.ensures.last c.carry_up-next.ensures.exact in
    let rest : c.divide_up-rest.result ≤ c.carry_up-next.result * c.power_of_two-one.result = rw c.divide_up-rest.ensures.exact (quotient_up-within (c.carry_up-next.result * c.power_of_two-one.result) (c.from.result * (c.power_of_two-one.result - c.from-argument.result)) (mul-pos (omega arith) (omega arith))) in
    let small : c.divide_up-rest.result ≤ 2 ^ 112 = le_trans rest (rw c.power_of_two-one.ensures.exact product) in
    omega arith

pub returns-in_err-v : goal.returns-in_err-v
returns-in_err-v g c =
    let fitted = rw c.from-2.ensures at c.in_err-v.ensures.exact in
    record { exact = rw c.from_residual-in_err-v.ensures (fitted ∙ cycle-some g.row.F c.args.a.0 c.args.low c.last_term-last.result c.in_ok-summed.summed.carried c.carry_up-next.result c.divide_up-rest.result c.in_ok-summed.summed.sum (omega arith) c.last_term-last.ensures.exact c.in_ok-summed.ensures.last c.carry_up-next.ensures.exact (rw (c.from.ensures, c.power_of_two-one.ensures.exact, c.from-argument.ensures) at c.divide_up-rest.ensures.exact) (sym c.in_ok-summed.ensures.exact)) }

pub returns : goal.returns
returns g c =
    let fitted = rw c.from-2.ensures at c.in_ok-v.ensures.exact in
    record { exact = fitted ∙ cycle-some g.row.F c.args.a.0 c.args.low c.last_term-last.result c.in_ok-summed.summed.carried c.carry_up-next.result c.divide_up-rest.result c.in_ok-summed.summed.sum (omega arith) c.last_term-last.ensures.exact c.in_ok-summed.ensures.last c.carry_up-next.ensures.exact (rw (c.from.ensures, c.power_of_two-one.ensures.exact, c.from-argument.ensures) at c.divide_up-rest.ensures.exact) (sym c.in_ok-summed.ensures.exact) }
