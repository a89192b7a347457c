use Rattle.std.proofs.Common.{sym, ◌∙◌, arith}
use Rattle.series_bounds.proofs.Ends.{set-past, set-none, set-some}
use Rattle.series_bounds.proofs.value_bounds.set_from_hi.Goals as goal

pub returns-then-from-power_of_two : goal.returns-then-from-power_of_two
returns-then-from-power_of_two g c = record { exact = set-past g.row.F c.args.a.0 c.args.low (omega arith) }

pub returns-in_err-summed : goal.returns-in_err-summed
returns-in_err-summed g c = record { exact = rw c.from_residual.ensures (set-none g.row.F c.args.a.0 c.args.low (omega arith) (sym c.in_err-summed.ensures.exact)) }

pub returns-in_err-v : goal.returns-in_err-v
returns-in_err-v g c =
    let fitted = rw c.from-2.ensures at c.in_err-v.ensures.exact in
    record { exact = rw c.from_residual-in_err-v.ensures (fitted ∙ set-some g.row.F c.args.a.0 c.args.low c.in_ok-summed.summed.carried c.carry_up-next.result c.in_ok-summed.summed.sum (omega arith) c.in_ok-summed.ensures.last c.carry_up-next.ensures.exact (sym c.in_ok-summed.ensures.exact)) }

pub returns : goal.returns
returns g c =
    let fitted = rw c.from-2.ensures at c.in_ok-v.ensures.exact in
    record { exact = fitted ∙ set-some g.row.F c.args.a.0 c.args.low c.in_ok-summed.summed.carried c.carry_up-next.result c.in_ok-summed.summed.sum (omega arith) c.in_ok-summed.ensures.last c.carry_up-next.ensures.exact (sym c.in_ok-summed.ensures.exact) }
