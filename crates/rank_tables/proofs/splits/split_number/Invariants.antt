use Rattle.std.proofs.Common.{◌≡◌, ℕ, ◌+◌, ◌-◌, ◌*◌}
use Rattle.rank_tables.specs.Grids.{TellRow}
use Rattle.rank_tables.specs.TableRule.{sum_below}
use Rattle.rank_tables.proofs.splits.split_number.Given as goal

abbrev pub invariant-loop-j : goal.invariant-loop-j
invariant-loop-j l = (f g : ℕ → ℕ) → TellRow l.left l.fn.e.0 l.fn.n f → TellRow l.right l.fn.d.0 l.fn.n g → l.fn.number ≡ sum_below l.j (λ i. f i * g (l.fn.n - i)) + l.more
