use Rattle.std.proofs.Common.{ℕ, ◌<◌, ◌^◌}
use Rattle.rank_tables.specs.Grids.{number_at}
use Rattle.rank_tables.proofs.filling.first_passing.Given as goal

abbrev pub invariant-loop-e : goal.invariant-loop-e
invariant-loop-e l = (d : ℕ) → d < l.e → number_at l.rows d l.fn.n < 2 ^ 128
