use Rattle.std.proofs.Common.{◌≡◌, ◌+◌, map, take}
use Rattle.std.specs.Prelude.{sum_by}
use Rattle.class_system.specs.Views.{number}
use Rattle.rank_tables.specs.Grids.{number_at}
use Rattle.rank_tables.proofs.splits.find_part.Given as goal

abbrev pub invariant-loop-option : goal.invariant-loop-option
invariant-loop-option l = l.fn.place ≡ sum_by (λ p. number_at l.counts p l.fn.n) (take l.option (map number l.parts)) + l.more
