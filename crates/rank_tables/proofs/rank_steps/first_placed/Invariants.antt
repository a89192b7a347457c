use Rattle.std.proofs.Common.{map, drop}
use Rattle.rank_tables.specs.Grids.{number_at}
use Rattle.rank_tables.specs.RankSteps.{TellStack, visit_of}
use Rattle.rank_tables.specs.Visits.{all_visited}
use Rattle.rank_tables.proofs.rank_steps.first_placed.Given as goal

abbrev pub invariant-loop-i : goal.invariant-loop-i
invariant-loop-i l = TellStack l.stack (all_visited l.system (number_at l.counts) (map visit_of (drop l.i l.steps)))
