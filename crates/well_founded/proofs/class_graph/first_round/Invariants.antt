use Rattle.std.proofs.Common.{ℕ, ◌<◌}
use Rattle.well_founded.specs.Ways.{PointsRound}
use Rattle.well_founded.proofs.class_graph.first_round.Given as goal

abbrev pub invariant-loop-c : goal.invariant-loop-c
invariant-loop-c l = (k : ℕ) → k < l.c → ¬ (PointsRound l.rows k)
