use Rattle.std.proofs.Common.{◌≡◌, ℕ, ◌<◌, ◌≤◌, None}
use Rattle.class_system.specs.Views.{spec_range}
use Rattle.choice_draw.specs.Further.{further_cell}
use Rattle.count_draw.specs.Kinds.{series_of_kind}
use Rattle.count_draw.specs.FirstCounts.{counted_choice}
use Rattle.count_draw.proofs.leaps.least_further.Given as goal

-- fewer further bits than those looked at next decide nothing
abbrev pub invariant-fronts : goal.invariant-fronts
invariant-fronts g l = record {
  before : (j : ℕ) → 1 ≤ j → j < l.bits → counted_choice (series_of_kind l.counted.kind) g.row.F (spec_range l.counted.range) (g.O.Oracle.table l.oracle) l.counted.part.0 l.node.0 l.room (further_cell l.cell l.word j) ≡ None;
}
