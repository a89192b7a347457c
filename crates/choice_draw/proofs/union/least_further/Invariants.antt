use Rattle.std.proofs.Common.{◌≡◌, ℕ, ◌<◌, ◌≤◌, map, None}
use Rattle.class_system.specs.Views.{number}
use Rattle.choice_draw.specs.Decision.{union_choice}
use Rattle.choice_draw.specs.Further.{further_cell}
use Rattle.choice_draw.proofs.union.least_further.Given as goal

-- fewer further bits than those looked at next decide nothing
abbrev pub invariant-fronts : goal.invariant-fronts
invariant-fronts g l = record {
  before : (j : ℕ) → 1 ≤ j → j < l.bits → union_choice (g.O.Oracle.table l.oracle) l.node.0 (map number l.parts) (further_cell l.cell l.word j) ≡ None;
}
