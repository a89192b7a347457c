-- How many turns a drawing of a pool may still make.
use Rattle.std.proofs.Common.{ℕ, ◌-◌, List}
use Rattle.std.specs.Prelude.{Option, Some, None, slice_get}
use Rattle.session_pool.specs.Member.{MemberState}
use Rattle.size_window.specs.declared.ending.Ending.{Ending}

-- Those up to the greatest limit and one that ends; none after the end.
abbrev pub left_until : (turns : ℕ) → Option Ending → ℕ
left_until turns None = 50000002 - turns
left_until turns (Some ending) = 0

abbrev pub left_of_member : Option MemberState → ℕ
left_of_member None = 0
left_of_member (Some m) = left_until m.drawing.turns m.drawing.ending

abbrev pub turns_left : List MemberState → (number : ℕ) → ℕ
turns_left pool number = left_of_member (slice_get pool number)
