-- The lines of a pool's drawings, as the code has them.
use Rattle.std.specs.Prelude.{◌≡◌, ℕ, ◌<◌, List, [], ◌++◌, map, slice_get, Option, Some, None}
use Rattle.std.specs.List.{All}
use Rattle.bz_model.specs.Spec.{Spec}
use Rattle.object_store.specs.Tokens.{IsOf}
use Rattle.session_pool.specs.Member.{MemberState}
use Rattle.size_window.specs.declared.ending.Ending.{Ending}
use Rattle.size_window.specs.Drawing.{ending_of}
use Rattle.certificate.specs.Certificates.{closing_lines}
use Rattle.certificate.specs.Lines.{text_of}
use Rattle.size_window.specs.Turn.{EntryHasLabels, entry_of}
use Rattle.call_stages.specs.Lines.{lines_below}
use Rattle.call_stages.specs.declared.status.Status.{Status}
use Rattle.sample_command.specs.Drawn.{Lists, ending_status}
use Rattle.sample_command.specs.UnderWay.{told_closing}
use Rattle.pool_command.specs.PoolCommand.{session_line}

-- The closing of a drawing that ended; none while it goes on.
abbrev pub closing_by : MemberState → Option Ending → List ℕ
closing_by m None = []
closing_by m (Some ending) =
    text_of (closing_lines (told_closing ending m.drawing.kept m.drawing.thrown m.tape.used
    m.drawing.turns))

abbrev pub closing_of_member : Option MemberState → List ℕ
closing_of_member None = []
closing_of_member (Some m) = closing_by m m.drawing.ending

-- The lines of the drawing of this number, those of its entries being given.
abbrev pub told_session : (pool : List MemberState) (number : ℕ) (lines : List ℕ) → List ℕ
told_session pool number lines =
    session_line number ++ (lines ++ closing_of_member (slice_get pool number))

-- These lines are those of the entries of a drawing, where there is one.
abbrev pub AreLinesOfMember : Spec → Option MemberState → List ℕ → Type 0
AreLinesOfMember s None lines = Unit {0}
AreLinesOfMember s (Some m) lines = Lists s (map entry_of m.entries) lines

-- The lines of the first n drawings were appended to a text.
pub record AreAppended (s : Spec) (pool : List MemberState) (n : ℕ)
    (before now : List ℕ) : Type 0 where
  pub lines : ℕ → List ℕ
  pub lists : (number : ℕ) → number < n → AreLinesOfMember s (slice_get pool number) (lines number)
  pub text_is : now ≡ before ++ lines_below (λ number. told_session pool number (lines number)) n

-- The entries of a drawing can be printed: each is of an object of class 0, with labels as the mode
-- wants them.
pub record CanPrint (s : Spec) (m : MemberState) : Type 0 where
  pub are_of : All (λ e. IsOf s 0 e.shape.items) m.entries
  pub labels : All (EntryHasLabels s.mode) m.entries

-- Those of each drawing of a pool can.
pub record AllCanPrint (s : Spec) (pool : List MemberState) : Type 0 where
  pub each : (number : ℕ) (m : MemberState) → slice_get pool number ≡ Some m → CanPrint s m

-- The status of a drawing that ended; Done while it goes on.
abbrev pub status_by : Option Ending → Status
status_by None = Status.Done
status_by (Some ending) = ending_status (ending_of ending)
