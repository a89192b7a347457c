-- The command `pool`.
use Rattle.std.specs.Prelude.{◌≡◌, ℕ, zero, suc, ◌+◌, ◌≤◌, ◌&&◌, max, Bool, true, false, List, []}
use Rattle.std.specs.Prelude.{◌∷◌, ◌++◌, length, flat_map, decimal, codes, slice_get, Some}
use Rattle.std.specs.Prelude.{if◌then◌else◌}
use Rattle.std.specs.Str.{bytes_eq}
use Rattle.bz_model.specs.Fraction.{ratio}
use Rattle.bz_model.specs.declared.cell.Bounds.{Bounds}
use Rattle.bz_model.specs.declared.fraction.Fraction.{Fraction}
use Rattle.bit_tape.specs.Tape.{TapeSource}
use Rattle.certificate.specs.Lines.{version_line}
use Rattle.choice_draw.specs.Decision.{level_for}
use Rattle.oracle_memo.specs.Levels.{level_bounds, cost_at}
use Rattle.rounded_map.specs.RoundedMap.{Setting, setting}
use Rattle.session_pool.specs.Interleaving.{RoseBy}
use Rattle.size_window.specs.RunByBits.{Limits as Window, Course, Ending}
use Rattle.size_window.specs.Drawing.{limits_of}
use Rattle.size_window.specs.declared.limits.Limits.{Limits}
use Rattle.sample_command.specs.Drawn.{IsCourse, IsDrawn, Lists, closing_text, drawn_header}
use Rattle.sample_command.specs.Drawn.{ending_status}
use Rattle.sample_command.specs.UnderWay.{met}
use Rattle.call_stages.specs.Lines.{feed, lines_below}
use Rattle.call_stages.specs.Outcomes.{Outcome, Says}
use Rattle.call_stages.specs.Refusals.{number_field}
use Rattle.call_stages.specs.Stages.{Files, FileRead, Specified, Based}
use Rattle.call_stages.specs.declared.status.Status.{Status}
use Rattle.pool_command.specs.Schedule.{asks_to_end, order_of}

-- A drawing of a pool so far: its course, and the greatest number of bits that one number of a
-- choice node was given in a turn.
pub record PoolCourse : Type 0 where
  pub course : Course
  pub most : ℕ

-- A drawing of a pool at its end: what it is so far, why it ended, and the lines of its entries.
pub record PoolDrawing : Type 0 where
  pub so_far : PoolCourse
  pub ending : Ending
  pub lines : List ℕ

-- Two moments of a call, told by the counts of failed reads: the first isn't before the call
-- begins, nor the second after it ends.
pub record AreInCall (f : Files) (before now : List ℕ → ℕ) : Type 0 where
  pub since : (name : List ℕ) → f.before name ≤ before name
  pub until : (name : List ℕ) → now name ≤ f.after name

-- What the drawings of a pool share: a setting, the base over which the levels are raised, and the
-- limits.
pub record PoolSetting : Type 0 where
  pub setting : Setting
  pub base : List ℕ
  pub limits : Window

abbrev pub pool_of : Setting → (base : List ℕ) → Window → PoolSetting
pool_of t base limits = record { setting = t; base = base; limits = limits }

-- The table of bounds of a pool.
abbrev pub table_of : PoolSetting → (level node : ℕ) → Bounds
table_of p = level_bounds p.setting p.base

-- A drawing of a pool has this course so far, as a drawing alone that met the tape of this name
-- between two moments of the call.
pub record IsCourseIn (p : PoolSetting) (f : Files) (name : List ℕ) (c : PoolCourse) : Type 0 where
  pub before : List ℕ → ℕ
  pub now : List ℕ → ℕ
  pub moments : AreInCall f before now
  pub course : IsCourse p.setting.spec (ratio p.setting.num p.setting.den) p.setting.bits
      (table_of p) p.limits (met (TapeSource.Named name) f.content before now) c.course c.most

-- A drawing of a pool has come to its end, as a drawing alone that met the tape of this name
-- between two moments of the call. The lines are those of its entries.
pub record IsDrawnIn (p : PoolSetting) (f : Files) (name : List ℕ) (d : PoolDrawing) : Type 0 where
  pub before : List ℕ → ℕ
  pub now : List ℕ → ℕ
  pub moments : AreInCall f before now
  pub drawn : IsDrawn p.setting.spec (ratio p.setting.num p.setting.den) p.setting.bits (table_of p)
      p.limits (met (TapeSource.Named name) f.content before now) d.so_far.course d.so_far.most
      d.ending
  pub lists : Lists p.setting.spec d.so_far.course.entries d.lines

-- Each drawing of a pool, one for each tape, has this course so far.
pub record AreCoursesIn (p : PoolSetting) (f : Files) (tapes : List (List ℕ))
    (courses : ℕ → PoolCourse) : Type 0 where
  pub each : (number : ℕ) (name : List ℕ) → slice_get tapes number ≡ Some name
      → IsCourseIn p f name (courses number)

-- An ending is a failed read.
abbrev pub is_read_fault : Ending → Bool
is_read_fault Ending.ReadFault = true
is_read_fault ending = false

-- How many of the drawings over these tapes, of which the first one has this number, ended with a
-- failed read of the tape of this name.
unfoldable pub failures_from : (name : List ℕ) → (endings : ℕ → Ending) → (first : ℕ)
    → (tapes : List (List ℕ)) → ℕ
failures_from name endings first [] = 0
failures_from name endings first (tape ∷ tapes) =
    (if is_read_fault (endings first) && bytes_eq name tape then 1 else 0)
    + failures_from name endings (suc first) tapes

-- Each drawing of a pool, one for each tape, has come to its end. The count of failed reads of each
-- name rose at least as often as drawings over its tape ended with one.
pub record AreDrawnIn (p : PoolSetting) (f : Files) (tapes : List (List ℕ))
    (drawings : ℕ → PoolDrawing) : Type 0 where
  pub each : (number : ℕ) (name : List ℕ) → slice_get tapes number ≡ Some name
      → IsDrawnIn p f name (drawings number)
  pub failed : (name : List ℕ)
      → RoseBy (failures_from name (λ i. (drawings i).ending) 0 tapes) (f.before name)
      (f.after name)

-- The greatest of the first n numbers.
unfoldable pub greatest_below : (numbers : ℕ → ℕ) → (n : ℕ) → ℕ
greatest_below numbers zero = 0
greatest_below numbers (suc n) = max (greatest_below numbers n) (numbers n)

-- The first of two that isn't Done.
abbrev pub first_of : (first second : Status) → Status
first_of Status.Done second = second
first_of first second = first

-- The first of n statuses that isn't Done; Done where all are.
unfoldable pub first_status : (statuses : ℕ → Status) → (n : ℕ) → Status
first_status statuses zero = Status.Done
first_status statuses (suc n) = first_of (first_status statuses n) (statuses n)

-- The line before a drawing's entries.
abbrev pub session_line : (number : ℕ) → List ℕ
session_line number = codes "session " ++ (decimal number ++ feed)

-- The lines of a drawing: its number, its entries and its closing.
abbrev pub session_lines : (table : (level node : ℕ) → Bounds) → (drawings : ℕ → PoolDrawing)
    → (number : ℕ) → List ℕ
session_lines table drawings number =
    session_line number ++ ((drawings number).lines
    ++ closing_text table (drawings number).so_far.course (drawings number).ending)

-- The line of the order in which the drawings ended.
abbrev pub order_line : (order : List ℕ) → List ℕ
order_line order = codes "order" ++ (flat_map number_field order ++ feed)

-- The last line.
abbrev pub pool_end_line : List ℕ
pool_end_line = codes "end pool" ++ feed

-- How often each drawing was asked for a turn until it ended.
abbrev pub asks_of : (drawings : ℕ → PoolDrawing) → (number : ℕ) → ℕ
asks_of drawings number = asks_to_end (drawings number).ending
    (drawings number).so_far.course.state.turns

-- The text before the order: the header, and the lines of the n drawings.
abbrev pub drawings_text : PoolSetting → (n : ℕ) → (drawings : ℕ → PoolDrawing) → List ℕ
drawings_text p n drawings =
    drawn_header (version_line 2) p.setting p.base p.limits
    ++ lines_below (session_lines (table_of p) drawings) n

-- The text of a pool: the header, the lines of the n drawings, the order in which they ended by the
-- schedule's bytes, and the last line.
abbrev pub pool_text : PoolSetting → (n : ℕ) → (drawings : ℕ → PoolDrawing) → (schedule : List ℕ)
    → List ℕ
pool_text p n drawings schedule =
    drawings_text p n drawings
    ++ (order_line (order_of (asks_of drawings) n schedule) ++ pool_end_line)

-- The most steps for raising the levels that n drawings need: one level for each ten bits begun
-- that one number of a choice node was given, in any drawing.
abbrev pub raising_ticks : (n : ℕ) → (courses : ℕ → PoolCourse) → ℕ
raising_ticks n courses = cost_at (level_for (greatest_below (λ i. (courses i).most) n))

-- Drawings over these tapes take turns over one memo by a schedule. All come to their ends: the
-- text is that of the pool, and the first that didn't end with Done gives the status. Or memory
-- runs out, and nothing is written.
pub data PoolDrawn (p : PoolSetting) (f : Files) (tapes : List (List ℕ)) (schedule : List ℕ)
    (status : Status) (text : List ℕ) (ticks : ℕ) : Type 0 where
  ended : (drawings : ℕ → PoolDrawing) → AreDrawnIn p f tapes drawings
      → Says (first_status (λ i. ending_status (drawings i).ending) (length tapes))
      (pool_text p (length tapes) drawings schedule)
      (raising_ticks (length tapes) (λ i. (drawings i).so_far)) status text ticks
      → PoolDrawn p f tapes schedule status text ticks
  so_far : (courses : ℕ → PoolCourse) → AreCoursesIn p f tapes courses
      → Says Status.OutOfMemory [] (raising_ticks (length tapes) courses) status text ticks
      → PoolDrawn p f tapes schedule status text ticks
  no_memory : Says Status.OutOfMemory [] 0 status text ticks
      → PoolDrawn p f tapes schedule status text ticks

-- Over a base the schedule is read, at most its first 1048576 bytes, and the drawings take turns by
-- it.
abbrev pub PooledOver : Files → Setting → Window → (schedule : List ℕ) → (tapes : List (List ℕ))
    → (base : List ℕ) → Outcome
PooledOver f t limits schedule tapes base =
    FileRead f schedule 1048576 (PoolDrawn (pool_of t base limits) f tapes)

-- `pool FILE X SCHEDULE TAPE ..`: a specification is read and judged, a base is searched, the
-- schedule is read, and a drawing over each tape takes its turns.
abbrev pub CarriesPool : Files → (file : List ℕ) → Fraction → (schedule : List ℕ)
    → (tapes : List (List ℕ)) → Limits → (F : ℕ) → Outcome
CarriesPool f file x schedule tapes limits F =
    Specified f file (λ s. Based (setting s x.num x.den F)
    (PooledOver f (setting s x.num x.den F) (limits_of limits) schedule tapes))
