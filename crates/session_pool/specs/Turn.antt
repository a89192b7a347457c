-- What one turn of a pool makes of it.
use Rattle.std.specs.Prelude.{◌≡◌, ◌≢◌, ℕ, ◌+◌, ◌≤◌, ◌↔◌, List, [], ◌∷◌, ◌++◌, slice_get, slice_set}
use Rattle.std.specs.Prelude.{Option, Some, None, IfSome}
use Rattle.bz_model.specs.declared.cell.Bounds.{Bounds}
use Rattle.bz_model.specs.Fraction.{Fraction}
use Rattle.bz_model.specs.Spec.{Spec}
use Rattle.bit_tape.specs.Tape.{bits_of_source, CountsFault}
use Rattle.size_window.specs.declared.ending.Ending.{Ending}
use Rattle.size_window.specs.declared.ending.Ending.TheVariants.{Done, TurnLimit}
use Rattle.size_window.specs.declared.turned.Entry.{Entry}
use Rattle.size_window.specs.declared.turned.Turned.{Turned}
use Rattle.size_window.specs.declared.turned.Turned.TheVariants as turned
use Rattle.size_window.specs.Turn.{IsTurn, IsCountedTurn, is_turn_fault, IfKept, IsNextKept}
use Rattle.size_window.specs.Turn.{EntryHasLabels}
use Rattle.size_window.specs.Turn.{most_bits, TellsOpen}
use Rattle.session_pool.specs.declared.pooled.Pooled.{Pooled}
use Rattle.session_pool.specs.declared.pooled.Pooled.TheVariants.{Going, Finished}
use Rattle.session_pool.specs.Member.{MemberState}

-- The objects that a drawing's answer tells: one or none.
abbrev pub kept_in : Turned → List Entry
kept_in (turned.Kept entry) = entry ∷ []
kept_in _ = []

-- What a pool answers of a drawing with this ending: it goes on, or it has ended.
abbrev pub pool_answer : Option Ending → Pooled
pool_answer None = Going
pool_answer (Some ending) = Finished

-- A drawing that hadn't ended answers Done exactly where as many objects as wanted are kept, and
-- else TurnLimit exactly where as many turns as the limit were counted. It tells the bounds of
-- level 6 of a node whose number it left open.
pub record AnswersRightly (table : (level node : ℕ) → Bounds) (m : MemberState)
    (told : Turned) : Type 0 where
  pub done : (told ≡ turned.Finished Done) ↔ (m.drawing.kept ≡ m.drawing.limits.count)
  pub turn_limit : (told ≡ turned.Finished TurnLimit) ↔ ((m.drawing.kept ≢ m.drawing.limits.count)
      × (m.drawing.turns ≡ m.drawing.limits.turns))
  pub left_open : TellsOpen table told

-- A turn of one drawing of a pool: the drawing makes its turn over its tape, and what it kept is
-- appended to its entries. One that had ended answers its ending again and is as it was. A failed
-- read is answered exactly where the count of its tape's name rose. The pool answers whether the
-- drawing goes on.
pub record IsMemberTurn (s : Spec) (x : Fraction) (F : ℕ) (table : (level node : ℕ) → Bounds)
    (contents : List ℕ → Option (List ℕ)) (before now : List ℕ → ℕ) (m : MemberState)
    (answer : Pooled) (later : MemberState) : Type 0 where
  pub told : Turned
  pub made : told ≢ turned.OutOfMemory
  pub turn : IsTurn s x F table (bits_of_source m.tape.source contents) m.drawing m.tape.used told
      later.drawing later.tape.used
  pub again : IfSome m.drawing.ending (λ ending. (told ≡ turned.Finished ending) × (later ≡ m))
  pub counted : IsCountedTurn m.drawing told later.drawing
  pub next : IfKept told (IsNextKept m.drawing.limits m.drawing.kept later.tape.used)
  pub rightly : m.drawing.ending ≡ None → AnswersRightly table m told
  pub labels : IfKept told (EntryHasLabels s.mode)
  pub entries : later.entries ≡ m.entries ++ kept_in told
  pub used : (m.tape.used ≤ later.tape.used)
      × (later.tape.used ≤ m.tape.used + most_bits m.drawing.waiting)
  pub source : later.tape.source ≡ m.tape.source
  pub faults : CountsFault (is_turn_fault told m.drawing.ending) m.tape.source before now
  pub answers : answer ≡ pool_answer later.drawing.ending

-- A turn of a pool: the drawing of this number makes its turn, and every other one is as it was,
-- with its tape and its entries.
pub record IsPoolTurn (s : Spec) (x : Fraction) (F : ℕ) (table : (level node : ℕ) → Bounds)
    (contents : List ℕ → Option (List ℕ)) (before now : List ℕ → ℕ) (pool : List MemberState)
    (number : ℕ) (answer : Pooled) (later : List MemberState) : Type 0 where
  pub old_member : MemberState
  pub new_member : MemberState
  pub at : slice_get pool number ≡ Some old_member
  pub others : later ≡ slice_set pool number new_member
  pub turn : IsMemberTurn s x F table contents before now old_member answer new_member
