-- What a drawing's course has to do with the ideal run.
use Rattle.std.specs.Prelude.{◌≡◌, ℕ, List, [], ◌∷◌, ◌++◌, length, None}
use Rattle.std.specs.List.{AllByRecursion}
use Rattle.bz_model.specs.declared.cell.Cell.{Cell}
use Rattle.bz_model.specs.Fraction.{Fraction}
use Rattle.bz_model.specs.Spec.{Spec}
use Rattle.bz_model.specs.Cell.{AreInCells}
use Rattle.bz_model.specs.Measures.{size}
use Rattle.bz_model.specs.Making.{ClassMakes, Just}
use Rattle.bz_model.specs.Run.{Window, Kept, IdealRun, KeepsLabels}
use Rattle.object_store.specs.Tokens.{tokens_of}
use Rattle.size_window.specs.RunByBits.{Limits, Entry, Course}

-- An entry is of a kept object: it has the object's tokens and its labels.
pub record IsEntryOf (k : Kept) (e : Entry) : Type 0 where
  pub tokens : tokens_of k.object ≡ e.tokens
  pub labels : k.labels ≡ e.labels

-- Entries are of kept objects, in order.
abbrev pub AreEntriesOf : List Kept → List Entry → Type 0
AreEntriesOf [] [] = Unit {0}
AreEntriesOf (k ∷ ks) (e ∷ es) = IsEntryOf k e × AreEntriesOf ks es
AreEntriesOf _ _ = ⊥

-- From exactly these numbers, none being left, class 0 makes an object within the room, and the
-- numbers after those of the object give it its labels: none in unlabelled mode, the ideal labels
-- in labelled mode.
pub record MakesOf (s : Spec) (x : Fraction) (room : ℕ) (us : List Fraction)
    (k : Kept) : Type 0 where
  pub room_left : ℕ
  pub after : List Fraction
  pub makes : ClassMakes s x 0 room us (Just k.object room_left) after
  pub labels : KeepsLabels s.mode (size k.object) after k.labels []

-- An entry is made of its own cells where it is of one kept object, which is made of every list of
-- numbers in the entry's cells.
pub record IsMadeOfItsCells (s : Spec) (x : Fraction) (room : ℕ) (e : Entry) : Type 0 where
  pub kept : Kept
  pub entry : IsEntryOf kept e
  pub made : (us : List Fraction) → AreInCells us e.cells → MakesOf s x room us kept

-- Each entry is made of its own cells.
abbrev pub AreMadeOfTheirCells : Spec → Fraction → (room : ℕ) → List Entry → Type 0
AreMadeOfTheirCells s x room es = AllByRecursion (IsMadeOfItsCells s x room) es

-- The window of limits.
abbrev pub window_of : Limits → Window
window_of l = record { min = l.min; max = l.max; count = l.count }

-- A course follows the ideal run where its cells are those of finished attempts and others after
-- them, and for all numbers in the cells of the finished attempts, and any further numbers, the
-- ideal run keeps the objects of its entries, throws away as many attempts, and leaves the further
-- numbers. Each entry is made of its own cells.
pub record Follows (s : Spec) (x : Fraction) (limits : Limits) (c : Course) : Type 0 where
  pub finished : List Cell
  pub others : List Cell
  pub cells : c.cells ≡ finished ++ others
  pub kept : List Kept
  pub entries : AreEntriesOf kept c.entries
  pub number : length kept ≡ c.state.kept
  pub run : (us rest : List Fraction) → AreInCells us finished → IdealRun s x (window_of limits)
      (us ++ rest) kept c.state.thrown rest
  pub own : AreMadeOfTheirCells s x limits.max c.entries

-- A course goes as ideal runs do where it follows the ideal run and, while it hasn't ended, the
-- other cells are those of the attempt under way.
pub record GoesIdeally (s : Spec) (x : Fraction) (limits : Limits) (c : Course) : Type 0 where
  pub follows : Follows s x limits c
  pub under_way : c.state.ending ≡ None → follows.others ≡ c.state.attempt.cells
