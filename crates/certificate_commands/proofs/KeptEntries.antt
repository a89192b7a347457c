-- The entries of a course: their cells, numbers and places.
use Rattle.std.proofs.Common.{ℕ, zero, suc, ◌+◌, ◌≤◌, arith, Bool, List, [], ◌∷◌, ◌++◌, length, sym, subst}
use Rattle.std.specs.Prelude.{Option, None, slice_get}
use Rattle.std.specs.List.{AllByRecursion}
use Rattle.bz_model.specs.declared.cell.Cell.{Cell}
use Rattle.bz_model.specs.Cell.{IsCell, AreCells, spelled}
use Rattle.bz_model.specs.Spec.{Mode}
use Rattle.bz_laws.proofs.Samples.{AllByRecursion-append}
use Rattle.choice_draw.specs.Draw.{bit_of}
use Rattle.labelling.specs.LabelsByBits.{bits_in}
use Rattle.labelling.specs.Spelled.{SpellsLabelling, LabellingsSpell}
use Rattle.object_store.specs.Tokens.{size_of}
use Rattle.shape_sampler.specs.Visit.{Chooser, Attempt, Visited, visit, begun}
use Rattle.size_window.specs.InOrder.{AreInOrder, last_end}
use Rattle.size_window.specs.Redrawn.{HasLabelsAgain, visited_next, visits, IsRedrawnAlone}
use Rattle.size_window.specs.RunByBits.{Limits, Entry}
use Rattle.size_window.proofs.SpelledVisits.{SpellsVisit, visit-spells}

cells-both : (xs ys : List Cell) → AreCells xs → AreCells ys → AreCells (xs ++ ys)
cells-both xs ys h k = AllByRecursion-append (λ (c : Cell). IsCell c.k c.b) xs ys h k

-- The cells of an attempt that went on are cells.
abbrev HasCells : Visited → Type 0
HasCells (Visited.Went a) = AreCells a.cells
HasCells (Visited.Over a) = Unit {0}
HasCells (Visited.Straddled node cell) = Unit {0}
HasCells (Visited.Ended place) = Unit {0}
HasCells (Visited.Failed place) = Unit {0}

module _ (c : Chooser) (tape : ℕ → Option Bool) where
  spelled-cells : (a : Attempt) (v : Visited) → AreCells a.cells → SpellsVisit tape a v → HasCells v
  spelled-cells a (Visited.Went now) h k = subst AreCells (sym k.cells) (cells-both a.cells k.more h k.spelled_there.each)
  spelled-cells a (Visited.Over now) h k = tt
  spelled-cells a (Visited.Straddled node cell) h k = tt
  spelled-cells a (Visited.Ended place) h k = tt
  spelled-cells a (Visited.Failed place) h k = tt

  next-cells : (v : Visited) → HasCells v → HasCells (visited_next c (bit_of tape None) v)
  next-cells (Visited.Went a) h = spelled-cells a (visit c (bit_of tape None) a) h (visit-spells c tape None a a.pending)
  next-cells (Visited.Over a) h = tt
  next-cells (Visited.Straddled node cell) h = tt
  next-cells (Visited.Ended place) h = tt
  next-cells (Visited.Failed place) h = tt

  visits-cells : (n : ℕ) (a : Attempt) → AreCells a.cells → HasCells (visits c (bit_of tape None) n a)
  visits-cells zero a h = h
  visits-cells (suc n) a h = next-cells (visits c (bit_of tape None) n a) (visits-cells n a h)

labelled-cells : (spell : LabellingsSpell) (mode : Mode) (bits : ℕ → Option Bool) (made : Attempt) (e : Entry) (end : ℕ) → AreCells made.cells → HasLabelsAgain mode bits made e end → AreCells e.cells
labelled-cells spell Mode.Unlabelled bits made e end h k = subst AreCells (sym k.1) h
labelled-cells spell Mode.Labelled bits made e end h k =
    let spells = subst (SpellsLabelling bits made.used) k.given (spell bits None (size_of made.tokens) made.used) in
    subst AreCells (sym k.cells) (cells-both made.cells k.more h spells.each)

-- what is made again from its cells has cells
pub entry-cells : LabellingsSpell → (c : Chooser) (greatest : ℕ) (e : Entry) → IsRedrawnAlone c greatest e → AreCells e.cells
entry-cells spell c greatest e r =
    let bits = slice_get (spelled e.cells) in
    let made : AreCells r.made.cells = subst HasCells r.comes (visits-cells c bits r.number (begun c.spec greatest 0) tt) in
    labelled-cells spell c.spec.mode bits r.made e _ made r.labels

-- An entry's number, place and size are at most these.
pub record IsBelow (number place size : ℕ) (e : Entry) : Type 0 where
  pub number_is : e.number ≤ number
  pub place_is : e.place ≤ place
  pub size_is : e.size ≤ size

-- the last entry ends after the first begins
ends-later : (limits : Limits) (number place : ℕ) (es : List Entry) → AreInOrder limits number place es → place ≤ last_end place es
ends-later limits number place [] h = omega arith
ends-later limits number place (e ∷ es) h =
    let first = h.0.begins in
    let later = ends-later limits e.number (e.place + bits_in e.cells) es h.1 in
    omega (arith, first, later)

-- entries in order have small numbers, places and sizes
pub all-below : (limits : Limits) (most used number place : ℕ) (es : List Entry) → AreInOrder limits number place es → number + length es ≤ most → last_end place es ≤ used → AllByRecursion (IsBelow most used limits.max) es
all-below limits most used number place [] h count ends = tt
all-below limits most used number place (e ∷ es) h count ends =
    let number_is = h.0.number_is in
    let later = ends-later limits e.number (e.place + bits_in e.cells) es h.1 in (
      record { number_is = omega (arith, number_is, count); place_is = omega (arith, later, ends); size_is = h.0.greatest },
      all-below limits most used e.number (e.place + bits_in e.cells) es h.1 (omega (arith, number_is, count)) ends,
    )
