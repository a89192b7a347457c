-- A labelling under way stands for the beginning of the ideal labelling, for all numbers of its cells.
use Rattle.std.proofs.Common.{◌≡◌, ℕ, ◌<◌, ◌≤◌, List, [], ◌∷◌, ◌++◌, length, remove, slice_index, Some, refl, sym, ◌∙◌, ap, subst, arith, append_assoc}
use Rattle.std.specs.Prelude.{slice_get}
use Rattle.std.proofs.lemmas.Option.{slice_get-get_or}
use Rattle.bz_model.specs.declared.cell.Cell.{Cell}
use Rattle.bz_model.specs.Fraction.{Fraction, floor_times}
use Rattle.bz_model.specs.Cell.{AreInCells}
use Rattle.bz_model.specs.Labels.{LabelsOutOf, IdealLabels, numbers_from}
use Rattle.bz_laws.proofs.Labelled.{one_to}
use Rattle.choice_draw.specs.Whole.{Decides}
use Rattle.labelling.specs.Answer.{AreIdealLabels}
use Rattle.labelling.specs.Progress.{ProgressState, one_given}
use Rattle.labelling.proofs.Numbers.{last-of, least_of, least_of-in}

-- Whatever labels the remaining ones may give from further numbers, they are given after those before, from the numbers of the cells and the further ones.
pub record NamesIdeally (n : ℕ) (p : ProgressState) : Type 0 where
  pub names : (us rest : List Fraction) (labels : List ℕ) (left : List Fraction) → AreInCells us p.cells → LabelsOutOf p.remaining rest labels left → IdealLabels n (us ++ rest) (p.given ++ labels) left

-- Before any number is drawn, a labelling with the labels 1 to n remaining stands for the ideal
-- labelling of n atoms.
pub names-first : (n : ℕ) → NamesIdeally n (record { remaining = numbers_from 1 n; given = []; cells = [] })
names-first n = record { names = none }
  where
    none : (us rest : List Fraction) (labels : List ℕ) (left : List Fraction) → AreInCells us [] → LabelsOutOf (numbers_from 1 n) rest labels left → IdealLabels n (us ++ rest) ([] ++ labels) left
    none [] rest labels left inside out = out
    none (u ∷ us) rest labels left inside out = elim inside [ ]

-- a number takes a label out of two or more
takes-out : (remaining : List ℕ) (u : Fraction) (us : List Fraction) (i : ℕ) (labels : List ℕ) (left : List Fraction) → 2 ≤ length remaining → i < length remaining → floor_times u (length remaining) ≡ i → LabelsOutOf (remove remaining i) us labels left → LabelsOutOf remaining (u ∷ us) (slice_index remaining i ∷ labels) left
takes-out [] u us i labels left some within is out = absurd (omega arith)
takes-out (a ∷ []) u us i labels left some within is out = absurd (omega arith)
takes-out (a ∷ c ∷ rest) u us i labels left some within is out = (
  subst (λ j. slice_get (a ∷ c ∷ rest) j ≡ Some (slice_index (a ∷ c ∷ rest) i)) (sym is) (slice_get-get_or (a ∷ c ∷ rest) i 0 within),
  subst (λ j. LabelsOutOf (remove (a ∷ c ∷ rest) j) us labels left) (sym is) out,
)

-- the next atom gets its label by the number of the next cell
pub names-on : (n m i : ℕ) (p : ProgressState) (cell : Cell) → NamesIdeally n p → length p.remaining ≡ m → 2 ≤ m → i < m → Decides cell.k cell.b m i → NamesIdeally n (one_given p i cell)
names-on n m i p cell before count some within decides = record {
  names = λ us rest labels left inside out.
      let w = last-of us p.cells cell inside in
      let floor : floor_times w.last (length p.remaining) ≡ i = ap (floor_times w.last) count ∙ decides w.last w.in_last in
      let taken = takes-out p.remaining w.last rest i labels left (omega arith) (omega arith) floor out in
      let all = before.names w.front (w.last ∷ rest) (slice_index p.remaining i ∷ labels) left w.in_front taken in
      let numbers : w.front ++ (w.last ∷ rest) ≡ us ++ rest = sym (append_assoc w.front (w.last ∷ []) rest) ∙ ap (λ vs. vs ++ rest) (sym w.whole) in
      let given : p.given ++ (slice_index p.remaining i ∷ labels) ≡ (p.given ++ slice_index p.remaining i ∷ []) ++ labels = sym (append_assoc p.given (slice_index p.remaining i ∷ []) labels) in
      subst (λ vs. IdealLabels n vs ((p.given ++ slice_index p.remaining i ∷ []) ++ labels) left) numbers (subst (λ ls. IdealLabels n (w.front ++ (w.last ∷ rest)) ls left) given all);
}

-- the last label takes no number
last-out : (remaining : List ℕ) (rest : List Fraction) → length remaining ≤ 1 → LabelsOutOf remaining rest remaining rest
last-out [] rest few = refl
last-out (a ∷ []) rest few = (refl, refl)
last-out (a ∷ c ∷ more) rest few = absurd (omega arith)

-- Once at most one label remains, a labelling that stands for the ideal one has the ideal labels,
-- the last one included.
pub names-done : (n : ℕ) (p : ProgressState) → NamesIdeally n p → length p.remaining ≤ 1 → AreIdealLabels n (p.given ++ p.remaining) p.cells
names-done n p all few = record { labels_of = of; one_to = one_to n (least_of p.cells ++ []) (p.given ++ p.remaining) [] (of (least_of p.cells) [] (least_of-in p.cells)) }
  where
    of : (us rest : List Fraction) → AreInCells us p.cells → IdealLabels n (us ++ rest) (p.given ++ p.remaining) rest
    of us rest inside = all.names us rest p.remaining rest inside (last-out p.remaining rest few)
