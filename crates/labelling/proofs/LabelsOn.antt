-- A labelling over told bits that goes on from a state, and how it ends.
use Rattle.std.proofs.Common.{◌≡◌, ℕ, Bool, zero, suc, ◌+◌, ◌-◌, ◌≤◌, List, [], ◌∷◌, ◌++◌, length, remove, slice_index, Option, Some, None, refl, sym, ◌∙◌, ap, arith, append-nil}
use Rattle.bz_model.specs.declared.cell.Cell.{Cell}
use Rattle.bz_model.specs.Labels.{numbers_from}
use Rattle.choice_draw.specs.Decision.{whole_decision}
use Rattle.choice_draw.specs.Draw.{Bit, Draw, bit_of, draw}
use Rattle.choice_draw.specs.LeastCell.{FailsFrom}
use Rattle.choice_draw.proofs.LeastCells.{draws_least}
use Rattle.choice_draw.proofs.LeastDrawn.{least_is_drawn}
use Rattle.labelling.specs.LabelsByBits.{Labelling, labels_from, labelling}
use Rattle.labelling.specs.Progress.{ProgressState, one_given}

-- The labelling of n atoms from the start on goes on from this state and place, with m labels remaining: wherever the shelf fails from here on, it ends as the labelling from here ends.
pub record LabelsOn (tape : ℕ → Option Bool) (n start m : ℕ) (p : ProgressState) (place : ℕ) : Type 0 where
  pub same : (fault : Option ℕ) → FailsFrom place fault → labelling (bit_of tape fault) n start ≡ labels_from (bit_of tape fault) m p.remaining p.given p.cells place

-- what a labelling does after a number is drawn
unfoldable pub after_number : (bit : ℕ → Bit) (k : ℕ) (p : ProgressState) (place : ℕ) → Draw ℕ → Labelling
after_number bit k p place drawn = elim drawn as (λ _. Labelling) [
  | Draw.Decided i cell ↦ labels_from bit (suc k) (remove p.remaining i) (p.given ++ slice_index p.remaining i ∷ []) (p.cells ++ cell ∷ []) (place + cell.b)
  | Draw.Straddled cell ↦ Labelling.Straddled (suc (suc k)) cell p.cells (place + cell.b)
  | Draw.Ended end ↦ Labelling.Ended p.cells end
  | Draw.Failed end ↦ Labelling.Failed p.cells end
]

-- While two or more labels remain, a labelling goes on as the whole number drawn below their number
-- decides.
pub unfolds : (bit : ℕ → Bit) (k : ℕ) (p : ProgressState) (place : ℕ) → labels_from bit (suc (suc k)) p.remaining p.given p.cells place ≡ after_number bit k p place (draw (whole_decision (suc (suc k))) bit place)
unfolding after_number
unfolds bit k p place = refl

fails_earlier : (fault : Option ℕ) (place more : ℕ) → FailsFrom (place + more) fault → FailsFrom place fault
fails_earlier None place more later = tt
fails_earlier (Some fault) place more later = omega arith

two_more : (m : ℕ) → 2 ≤ m → m ≡ suc (suc (m - 2))
two_more m some = omega arith

one_more : (m : ℕ) → 2 ≤ m → m - 1 ≡ suc (m - 2)
one_more m some = omega arith

module _ (tape : ℕ → Option Bool) (n start : ℕ) where
  pub labels-first : LabelsOn tape n start n (record { remaining = numbers_from 1 n; given = []; cells = [] }) start
  labels-first = record { same = λ fault later. refl }

  module _ (m : ℕ) (p : ProgressState) (place : ℕ) (here : LabelsOn tape n start m p place) where
    -- where at most one label remains, all are given
    done-at : (k : ℕ) (remaining : List ℕ) → k ≤ 1 → length remaining ≡ k → labels_from (bit_of tape None) k remaining p.given p.cells place ≡ Labelling.Given (p.given ++ remaining) p.cells place
    done-at zero [] few all = ap (λ labels. Labelling.Given labels p.cells place) (sym (append-nil p.given))
    done-at zero (a ∷ rest) few all = absurd (cc)
    done-at (suc zero) remaining few all = refl
    done-at (suc (suc k)) remaining few all = absurd (omega arith)

    pub labels-done : m ≤ 1 → length p.remaining ≡ m → labelling (bit_of tape None) n start ≡ Labelling.Given (p.given ++ p.remaining) p.cells place
    labels-done few all = here.same None tt ∙ done-at m p.remaining few all

    module _ (some : 2 ≤ m) where
      -- the labelling from here, by the draw that comes next
      by_draw : (fault : Option ℕ) (drawn : Draw ℕ) → FailsFrom place fault → draw (whole_decision m) (bit_of tape fault) place ≡ drawn → labelling (bit_of tape fault) n start ≡ after_number (bit_of tape fault) (m - 2) p place drawn
      by_draw fault drawn later is =
          here.same fault later
          ∙ ap (λ k. labels_from (bit_of tape fault) k p.remaining p.given p.cells place) (two_more m some)
          ∙ unfolds (bit_of tape fault) (m - 2) p place
          ∙ ap (λ k. after_number (bit_of tape fault) (m - 2) p place (draw (whole_decision k) (bit_of tape fault) place)) (sym (two_more m some))
          ∙ ap (after_number (bit_of tape fault) (m - 2) p place) is

      -- a decided number names a label, and leads on
      pub labels-on : (i : ℕ) (cell : Cell) → draw (whole_decision m) (bit_of tape None) place ≡ Draw.Decided i cell → LabelsOn tape n start (m - 1) (one_given p i cell) (place + cell.b)
      unfolding after_number
      labels-on i cell decided = record {
        same = λ fault later.
            by_draw fault (Draw.Decided i cell) (fails_earlier fault place cell.b later) (least_is_drawn (whole_decision m) tape fault place i cell (draws_least (whole_decision m) tape None place i cell decided) later)
            ∙ ap (λ k. labels_from (bit_of tape fault) k (remove p.remaining i) (p.given ++ slice_index p.remaining i ∷ []) (p.cells ++ cell ∷ []) (place + cell.b)) (sym (one_more m some));
      }

      -- a cell that straddles ends it
      pub labels-straddled : (cell : Cell) → draw (whole_decision m) (bit_of tape None) place ≡ Draw.Straddled cell → labelling (bit_of tape None) n start ≡ Labelling.Straddled m cell p.cells (place + cell.b)
      unfolding after_number
      labels-straddled cell drawn = by_draw None (Draw.Straddled cell) tt drawn ∙ ap (λ k. Labelling.Straddled k cell p.cells (place + cell.b)) (sym (two_more m some))

      -- so does the end of the tape
      pub labels-ended : (end : ℕ) → draw (whole_decision m) (bit_of tape None) place ≡ Draw.Ended end → labelling (bit_of tape None) n start ≡ Labelling.Ended p.cells end
      unfolding after_number
      labels-ended end drawn = by_draw None (Draw.Ended end) tt drawn

      -- and a shelf that fails
      pub labels-failed : (end : ℕ) → place ≤ end → draw (whole_decision m) (bit_of tape (Some end)) place ≡ Draw.Failed end → labelling (bit_of tape (Some end)) n start ≡ Labelling.Failed p.cells end
      unfolding after_number
      labels-failed end later drawn = by_draw (Some end) (Draw.Failed end) later drawn
