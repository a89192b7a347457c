-- A labelling under way over the bits that it was given: how it goes on, and what each of its answers tells.
use Rattle.std.proofs.Common.{◌≡◌, ℕ, Bool, ◌+◌, ◌-◌, ◌≤◌, List, [], ◌++◌, length, Option, refl, sym, ◌∙◌, ap, subst, arith}
use Rattle.bz_model.specs.declared.cell.Cell.{Cell}
use Rattle.bz_model.specs.declared.cells.Cells.{Cells}
use Rattle.bz_model.specs.Labels.{numbers_from}
use Rattle.bit_tape.specs.Given.{HasBits, Gave}
use Rattle.bit_tape.proofs.GivenBits.{has_bits-first, has_bits-more, gave-none, gave-append}
use Rattle.choice_draw.specs.Decision.{whole_decision}
use Rattle.choice_draw.specs.Draw.{Draw}
use Rattle.choice_draw.specs.Answer.{IsDraw}
use Rattle.choice_draw.proofs.ToldDraws.{on_any}
use Rattle.labelling.specs.declared.labelled.Labelled.TheVariants.{Labels, Straddles, Ended, ReadFault, OutOfMemory}
use Rattle.labelling.specs.Answer.{IsLabelling}
use Rattle.labelling.specs.LabelsByBits.{Labelling, bits_in}
use Rattle.labelling.specs.Progress.{ProgressState, one_given}
use Rattle.labelling.proofs.LabelsOn.{LabelsOn, labels-first, labels-on, labels-done, labels-straddled, labels-ended, labels-failed}

-- The labelling was given these bits, and over every tape that has them there it goes on from this state and place, with m labels remaining.
pub record IsGivenSoFar (told : Option (ℕ → Option Bool)) (n start m : ℕ) (p : ProgressState) (place : ℕ) : Type 0 where
  pub given : List Bool
  pub gave : Gave told start place given
  pub goes : (bits : ℕ → Option Bool) → HasBits bits start given → LabelsOn bits n start m p place

-- out of memory nothing was given
pub given-nothing : (told : Option (ℕ → Option Bool)) (n start : ℕ) → IsLabelling told n start OutOfMemory start
given-nothing told n start = record {
  given = [];
  gave = gave-none told start;
  ended = on_any told (λ bits. tt);
  finished = [];
  uses = refl;
  exact = λ bits have ends some_memory. absurd (some_memory refl);
}

module _ (told : Option (ℕ → Option Bool)) (n start : ℕ) where
  pub given-first : IsGivenSoFar told n start n (record { remaining = numbers_from 1 n; given = []; cells = [] }) start
  given-first = record { given = []; gave = gave-none told start; goes = λ bits have. labels-first bits n start }

  module _ (m : ℕ) (p : ProgressState) (place : ℕ) (way : IsGivenSoFar told n start m p place) (spelled : place ≡ start + bits_in p.cells) where
    -- a tape that has the bits given so far and those of one more draw
    first_bits : (bits : ℕ → Option Bool) (more : List Bool) → HasBits bits start (way.given ++ more) → HasBits bits start way.given
    first_bits bits more have = has_bits-first bits start way.given more have

    more_bits : (bits : ℕ → Option Bool) (more : List Bool) → HasBits bits start (way.given ++ more) → HasBits bits place more
    more_bits bits more have = subst (λ at. HasBits bits at more) (sym way.gave.count) (has_bits-more bits start way.given more have)

    all_given : (now : ℕ) (more : List Bool) → Gave told place now more → Gave told start now (way.given ++ more)
    all_given now more gave = gave-append told start place now way.given more way.gave gave

    module _ (some : 2 ≤ m) where
      pub given-on : (i : ℕ) (cell : Cell) (now : ℕ) → IsDraw (whole_decision m) told place now (Draw.Decided i cell) → IsGivenSoFar told n start (m - 1) (one_given p i cell) now
      given-on i cell now d = record {
        given = way.given ++ d.given;
        gave = all_given now d.given d.gave;
        goes = λ bits have. subst (λ at. LabelsOn bits n start (m - 1) (one_given p i cell) at) (sym d.uses)
            (labels-on bits n start m p place (way.goes bits (first_bits bits d.given have)) some i cell (sym (d.exact bits (more_bits bits d.given have) tt)));
      }

      pub given-straddles : (cell : Cell) (now : ℕ) → IsDraw (whole_decision m) told place now (Draw.Straddled cell) → IsLabelling told n start (Straddles m cell) now
      given-straddles cell now d = record {
        given = way.given ++ d.given;
        gave = all_given now d.given d.gave;
        ended = on_any told (λ bits. tt);
        finished = p.cells;
        uses = let u = d.uses in omega arith;
        exact = λ bits have ends some_memory.
            ap (λ at. Labelling.Straddled m cell p.cells at) d.uses
            ∙ sym (labels-straddled bits n start m p place (way.goes bits (first_bits bits d.given have)) some cell (sym (d.exact bits (more_bits bits d.given have) tt)));
      }

      pub given-ended : (now : ℕ) → IsDraw (whole_decision m) told place now (Draw.Ended now) → IsLabelling told n start Ended now
      given-ended now d = record {
        given = way.given ++ d.given;
        gave = all_given now d.given d.gave;
        ended = d.ended;
        finished = p.cells;
        uses = let u = d.uses in (omega arith, omega arith);
        exact = λ bits have ends some_memory. sym (labels-ended bits n start m p place (way.goes bits (first_bits bits d.given have)) some now (sym (d.exact bits (more_bits bits d.given have) ends)));
      }

      pub given-failed : (now : ℕ) → IsDraw (whole_decision m) told place now (Draw.Failed now) → IsLabelling told n start ReadFault now
      given-failed now d = record {
        given = way.given ++ d.given;
        gave = all_given now d.given d.gave;
        ended = on_any told (λ bits. tt);
        finished = p.cells;
        uses = let u = d.uses in (omega arith, omega arith);
        exact = λ bits have ends some_memory. sym (labels-failed bits n start m p place (way.goes bits (first_bits bits d.given have)) some now (let u = d.uses in omega arith) (sym (d.exact bits (more_bits bits d.given have) tt)));
      }

    pub given-done : m ≤ 1 → length p.remaining ≡ m → (labels : List ℕ) (cells : Cells) → labels ≡ p.given ++ p.remaining → cells.items ≡ p.cells → IsLabelling told n start (Labels labels cells) place
    given-done few all labels cells given drawn_for = record {
      given = way.given;
      gave = way.gave;
      ended = on_any told (λ bits. tt);
      finished = [];
      uses = spelled ∙ ap (λ cs. start + bits_in cs) (sym drawn_for);
      exact = λ bits have ends some_memory. ap (λ ls. Labelling.Given ls cells.items place) given ∙ ap (λ cs. Labelling.Given (p.given ++ p.remaining) cs place) drawn_for ∙ sym (labels-done bits n start m p place (way.goes bits have) few all);
    }
