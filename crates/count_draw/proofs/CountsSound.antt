-- The options of a counted node are sound where the table is.
use Rattle.std.proofs.Common.{◌≡◌, ℕ, suc, ◌+◌, ◌-◌, ◌<◌, ◌≤◌, length, arith, refl, sym, subst, Option, Some, None}
use Rattle.bz_model.specs.declared.cell.Bounds.{Bounds}
use Rattle.bz_model.specs.Fraction.{Fraction, AtMost, units, sum_from}
use Rattle.bz_model.specs.Spec.{Spec, Range, range_at, IsWithinHigh}
use Rattle.bz_model.specs.Totals.{Above, Below}
use Rattle.bz_model.specs.Ideal.{Upto, IsGreatestOption}
use Rattle.bz_model.specs.Oracle.{IsSoundTable, Encloses}
use Rattle.bz_laws.specs.Terms.{term_of}
use Rattle.bz_laws.proofs.Samples.{AboveBy-weaker}
use Rattle.bz_laws.proofs.Bounds.{below-lower, above-higher}
use Rattle.bz_laws.proofs.Counted.{above-upto, below-upto, high-greatest, not-below-low}
use Rattle.series_bounds.specs.Series.{Kind, part_down, part_up}
use Rattle.series_bounds.specs.ExactSums.{exact}
use Rattle.series_bounds.proofs.Rules.{part_down-reached, part_up-cases}
use Rattle.choice_draw.proofs.SoundOptions.{AreSound}
use Rattle.count_draw.specs.Kinds.{counted_node}
use Rattle.count_draw.specs.Decision.{top_option, counted_options}
use Rattle.count_draw.proofs.CountedNodes.{IsCountedAs, form_of, is_counted, node_inside}

-- the sums of a node's terms are those of its series
same-terms : (kind : Kind) (part : ℕ) (a : Fraction) (j n : ℕ) → sum_from (term_of (counted_node kind part) a) j n ≡ sum_from (exact kind a) j n
same-terms Kind.Seq part a j n = refl
same-terms Kind.Set part a j n = refl
same-terms Kind.Cyc part a j n = refl

-- an option up to the greatest is within the high
pub within-top : (high : Option ℕ) (low room i : ℕ) → low ≤ i → i < low + (suc (top_option high room) - low) → IsWithinHigh i high
within-top None low room i from below = tt
within-top (Some h) low room i from below = omega arith

-- Each number of parts from the low up to the lesser of the high and the room is at most the room.
pub up_to_room : (high : Option ℕ) (low room i : ℕ) → low ≤ i → i < low + (suc (top_option high room) - low) → i ≤ room
up_to_room None low room i from below = omega arith
up_to_room (Some h) low room i from below = omega arith

module _ (s : Spec) (x : Fraction) (F e part : ℕ) (kind : Kind) (r : Range) (at : IsCountedAs s e part kind r) (part_bounds whole : Bounds) (part_encloses : Encloses s x F part part_bounds) (encloses : Encloses s x F e whole) where
  lower : (i : ℕ) → IsWithinHigh i r.high → Below x (units F (part_down kind F part_bounds.lo r.low i)) (Upto s e i)
  lower i fits =
      below-lower x (sum_from (term_of (counted_node kind part) (units F part_bounds.lo)) r.low (suc i - r.low)) _ (Upto s e i)
      (subst (λ q. AtMost (units F (part_down kind F part_bounds.lo r.low i)) q) (sym (same-terms kind part (units F part_bounds.lo) r.low (suc i - r.low))) (part_down-reached kind F part_bounds.lo r.low i))
      (below-upto s x (units F part_bounds.lo) e part (counted_node kind part) (form_of kind) at.node (is_counted kind part) r.low r.high at.range i fits part_encloses.reached)

  upper : (i : ℕ) → Above x (units F (part_up kind F part_bounds.hi r.low i whole.hi)) (Upto s e i)
  upper i = part_up-cases kind F part_bounds.hi r.low i whole.hi (λ v. Above x (units F v) (Upto s e i)) at.suits.first by_terms (AboveBy-weaker (λ o up. up.0) encloses.above)
    where
      by_terms : (v : ℕ) → AtMost (sum_from (exact kind (units F part_bounds.hi)) r.low (suc i - r.low)) (units F v) → Above x (units F v) (Upto s e i)
      by_terms v most =
          above-higher x (sum_from (term_of (counted_node kind part) (units F part_bounds.hi)) r.low (suc i - r.low)) (units F v) (Upto s e i)
          (subst (λ q. AtMost q (units F v)) (sym (same-terms kind part (units F part_bounds.hi) r.low (suc i - r.low))) most)
          (above-upto s x (units F part_bounds.hi) e part (counted_node kind part) (form_of kind) at.node (is_counted kind part) r.low r.high at.range i part_encloses.above)

-- the options of a counted node, from a sound table
pub counts-sound : (s : Spec) (x : Fraction) (F e part : ℕ) (kind : Kind) (r : Range) (table : (level node : ℕ) → Bounds) → IsCountedAs s e part kind r → IsSoundTable s x F table → part < length s.nodes → (level : ℕ) → 1 ≤ level → level ≤ 6 → (room : ℕ) → AreSound s x F e (counted_options kind F r (table level part) (table level e) room)
counts-sound s x F e part kind r table at sound part_in level from_one to_six room =
    let inside : e < length s.nodes = node_inside s e part kind at.node in
    let object = sound.inhabited e inside in
    let whole = sound.enclosed level e from_one to_six inside in
    let of_part = sound.enclosed level part from_one to_six part_in in
    record {
      positive = sound.positive;
      object = object.0;
      belongs = object.1;
      whole = whole;
      reached = λ i from below. lower s x F e part kind r at (table level part) (table level e) of_part whole i (within-top r.high r.low room i from below);
      above = λ i from below. upper s x F e part kind r at (table level part) (table level e) of_part whole i;
      none_below = λ q m. not-below-low s e part r.low r.high (counted_node kind part) (form_of kind) at.node (is_counted kind part) at.range q m;
      last = λ i same. last i same;
      room = λ i here. upper s x F e part kind r at (table level part) (table level e) of_part whole i;
    }
  where
    last : (i : ℕ) → r.high ≡ Some i → IsGreatestOption s e i
    last i same =
        let has = sound.inhabited part part_in in
        high-greatest s e part r.low i (counted_node kind part) (form_of kind) at.node (is_counted kind part)
        (subst (λ h. range_at s e ≡ Some (record { low = r.low; high = h })) same at.range)
        (subst (IsWithinHigh r.low) same at.suits.within) has.0 has.1
