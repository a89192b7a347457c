-- Counted nodes whose part has an object of size 0: their range has a high, which is at most 64, so that not every number up to 64 can be passed over.
use Rattle.std.proofs.Common.{◌≡◌, inl, inr, ℕ, zero, suc, ◌<◌, ◌≤◌, Option, Some, None, arith, refl, subst}
use Rattle.std.proofs.Math.Decide.{dec_le}
use Rattle.bz_model.specs.declared.cell.Cell.{Cell}
use Rattle.bz_model.specs.Fraction.{Fraction}
use Rattle.bz_model.specs.Spec.{Spec, node_at, range_at}
use Rattle.bz_model.specs.Measures.{HasZero}
use Rattle.bz_model.specs.WellFounded.{IsWellFounded}
use Rattle.bz_model.specs.Ideal.{Before, IsIdealOption, IsGreatestOption}
use Rattle.bz_laws.proofs.Counted.{high-greatest}
use Rattle.class_system.specs.Sound.{IsSound}
use Rattle.class_system.proofs.Soundness.{has_range}
use Rattle.well_founded.specs.Foundedness.{Counts, IsCountedOf}
use Rattle.well_founded.proofs.Orderly.{IsOrderly, orderly}
use Rattle.well_founded.proofs.Least.{belongs-empty}
use Rattle.well_founded.proofs.Refused.{zero_part-unfounded}
use Rattle.series_bounds.specs.Series.{Kind}
use Rattle.choice_draw.specs.IdealOfCell.{IsOverOfCell}
use Rattle.count_draw.specs.Kinds.{counted_node}
use Rattle.count_draw.proofs.CountedNodes.{form_of, is_counted}
use Rattle.shape_sampler.proofs.Numbers.{least, least-in}

-- The range of the node has a high, which is at most 64 and not below the low.
pub record HasHigh (s : Spec) (e : ℕ) : Type 0 where
  pub low : ℕ
  pub high : ℕ
  pub range : range_at s e ≡ Some (record { low = low; high = Some high })
  pub within : low ≤ high
  pub few : high ≤ 64

counted-of : (kind : Kind) (part : ℕ) → IsCountedOf (counted_node kind part) part
counted-of Kind.Seq part = refl
counted-of Kind.Set part = refl
counted-of Kind.Cyc part = refl

-- in a well-founded specification it has one where its part has an object of size 0
pub free-high : (s : Spec) → IsSound s → IsWellFounded s → (e part : ℕ) (kind : Kind) → node_at s e ≡ Some (counted_node kind part) → HasZero s part → HasHigh s e
free-high s sound founded e part kind at zero_part =
    let ranged = has_range s sound e (counted_node kind part) at in
    with-high ranged.0.low ranged.0.high (record { node = counted_node kind part; is_node = at; of_part = counted-of kind part; is_range = ranged.1 })
  where
    ordered : IsOrderly s
    ordered = orderly s sound

    with-high : (low : ℕ) (high : Option ℕ) → Counts s e part (record { low = low; high = high }) → HasHigh s e
    with-high low None counts = absurd (zero_part-unfounded s ordered e (record { part = part; range = record { low = low; high = None }; counts = counts; endless = refl; zero = belongs-empty s part zero_part }) founded)
    with-high low (Some high) counts = let r = ordered.ranges e part (record { low = low; high = Some high }) counts in record { low = low; high = high; range = counts.is_range; within = r.low_within; few = r.few }

module _ (s : Spec) (x u : Fraction) (e room : ℕ) (never : (i : ℕ) → i ≤ room → ¬ (IsIdealOption s x u e i)) where
  -- where no option up to the room is ideal, the number comes before the end of none of them
  none-before : (n : ℕ) → n ≤ suc room → (j : ℕ) → j < n → ¬ (Before s x u e j)
  none-before zero le j less before = absurd (omega arith)
  none-before (suc n) le j less before = last (none-before n (omega arith)) (dec_le (suc j) n)
    where
      last : ((k : ℕ) → k < n → ¬ (Before s x u e k)) → Dec (suc j ≤ n) → ⊥
      last earlier (yes l) = earlier j l before
      last earlier (no k) = let same : j ≡ n = omega (arith, k) in never n (omega arith) (record { none_before = earlier; here = inl (subst (Before s x u e) same before) })

  -- so the greatest option is none of them
  pub greatest-above : (high : ℕ) → IsGreatestOption s e high → ¬ (high ≤ room)
  greatest-above high greatest le = never high le (record { none_before = none-before high (omega arith); here = inr greatest })

-- not every number of parts up to 64 is passed over where the part has an object of size 0
pub free-not_over : (s : Spec) → IsSound s → IsWellFounded s → (x : Fraction) (e part : ℕ) (kind : Kind) (cell : Cell) → node_at s e ≡ Some (counted_node kind part) → HasZero s part → ¬ (IsOverOfCell s x e cell 64)
free-not_over s sound founded x e part kind cell at zero_part over =
    let h = free-high s sound founded e part kind at zero_part in
    let greatest = high-greatest s e part h.low h.high (counted_node kind part) (form_of kind) at (is_counted kind part) h.range h.within zero_part.object zero_part.belongs in
    greatest-above s x (least cell) e 64 (over (least cell) (least-in cell)) h.high greatest h.few
