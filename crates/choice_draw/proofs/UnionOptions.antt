-- The options of a union are sound where the table is.
use Rattle.std.proofs.Common.{◌≡◌, ℕ, zero, suc, ◌+◌, ◌-◌, ◌^◌, ◌<◌, ◌≤◌, min, length, List, [], ◌∷◌, map, take, sum, arith, refl, Some}
use Rattle.std.specs.Prelude.{slice_get, sum_by}
use Rattle.std.specs.List.{AllByRecursion}
use Rattle.std.proofs.Math.Nat.{mul-le-mul_right}
use Rattle.std.proofs.lemmas.List.Sums.{sum-map, sum_by-cons}
use Rattle.bz_model.specs.declared.cell.Bounds.{Bounds}
use Rattle.bz_model.specs.Fraction.{Fraction, AtMost, units}
use Rattle.bz_model.specs.Spec.{Spec, Node, node_at}
use Rattle.bz_model.specs.Object.{Belongs}
use Rattle.bz_model.specs.Totals.{Above, Below, total_by}
use Rattle.bz_model.specs.Ideal.{Upto, IsGreatestOption}
use Rattle.bz_model.specs.Oracle.{IsSoundTable, Encloses}
use Rattle.bz_laws.proofs.Fractions.{AtMost-trans}
use Rattle.bz_laws.proofs.Samples.{AboveBy-weaker}
use Rattle.bz_laws.proofs.Bounds.{above-min, below-lower, above-higher, units_sum, units_sum'}
use Rattle.bz_laws.proofs.Unions.{above-upto, below-upto, last-greatest, part_there}
use Rattle.choice_draw.specs.Decision.{capped_lower_sum, union_options}
use Rattle.choice_draw.proofs.SoundOptions.{AreSound}

-- a saturating sum is at most the sum
pub added_down-le : (v : ℕ) (ws : List ℕ) → capped_lower_sum v ws ≤ v + sum ws
added_down-le v [] = omega arith
added_down-le v (w ∷ ws) = let rest = added_down-le (min (v + w) (2 ^ 64 - 1)) ws in let first : sum (w ∷ ws) ≡ w + sum ws = sum_by-cons (λ n. n) w ws in omega arith

units-mono : (F a b : ℕ) → a ≤ b → AtMost (units F a) (units F b)
units-mono F a b le = record { cross = mul-le-mul_right (2 ^ F) le }

-- each part of a list has a property where each that is at a place has it
pub each_part : (P : ℕ → Type 0) (parts : List ℕ) → ((i p : ℕ) → slice_get parts i ≡ Some p → P p) → AllByRecursion P parts
each_part P [] at = tt
each_part P (p ∷ parts) at = (at 0 p refl, each_part P parts (λ i q e. at (suc i) q e))

first_parts : (P : ℕ → Type 0) (n : ℕ) (parts : List ℕ) → AllByRecursion P parts → AllByRecursion P (take n parts)
first_parts P zero parts all = tt
first_parts P (suc n) [] all = tt
first_parts P (suc n) (p ∷ parts) all = (all.0, first_parts P n parts all.1)

module _ (s : Spec) (x : Fraction) (F e : ℕ) (parts : List ℕ) (node : node_at s e ≡ Some (Node.Union parts)) (table : (level node : ℕ) → Bounds) (sound : IsSoundTable s x F table) (in_range : e < length s.nodes) (parts_in_range : (i p : ℕ) → slice_get parts i ≡ Some p → p < length s.nodes) (some : 0 < length parts) (level : ℕ) (from_one : 1 ≤ level) (to_six : level ≤ 6) where
  enclosed : (i p : ℕ) → slice_get parts i ≡ Some p → Encloses s x F p (table level p)
  enclosed i p at = sound.enclosed level p from_one to_six (parts_in_range i p at)

  lower : (i : ℕ) → Below x (units F (capped_lower_sum 0 (map (λ p. (table level p).lo) (take (suc i) parts)))) (Upto s e i)
  lower i =
      below-lower x (total_by (λ p. units F (table level p).lo) (take (suc i) parts)) _ (Upto s e i)
      (AtMost-trans (units-mono F _ (sum_by (λ p. (table level p).lo) (take (suc i) parts)) (omega (arith, added_down-le 0 (map (λ p. (table level p).lo) (take (suc i) parts)), sum-map (λ p. (table level p).lo) (take (suc i) parts)))) (units_sum F (λ p. (table level p).lo) (take (suc i) parts)))
      (below-upto s x e parts node (λ p. units F (table level p).lo) i (first_parts (λ p. Below x (units F (table level p).lo) (Belongs s p)) (suc i) parts (each_part (λ p. Below x (units F (table level p).lo) (Belongs s p)) parts (λ j p at. (enclosed j p at).reached))))

  upper_sum : (i : ℕ) → Above x (units F (sum (map (λ p. (table level p).hi) (take (suc i) parts)))) (Upto s e i)
  upper_sum i =
      rw sum-map (above-higher x (total_by (λ p. units F (table level p).hi) (take (suc i) parts)) _ (Upto s e i)
      (units_sum' F (λ p. (table level p).hi) (take (suc i) parts))
      (above-upto s x e parts node (λ p. units F (table level p).hi) i (first_parts (λ p. Above x (units F (table level p).hi) (Belongs s p)) (suc i) parts (each_part (λ p. Above x (units F (table level p).hi) (Belongs s p)) parts (λ j p at. (enclosed j p at).above)))))

  upper : (i : ℕ) → Above x (units F (min (table level e).hi (sum (map (λ p. (table level p).hi) (take (suc i) parts))))) (Upto s e i)
  upper i = above-min x F _ _ (Upto s e i) (AboveBy-weaker (λ o up. up.0) (sound.enclosed level e from_one to_six in_range).above) (upper_sum i)

  last_part : (i : ℕ) → Some (length parts - 1) ≡ Some i → IsGreatestOption s e i
  last_part i same =
      let here : length parts - 1 ≡ i = cc in
      let there = part_there parts i (omega arith) in
      let has = sound.inhabited there.0 (parts_in_range i there.0 there.1) in
      last-greatest s e parts node i there.0 has.0 (omega arith) there.1 has.1

  -- the options of a union, from a sound table
  pub union-sound : AreSound s x F e (union_options (table level) e parts)
  union-sound =
      let object = sound.inhabited e in_range in
      record {
        positive = sound.positive;
        object = object.0;
        belongs = object.1;
        whole = sound.enclosed level e from_one to_six in_range;
        reached = λ i from below. lower i;
        above = λ i from below. upper i;
        none_below = λ q m. omega arith;
        last = last_part;
        room = λ r none. let never : ⊥ = cc in absurd never;
      }
