-- The contraction: a vector below its own image, whose bodies grow along the weights by less than the weights, is reached but for one unit.
use Rattle.std.proofs.Common.{◌≡◌, ℕ, zero, suc, ◌+◌, ◌-◌, ◌*◌, ◌^◌, ◌<◌, ◌≤◌, length, arith, subst, Some, pow_pos}
use Rattle.std.specs.Prelude.{Bool, IsTrue}
use Rattle.std.proofs.Math.Nat.{mul-le-mul_left, mul-le-mul_right, le_of_mul-le-mul_right, mul-pos}
use Rattle.bz_model.specs.Fraction.{Fraction, AtMost, plus, times, whole, units}
use Rattle.bz_model.specs.Spec.{Spec, body_of}
use Rattle.bz_model.specs.Object.{Belongs}
use Rattle.bz_model.specs.Totals.{Above, Below}
use Rattle.bz_laws.specs.Sound.{IsLaidOut}
use Rattle.bz_laws.specs.Values.{AreReached}
use Rattle.bz_laws.proofs.Fractions.{AtMost-trans, AtMost-refl, plus-mono, times-mono}
use Rattle.bz_laws.proofs.Bounds.{below-lower}
use Rattle.bz_laws.proofs.Samples.{below-none}
use Rattle.bz_laws.proofs.Sweeps.{below-zero}
use Rattle.bz_laws.proofs.Nodes.{above-has}
use Rattle.fast_lower.specs.Growth.{CoversGrowth}
use Rattle.fast_lower.specs.Close.{IsClose}
use Rattle.fast_lower.proofs.NodeGrows.{node-close}

-- k parts of n + 1.
abbrev pub part_of : (n k : ℕ) → Fraction
part_of n k = record { num = k; den = suc n; positive = omega arith }

-- One part less of the weight is enough for one number less than it.
shrink_nat : (k v w : ℕ) → v < w → w ≤ suc k → suc k * v ≤ k * w
shrink_nat k v w h most = let less : k * suc v ≤ k * w = mul-le-mul_left k h in omega (arith, less)

shrink : (F n k v w : ℕ) → v < w → w ≤ suc k → AtMost (times (part_of n (suc k)) (units F v)) (times (part_of n k) (units F w))
shrink F n k v w h most = record { cross = mul-le-mul_right (suc n * 2 ^ F) (shrink_nat k v w h most) }

-- With many parts each number is at most a weight's multiple.
start_nat : (b m n k w D : ℕ) → b ≤ m → m * suc n ≤ k → 1 ≤ w → b * (1 * (suc n * D)) ≤ (0 * (suc n * D) + (k * w) * 1) * D
start_nat b m n k w D h enough some =
    omega (arith, mul-le-mul_right (suc n * D) h, mul-le-mul_right D enough, mul-le-mul_left (k * D) some)

-- With few parts the multiple of the weight is less than a unit.
last_nat : (l n k w p q D : ℕ) → 0 < D → k * w ≤ suc n → suc l * (q * (suc n * D)) ≤ (p * (suc n * D) + (k * w) * q) * D → l * q ≤ p * D
last_nat l n k w p q D pos few h = le_of_mul-le-mul_right {k = suc n * D} (omega (arith, h, mul-le-mul_right (q * D) few)) (mul-pos (omega arith) pos)

last : (F l n k w : ℕ) (a : Fraction) → k * w ≤ suc n → AtMost (units F (suc l)) (plus a (times (part_of n k) (units F w))) → AtMost (units F l) a
last F l n k w a few h = record { cross = last_nat l n k w a.num a.den (2 ^ F) (pow_pos F) few h.cross }

module _ (s : Spec) (x : Fraction) (laid : IsLaidOut s) (told : ℕ → Bool) (F : ℕ) (low weight : ℕ → ℕ) (low_value high_value growth : ℕ → Fraction) (reach : AreReached s x (λ c. units F (low c)) low_value) (grow : CoversGrowth s told (λ c. units F (weight c)) high_value growth) (above : (e : ℕ) → e < length s.nodes → Above x (high_value e) (Belongs s e)) (less : (e : ℕ) → e < length s.nodes → AtMost (low_value e) (high_value e)) (all_told : (c body : ℕ) → body_of s c ≡ Some body → IsTrue (told body)) (pre_fixed : (c body : ℕ) → body_of s c ≡ Some body → AtMost (units F (low c)) (low_value body)) (contracting : (c body : ℕ) → body_of s c ≡ Some body → AtMost (growth body) (units F (weight c - 1))) (positive : (c body : ℕ) → body_of s c ≡ Some body → 0 < weight c) (most most_low : ℕ) (weight_most : (c : ℕ) → weight c ≤ suc most) (low_most : (c : ℕ) → low c ≤ most_low) where
  abbrev whole_parts : ℕ
  whole_parts = most * suc most

  -- each class's number is reached but for k parts of its weight
  abbrev AreClose : ℕ → Type 0
  AreClose k = (c body : ℕ) → body_of s c ≡ Some body → IsClose x (part_of whole_parts k) (units F (low c)) (units F (weight c)) (Belongs s body)

  first : (k : ℕ) → most_low * suc whole_parts ≤ k → AreClose k
  first k enough c body at = record {
    reached = whole 0;
    below = below-none;
    within = record { cross = start_nat (low c) most_low whole_parts k (weight c) (2 ^ F) (low_most c) enough (positive c body at) };
  }

  next : (k : ℕ) → suc most ≤ suc k → AreClose (suc k) → AreClose k
  next k enough close c body at =
      let here = node-close s x laid told (part_of whole_parts (suc k)) (λ d. units F (low d)) (λ d. units F (weight d)) low_value high_value growth reach grow (λ e within. above-has s x e (above e within)) less close body (laid.bodies c body at) (all_told c body at) in
      record {
        reached = here.reached;
        below = here.below;
        within =
            AtMost-trans (pre_fixed c body at)
            (AtMost-trans here.within
            (plus-mono (AtMost-refl here.reached)
            (AtMost-trans (times-mono (AtMost-refl (part_of whole_parts (suc k))) (contracting c body at))
            (shrink F whole_parts k (weight c - 1) (weight c) (let p = positive c body at in omega arith) (let m = weight_most c in omega arith)))));
      }

  down : (d k : ℕ) → most_low * suc whole_parts ≤ k + d → most ≤ k → AreClose k
  down zero k enough le = first k (omega arith)
  down (suc d) k enough le = next k (omega arith) (down d (suc k) (omega arith) (omega arith))

  -- Each number less one unit is reached.
  pub contraction-below : (c body : ℕ) → body_of s c ≡ Some body → Below x (units F (low c - 1)) (Belongs s body)
  contraction-below c body at = go (low c) (down (most_low * suc whole_parts) most (omega arith) (omega arith) c body at)
    where
      few : most * weight c ≤ suc whole_parts
      few = omega (arith, mul-le-mul_left most (weight_most c))

      go : (b : ℕ) → IsClose x (part_of whole_parts most) (units F b) (units F (weight c)) (Belongs s body) → Below x (units F (b - 1)) (Belongs s body)
      go zero close = below-zero x F (Belongs s body)
      go (suc b) close =
          let same : b ≡ suc b - 1 = omega arith in
          subst (λ v. Below x (units F v) (Belongs s body)) same (below-lower x close.reached (units F b) (Belongs s body) (last F b whole_parts most (weight c) close.reached few close.within) close.below)
