-- Things that have a number, such as options or numbers of parts: from bounds for each number to bounds for a run of numbers, and for all from one on.
use Rattle.std.proofs.Common.{◌≡◌, ℕ, zero, suc, ◌+◌, ◌<◌, ◌≤◌, ◌⊎◌, inl, inr, List, [], ◌∷◌, arith}
use Rattle.std.specs.List.{AllByRecursion}
use native.Mathlib.Decide.{ℕ_discrete}
use Rattle.bz_model.specs.Fraction.{Fraction, AtMost, sum_from}
use Rattle.bz_model.specs.Totals.{AboveBy, BelowBy}
use Rattle.bz_laws.proofs.Fractions.{AtMost-trans}
use Rattle.bz_laws.proofs.Samples.{above-none, below-none, above-either, below-either, AboveBy-weaker, BelowBy-weaker, AllByRecursion-weaker, AllByRecursion-both}

-- n numbers from low on
abbrev pub IsIn : (low n number : ℕ) → Type 0
IsIn low n number = (low ≤ number) × (number < low + n)

-- a finite list has a greatest number
pub greatest : {A : Type 0} (number : A → ℕ) (xs : List A) → (m : ℕ) × AllByRecursion (λ a. number a < m) xs
greatest number [] = (0, tt)
greatest number (a ∷ xs) = let m = greatest number xs in (suc (number a) + m.0, (omega arith, AllByRecursion-weaker (λ b k. omega arith) xs m.1))

module _ {A : Type 0} (w : A → Fraction) (number : A → ℕ) (P : A → Type 0) (f : ℕ → Fraction) where
  -- n numbers from low on, of which each is bounded
  pub above-run : (n low : ℕ) → ((k : ℕ) → IsIn low n k → AboveBy w (f k) (λ a. P a × (number a ≡ k))) → AboveBy w (sum_from f low n) (λ a. P a × IsIn low n (number a))
  above-run zero low up = above-none (λ a h. let l = h.1.0 in let r = h.1.1 in omega arith)
  above-run (suc n) low up =
      AboveBy-weaker {P = λ a. (P a × (number a ≡ low)) ⊎ (P a × IsIn (suc low) n (number a))} which
      (above-either (up low (omega arith, omega arith)) (above-run n (suc low) (λ k i. let l = i.0 in let r = i.1 in up k (omega arith, omega arith))))
    where
      which : (a : A) → P a × IsIn low (suc n) (number a) → (P a × (number a ≡ low)) ⊎ (P a × IsIn (suc low) n (number a))
      which a h = go (ℕ_discrete (number a) low)
        where
          go : Dec (number a ≡ low) → (P a × (number a ≡ low)) ⊎ (P a × IsIn (suc low) n (number a))
          go (yes e) = inl (h.0, e)
          go (no ne) = let l = h.1.0 in let r = h.1.1 in inr (h.0, (omega arith, omega arith))

  pub below-run : (n low : ℕ) → ((k : ℕ) → IsIn low n k → BelowBy w (f k) (λ a. P a × (number a ≡ k))) → BelowBy w (sum_from f low n) (λ a. P a × IsIn low n (number a))
  below-run zero low down = below-none
  below-run (suc n) low down =
      BelowBy-weaker {P = λ a. (P a × (number a ≡ low)) ⊎ (P a × IsIn (suc low) n (number a))} which
      (below-either (λ a h k. let e = h.1 in let l = k.1.0 in omega arith) (down low (omega arith, omega arith)) (below-run n (suc low) (λ k i. let l = i.0 in let r = i.1 in down k (omega arith, omega arith))))
    where
      which : (a : A) → (P a × (number a ≡ low)) ⊎ (P a × IsIn (suc low) n (number a)) → P a × IsIn low (suc n) (number a)
      which a (inl h) = let e = h.1 in (h.0, (omega arith, omega arith))
      which a (inr h) = let l = h.1.0 in let r = h.1.1 in (h.0, (omega arith, omega arith))

  -- all numbers from low on: a bound of each run is one of all of them
  pub above-from : ((k : ℕ) → AboveBy w (f k) (λ a. P a × (number a ≡ k))) → (low : ℕ) (g : Fraction) → ((n : ℕ) → AtMost (sum_from f low n) g) → AboveBy w g (λ a. P a × (low ≤ number a))
  above-from up low g h = record {
    holds = λ xs t.
        let m = greatest number xs in
        AtMost-trans ((above-run m.0 low (λ k i. up k)).holds xs (record { distinct = t.distinct; each = AllByRecursion-weaker (λ a k. within m.0 a k.0 k.1) xs (AllByRecursion-both (λ a. P a × (low ≤ number a)) (λ a. number a < m.0) xs t.each m.1) })) (h m.0);
  }
    where
      within : (m : ℕ) (a : A) → P a × (low ≤ number a) → number a < m → P a × IsIn low m (number a)
      within m a k l = let g = k.1 in (k.0, (g, omega arith))

  -- each run from low on is reached
  pub below-from : ((k : ℕ) → BelowBy w (f k) (λ a. P a × (number a ≡ k))) → (low n : ℕ) → BelowBy w (sum_from f low n) (λ a. P a × (low ≤ number a))
  below-from down low n = BelowBy-weaker {P = λ a. P a × IsIn low n (number a)} (λ a h. (h.0, h.1.0)) (below-run n low (λ k i. down k))
