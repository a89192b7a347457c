-- Bits of sets of classes.
use Rattle.std.proofs.Common.{◌≡◌, ℕ, zero, suc, ◌<◌, ◌*◌, ◌%◌, ◌^◌, ◌⊎◌, ◌↔◌, inl, inr, max, bit_or, arith, refl, sym, ◌∙◌, subst, ap, w64}
use Rattle.std.specs.Int.{bit_at}
use Rattle.std.proofs.lemmas.Nat.Bits.{bit_at_or, bit_at-lt, bit_at-zero, bit_at_set_same, bit_at_set_other}
use Rattle.std.specs.Int.Bits.{or_zero_l}
use Rattle.std.proofs.lemmas.Bool.Decides.{eqb_tells}

one-or-zero : (n : ℕ) → n < 2 → (n ≡ 1) ⊎ (n ≡ 0)
one-or-zero zero h = inr refl
one-or-zero (suc zero) h = inl refl
one-or-zero (suc (suc n)) h = absurd (omega arith)

one-of-max : (a b : ℕ) → max a b ≡ 1 → a ≡ 0 → b ≡ 1
one-of-max a b h e = omega arith

max-one : (a b : ℕ) → a < 2 → b < 2 → (a ≡ 1) ⊎ (b ≡ 1) → max a b ≡ 1
max-one a b p q (inl e) = omega arith
max-one a b p q (inr e) = omega arith

-- A class is in the union of two sets exactly where it is in one of them.
pub in-union : (a b d : ℕ) → (bit_at (bit_or a b) d ≡ 1) ↔ ((bit_at a d ≡ 1) ⊎ (bit_at b d ≡ 1))
in-union a b d = (down, up)
  where
    down : bit_at (bit_or a b) d ≡ 1 → (bit_at a d ≡ 1) ⊎ (bit_at b d ≡ 1)
    down h = elim (one-or-zero (bit_at a d) (bit_at-lt a d)) [ inl e ↦ inl e | inr e ↦ inr (one-of-max (bit_at a d) (bit_at b d) (sym (bit_at_or a b d) ∙ h) e) ]

    up : (bit_at a d ≡ 1) ⊎ (bit_at b d ≡ 1) → bit_at (bit_or a b) d ≡ 1
    up h = bit_at_or a b d ∙ max-one (bit_at a d) (bit_at b d) (bit_at-lt a d) (bit_at-lt b d) h

-- The set of one class has that class alone.
pub in-only : (k d : ℕ) → k < 64 → (bit_at (1 * 2 ^ k % 2 ^ 64) d ≡ 1) ↔ (d ≡ k)
in-only k d within = (down, up)
  where
    same : bit_at (1 * 2 ^ k % 2 ^ 64) k ≡ 1
    same = sym (ap (λ n. bit_at n k) (or_zero_l (1 * 2 ^ k % 2 ^ 64))) ∙ bit_at_set_same w64 0 k within

    other : (d ≡ k → ⊥) → bit_at (1 * 2 ^ k % 2 ^ 64) d ≡ 0
    other ne = sym (ap (λ n. bit_at n d) (or_zero_l (1 * 2 ^ k % 2 ^ 64))) ∙ (bit_at_set_other w64 0 k within d ne ∙ bit_at-zero d)

    down : bit_at (1 * 2 ^ k % 2 ^ 64) d ≡ 1 → d ≡ k
    down h = elim (eqb_tells d k) [ inl e ↦ e.1 | inr e ↦ absurd (let z = other e.1 in omega arith) ]

    up : d ≡ k → bit_at (1 * 2 ^ k % 2 ^ 64) d ≡ 1
    up e = subst (λ x. bit_at (1 * 2 ^ k % 2 ^ 64) x ≡ 1) (sym e) same
