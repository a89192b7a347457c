-- Upper operations are monotone: where one has a value, it has one for arguments that are no greater, and
-- that is no greater.
use Rattle.std.proofs.Common.{ℕ, suc, ◌+◌, ◌-◌, ◌*◌, ◌^◌, ◌≤◌, Option, Some, None, cond, sym, subst, arith, ⊎_elim}
use Rattle.std.specs.Prelude.{option_and_then}
use Rattle.std.proofs.Math.Nat.{le_trans, le_refl}
use Rattle.std.proofs.lemmas.Nat.{pow_pos, mul-le}
use Rattle.std.proofs.lemmas.Bool.{cases_lt, le-leb, lt-leb}
use Rattle.fixed_enclosure.specs.UpperValues.{IsNoGreater}
use Rattle.fixed_enclosure.specs.Rounded.{greatest, if_fits, quotient_up, of_both, add_up, mul_up, seq_up}
use Rattle.fixed_enclosure.proofs.Quotients.{quotient_up-monotone, if_fits-within, if_fits-past}

-- An optional number is no greater than itself.
pub no_greater_refl : (u : Option ℕ) → IsNoGreater u u
no_greater_refl None = tt
no_greater_refl (Some u) = le_refl u

-- Where u is no greater than v and v is no greater than w, the optional number u is no greater than
-- w.
pub no_greater_trans : (u v w : Option ℕ) → IsNoGreater u v → IsNoGreater v w → IsNoGreater u w
no_greater_trans u v None p q = tt
no_greater_trans None None (Some w) p q = q
no_greater_trans None (Some v) (Some w) p q = p
no_greater_trans (Some u) None (Some w) p q = absurd q
no_greater_trans (Some u) (Some v) (Some w) p q = le_trans p q

-- Where m is at most n and n fits in 64 bits, m fits too, and is no greater.
pub if_fits-monotone : (m n : ℕ) → m ≤ n → IsNoGreater (if_fits m) (if_fits n)
if_fits-monotone m n h = ⊎_elim
    (λ past. subst (λ w. IsNoGreater (if_fits m) w) (sym (if_fits-past n past)) tt)
    (λ within. subst (λ w. IsNoGreater (if_fits m) w) (sym (if_fits-within n within)) (subst (λ u. IsNoGreater u (Some n)) (sym (if_fits-within m (le_trans h within))) h))
    (cases_lt greatest n)

-- Where a is at most c and b is at most d, the upper sum of a and b is no greater than that of c
-- and d.
pub add_up-monotone : (a b c d : ℕ) → a ≤ c → b ≤ d → IsNoGreater (add_up a b) (add_up c d)
add_up-monotone a b c d p q = if_fits-monotone (a + b) (c + d) (omega arith)

-- Where a is at most c and b is at most d, the upper product of a and b is no greater than that of
-- c and d.
pub mul_up-monotone : (f a b c d : ℕ) → a ≤ c → b ≤ d → IsNoGreater (mul_up f a b) (mul_up f c d)
mul_up-monotone f a b c d p q = if_fits-monotone (quotient_up (a * b) (2 ^ f)) (quotient_up (c * d) (2 ^ f)) (quotient_up-monotone (a * b) (c * d) (2 ^ f) (2 ^ f) (pow_pos f) (le_refl (2 ^ f)) (mul-le a b c d p q))

-- Where a is at most b, the upper value of 1 / (1 - a) is no greater than that of 1 / (1 - b).
pub seq_up-monotone : (f a b : ℕ) → a ≤ b → IsNoGreater (seq_up f a) (seq_up f b)
seq_up-monotone f a b p = ⊎_elim
    (λ b_below. subst (λ t. IsNoGreater (seq_up f a) (cond t (if_fits (quotient_up (2 ^ (2 * f)) (2 ^ f - b))) None)) (sym (le-leb (suc b) (2 ^ f) b_below))
    (let a_below : suc a ≤ 2 ^ f = omega arith in
    subst (λ t. IsNoGreater (cond t (if_fits (quotient_up (2 ^ (2 * f)) (2 ^ f - a))) None) (if_fits (quotient_up (2 ^ (2 * f)) (2 ^ f - b)))) (sym (le-leb (suc a) (2 ^ f) a_below))
    (if_fits-monotone (quotient_up (2 ^ (2 * f)) (2 ^ f - a)) (quotient_up (2 ^ (2 * f)) (2 ^ f - b))
    (quotient_up-monotone (2 ^ (2 * f)) (2 ^ (2 * f)) (2 ^ f - a) (2 ^ f - b) (omega arith) (omega arith) (le_refl (2 ^ (2 * f)))))))
    (λ b_past. subst (λ t. IsNoGreater (seq_up f a) (cond t (if_fits (quotient_up (2 ^ (2 * f)) (2 ^ f - b))) None)) (sym (lt-leb (suc b) (2 ^ f) (omega arith))) tt)
    (cases_lt b (2 ^ f))

-- An operation of two values is monotone where it is so on numbers.
pub of_both-monotone : (g : ℕ → ℕ → Option ℕ) → ((a b c d : ℕ) → a ≤ c → b ≤ d → IsNoGreater (g a b) (g c d)) → (u v w z : Option ℕ) → IsNoGreater u w → IsNoGreater v z → IsNoGreater (of_both g u v) (of_both g w z)
of_both-monotone g mono u v None z p q = tt
of_both-monotone g mono u v (Some c) None p q = tt
of_both-monotone g mono None v (Some c) (Some d) p q = absurd p
of_both-monotone g mono (Some a) None (Some c) (Some d) p q = absurd q
of_both-monotone g mono (Some a) (Some b) (Some c) (Some d) p q = mono a b c d p q

-- An operation of one value is monotone where it is so on numbers.
pub and_then-monotone : (g : ℕ → Option ℕ) → ((a c : ℕ) → a ≤ c → IsNoGreater (g a) (g c)) → (u w : Option ℕ) → IsNoGreater u w → IsNoGreater (option_and_then g u) (option_and_then g w)
and_then-monotone g mono u None p = tt
and_then-monotone g mono None (Some c) p = absurd p
and_then-monotone g mono (Some a) (Some c) p = mono a c p

-- Two operations of one value, of which the first is below the second on numbers.
pub and_then-below : (g h : ℕ → Option ℕ) → ((a c : ℕ) → a ≤ c → IsNoGreater (g a) (h c)) → (u w : Option ℕ) → IsNoGreater u w → IsNoGreater (option_and_then g u) (option_and_then h w)
and_then-below g h mono u None p = tt
and_then-below g h mono None (Some c) p = absurd p
and_then-below g h mono (Some a) (Some c) p = mono a c p
