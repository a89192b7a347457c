-- Numbers that are known or missing: what stands at a place, and after a write.
use Rattle.std.proofs.Common.{◌≡◌, ℕ, zero, suc, ◌<◌, Bool, List, [], ◌∷◌, length, get_or, Option, Some, None, arith, refl, sym, ◌∙◌, ap}
use Rattle.std.specs.Prelude.{unwrap_or}
use Rattle.std.specs.List.{slice_get}
use Rattle.std.proofs.Math.ListN.{set}
use Rattle.rank_tables.specs.Grids.{known_number, known_numbers}

-- the number at a place
pub known-at : (ks : List Bool) (ns : List ℕ) (i : ℕ) (k : Bool) (n : ℕ) → i < length ks → i < length ns → slice_get (known_numbers ks ns) i ≡ Some (known_number (get_or ks i k) (get_or ns i n))
known-at [] ns i k n lt less = absurd (omega arith)
known-at (x ∷ ks) [] i k n lt less = absurd (omega arith)
known-at (x ∷ ks) (y ∷ ns) zero k n lt less = refl
known-at (x ∷ ks) (y ∷ ns) (suc i) k n lt less = known-at ks ns i k n (omega arith) (omega arith)

-- the number whose parts were read at a place
pub known-read : (ks : List Bool) (ns : List ℕ) (i : ℕ) (k : Bool) (n : ℕ) → i < length ks → i < length ns → k ≡ get_or ks i k → n ≡ get_or ns i n → known_number k n ≡ unwrap_or (slice_get (known_numbers ks ns) i) None
known-read ks ns i k n lt less e f =
    ap (λ b. known_number b n) e
    ∙ ap (λ m. known_number (get_or ks i k) m) f
    ∙ sym (ap (λ v. unwrap_or v None) (known-at ks ns i k n lt less))

-- writing both parts of a number writes the number
pub known-set : (ks : List Bool) (ns : List ℕ) (i : ℕ) (k : Bool) (n : ℕ) → known_numbers (set ks i k) (set ns i n) ≡ set (known_numbers ks ns) i (known_number k n)
known-set [] ns i k n = refl
known-set (x ∷ ks) [] zero k n = refl
known-set (x ∷ ks) [] (suc i) k n = refl
known-set (x ∷ ks) (y ∷ ns) zero k n = refl
known-set (x ∷ ks) (y ∷ ns) (suc i) k n = ap (λ zs. known_number x y ∷ zs) (known-set ks ns i k n)

-- there are as many numbers as places
pub known-length : (ks : List Bool) (ns : List ℕ) → length ks ≡ length ns → length (known_numbers ks ns) ≡ length ks
known-length [] ns e = refl
known-length (x ∷ ks) [] e = absurd (omega arith)
known-length (x ∷ ks) (y ∷ ns) e = ap suc (known-length ks ns (omega arith))
