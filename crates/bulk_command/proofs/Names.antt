-- The names of the classes.
use Rattle.std.proofs.Common.{◌≡◌, ℕ, zero, suc, ◌<◌, ◌≤◌, Bool, true, false, List, [], ◌∷◌, length, map, refl, rules, sym, ◌∙◌, ap, subst, arith, Some, slice_get}
use Rattle.std.specs.Prelude.{◌&&◌, ◌≢◌, slice_index, nat_le, decimal}
use Rattle.std.specs.Fmt.{digits}
use Rattle.std.specs.List.{range_with_len, list_all, AllPass}
use Rattle.std.proofs.Math.Decide.{dec_lt}
use Rattle.std.proofs.lemmas.Fmt.{decimal_injective}
use Rattle.std.proofs.lemmas.List.FromFn.{length-map-range_with_len}
use Rattle.std.proofs.lemmas.List.Sums.{AllPass-from_list_all}
use Rattle.std.proofs.lemmas.Option.{slice_get_within, same_Some}
use Rattle.class_system.specs.Words.{is_run_byte, IsName}
use Rattle.class_system.specs.Distinct.{AreDistinct}
use Rattle.bulk_command.specs.BulkText.{classes_of, numbered_name}
use Rattle.bulk_command.proofs.Blocks.{at-mapped}

-- there are 2 to 41 classes
pub some-classes : (n : ℕ) → 2 ≤ classes_of n
some-classes n = omega arith

-- The specification made from a number has at most 41 classes.
pub few-classes : (n : ℕ) → classes_of n ≤ 41
few-classes n = omega arith

-- a test of each number below another
all_below : (ℕ → Bool) → ℕ → Bool
all_below test zero = true
all_below test (suc n) = test n && all_below test n

both : (a b : Bool) → a && b ≡ true → (a ≡ true) × (b ≡ true)
both true true e = (refl, refl)
both true false e = absurd (cc)
both false b e = absurd (cc)

each-below : (test : ℕ → Bool) (n i : ℕ) → i < n → all_below test n ≡ true → test i ≡ true
unfolding all_below
each-below test zero i less e = absurd (omega (arith, less))
each-below test (suc n) i less e = go (λ h. each-below test n i h (both (test n) (all_below test n) e).1) (dec_lt i n)
  where
    go : (i < n → test i ≡ true) → Dec (i < n) → test i ≡ true
    go before (yes h) = before h
    go before (no h) = let same : i ≡ n = omega (arith, less, h) in ap test same ∙ (both (test n) (all_below test n) e).0

-- a name of a class is short, and its bytes are letters and digits
is_short_run : ℕ → Bool
is_short_run class = nat_le (length (numbered_name class)) 32 && list_all is_run_byte (numbered_name class)

all-short : all_below is_short_run 41 ≡ true
unfolding all_below is_short_run digits
all-short = refl

short-run : (class : ℕ) → class < 41 → (length (numbered_name class) ≤ 32) × AllPass is_run_byte (numbered_name class)
unfolding is_short_run
short-run class less =
    let h = both (nat_le (length (numbered_name class)) 32) (list_all is_run_byte (numbered_name class)) (each-below is_short_run 41 class less all-short) in
    (search rules, AllPass-from_list_all is_run_byte (numbered_name class) h.1)

other-word : (class b : ℕ) (rest : List ℕ) → 65 ≢ b → numbered_name class ≢ (b ∷ rest)
other-word class b rest differ e = differ (ap (λ word. slice_index word 0) e)

-- The letter A followed by a number below 41 is an allowed name of a class.
pub is-name : (class : ℕ) → class < 41 → IsName (numbered_name class)
is-name class less =
    let h = short-run class less in
    record {
      letter = refl;
      few = h.0;
      run = h.1;
      free = (other-word class 69 [] (omega arith), (other-word class 90 [] (omega arith), (other-word class 83 (101 ∷ 113 ∷ []) (omega arith), (other-word class 83 (101 ∷ 116 ∷ []) (omega arith), (other-word class 67 (121 ∷ 99 ∷ []) (omega arith), tt)))));
    }

-- no two names are one
one-name : (i j : ℕ) → i < 41 → j < 41 → numbered_name i ≡ numbered_name j → i ≡ j
one-name i j h k e = let same : decimal i ≡ decimal j = cc in decimal_injective i j (omega (arith, h)) (omega (arith, k)) same

-- The names of at most 41 classes are pairwise distinct.
pub are-distinct : (classes : ℕ) → classes ≤ 41 → AreDistinct (map numbered_name (range_with_len 0 classes))
are-distinct classes few = record { once = go }
  where
    go : (i j : ℕ) (name : List ℕ) → slice_get (map numbered_name (range_with_len 0 classes)) i ≡ Some name → slice_get (map numbered_name (range_with_len 0 classes)) j ≡ Some name → i ≡ j
    go i j name at_i at_j =
        let long = length-map-range_with_len numbered_name 0 classes in
        let i_less : i < classes = subst (λ n. i < n) long (slice_get_within (map numbered_name (range_with_len 0 classes)) i name at_i) in
        let j_less : j < classes = subst (λ n. j < n) long (slice_get_within (map numbered_name (range_with_len 0 classes)) j name at_j) in
        one-name i j (omega (arith, i_less, few)) (omega (arith, j_less, few)) (same_Some (numbered_name i) (numbered_name j) (sym (at-mapped numbered_name classes i i_less) ∙ at_i ∙ sym at_j ∙ at-mapped numbered_name classes j j_less))
