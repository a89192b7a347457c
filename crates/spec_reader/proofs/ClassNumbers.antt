-- The number of a class among the names.
use Rattle.std.proofs.Common.{◌≡◌, ◌≢◌, ℕ, zero, suc, Bool, true, false, List, [], ◌∷◌, length, Some, slice_get, refl, ap, arith}
use Rattle.std.specs.Cmp.Lexicographic.{same_text, other_text}
use Rattle.class_system.specs.Distinct.{IsMissing, AreDistinct}
use Rattle.spec_reader.specs.Tokens.{is_same}
use Rattle.spec_reader.specs.Tables.{class_number}

true_of : (t : Bool) (a b : List ℕ) → (false ≡ t → a ≢ b) → a ≡ b → t ≡ true
true_of true a b f e = refl
true_of false a b f e = absurd (f refl e)

false_of : (t : Bool) (a b : List ℕ) → (true ≡ t → a ≡ b) → a ≢ b → t ≡ false
false_of true a b f e = absurd (e (f refl))
false_of false a b f e = refl

-- The test whether two words are the same says yes for equal words.
pub same_is : (a b : List ℕ) → a ≡ b → is_same a b ≡ true
same_is a b e = true_of (is_same a b) a b (other_text a b) e

-- The test whether two words are the same says no for different words.
pub other_is : (a b : List ℕ) → a ≢ b → is_same a b ≡ false
other_is a b e = false_of (is_same a b) a b (same_text a b) e

-- A word that is missing among the names has their count as its number.
pub missing_number : (names : List (List ℕ)) (w : List ℕ) → IsMissing w names → class_number names w ≡ length names
missing_number [] w m = refl
missing_number (n ∷ ns) w m =
    let here : n ≢ w = λ e. m.nowhere 0 (ap Some e) in
    let later : IsMissing w ns = record { nowhere = λ i. m.nowhere (suc i) } in
    rw (other_is n w here) (ap suc (missing_number ns w later))

-- Where the names are distinct, the number of the name at place i is i.
pub found_number : (names : List (List ℕ)) (w : List ℕ) (i : ℕ) → AreDistinct names → slice_get names i ≡ Some w → class_number names w ≡ i
found_number [] w i d e = absurd (cc)
found_number (n ∷ ns) w zero d e =
    let same : n ≡ w = cc in
    rw (same_is n w same) refl
found_number (n ∷ ns) w (suc i) d e =
    let here : n ≢ w = λ same. let impossible : 0 ≡ suc i = d.once 0 (suc i) w (ap Some same) e in absurd (omega arith) in
    let later : AreDistinct ns = record { once = λ a b name at_a at_b. let both : suc a ≡ suc b = d.once (suc a) (suc b) name at_a at_b in omega arith } in
    rw (other_is n w here) (ap suc (found_number ns w i later e))
