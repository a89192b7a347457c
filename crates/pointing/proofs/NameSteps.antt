-- Names, added one after the other.
use Rattle.std.proofs.Common.{◌≡◌, ℕ, suc, ◌+◌, ◌<◌, ◌≤◌, List, [], ◌∷◌, ◌++◌, take, map, length, arith, refl, sym, ◌∙◌, ap, append_assoc, append-nil, length-append, Bool, true, false, get_or}
use Rattle.std.specs.Prelude.{if◌then◌else◌}
use Rattle.std.proofs.lemmas.List.{take_more, map-append, length-map, length-take-le}
use Rattle.pointing.specs.PointedSpec.{marked_from, all_from, named}

-- One mark more.
pub marked-more : (first : ℕ) (bs : List Bool) (b : Bool) → marked_from first (bs ++ b ∷ []) ≡ marked_from first bs ++ (if b then (first + length bs) ∷ [] else [])
marked-more first [] true = ap (λ k. k ∷ []) (let e : first ≡ first + 0 = omega arith in e)
marked-more first [] false = refl
marked-more first (true ∷ bs) b = ap (λ zs. first ∷ zs) (marked-more (suc first) bs b ∙ ap (λ k. marked_from (suc first) bs ++ (if b then k ∷ [] else [])) (let e : suc first + length bs ≡ first + suc (length bs) = omega arith in e))
marked-more first (false ∷ bs) b = marked-more (suc first) bs b ∙ ap (λ k. marked_from (suc first) bs ++ (if b then k ∷ [] else [])) (let e : suc first + length bs ≡ first + suc (length bs) = omega arith in e)

pub all-more : (first : ℕ) (bs : List Bool) (b : Bool) → all_from first (bs ++ b ∷ []) ≡ all_from first bs ++ (first + length bs) ∷ []
all-more first [] b = ap (λ k. k ∷ []) (let e : first ≡ first + 0 = omega arith in e)
all-more first (a ∷ bs) b = ap (λ zs. first ∷ zs) (all-more (suc first) bs b ∙ ap (λ k. all_from (suc first) bs ++ k ∷ []) (let e : suc first + length bs ≡ first + suc (length bs) = omega arith in e))

pub marked-few : (first : ℕ) (bs : List Bool) → length (marked_from first bs) ≤ length bs
marked-few first [] = omega arith
marked-few first (true ∷ bs) = omega (arith, marked-few (suc first) bs)
marked-few first (false ∷ bs) = omega (arith, marked-few (suc first) bs)

pub all-count : (first : ℕ) (bs : List Bool) → length (all_from first bs) ≡ length bs
all-count first [] = refl
all-count first (b ∷ bs) = ap suc (all-count (suc first) bs)

taken : (bs : List Bool) (i : ℕ) → i ≤ length bs → length (take i bs) ≡ i
taken bs i le = length-take-le i bs le

-- The names so far, and one more.
pub names-marked : (letter : List ℕ) (names : List (List ℕ)) (bs : List Bool) (i : ℕ) → i < length bs → get_or bs i false ≡ true
    → (names ++ map (named letter) (marked_from 0 (take i bs))) ++ named letter i ∷ [] ≡ names ++ map (named letter) (marked_from 0 (take (i + 1) bs))
names-marked letter names bs i lt is =
    append_assoc names (map (named letter) (marked_from 0 (take i bs))) (named letter i ∷ [])
    ∙ ap (λ z. names ++ z) (ap (λ k. map (named letter) (marked_from 0 (take i bs)) ++ named letter k ∷ []) (let e = taken bs i (omega arith) in let f : i ≡ 0 + length (take i bs) = omega arith in f)
    ∙ sym (map-append (named letter) (marked_from 0 (take i bs)) ((0 + length (take i bs)) ∷ []))
    ∙ ap (λ b. map (named letter) (marked_from 0 (take i bs) ++ (if b then (0 + length (take i bs)) ∷ [] else []))) (sym is)
    ∙ ap (map (named letter)) (sym (marked-more 0 (take i bs) (get_or bs i false)) ∙ ap (marked_from 0) (sym (take_more bs i false lt))))

-- Where mark i is false, the first i marks and the first i + 1 marks have the same numbers of true
-- marks.
pub names-unmarked : (letter : List ℕ) (bs : List Bool) (i : ℕ) → i < length bs → get_or bs i false ≡ false → marked_from 0 (take i bs) ≡ marked_from 0 (take (i + 1) bs)
names-unmarked letter bs i lt is =
    sym (append-nil (marked_from 0 (take i bs))) ∙ ap (λ b. marked_from 0 (take i bs) ++ (if b then (0 + length (take i bs)) ∷ [] else [])) (sym is) ∙ sym (marked-more 0 (take i bs) (get_or bs i false)) ∙ ap (marked_from 0) (sym (take_more bs i false lt))

-- To the names for the first i marks, one name each, the name with the number i is added to give
-- those for the first i + 1 marks.
pub names-all : (letter : List ℕ) (names : List (List ℕ)) (bs : List Bool) (i : ℕ) → i < length bs
    → (names ++ map (named letter) (all_from 0 (take i bs))) ++ named letter i ∷ [] ≡ names ++ map (named letter) (all_from 0 (take (i + 1) bs))
names-all letter names bs i lt =
    append_assoc names (map (named letter) (all_from 0 (take i bs))) (named letter i ∷ [])
    ∙ ap (λ z. names ++ z) (ap (λ k. map (named letter) (all_from 0 (take i bs)) ++ named letter k ∷ []) (let e = taken bs i (omega arith) in let f : i ≡ 0 + length (take i bs) = omega arith in f)
    ∙ sym (map-append (named letter) (all_from 0 (take i bs)) ((0 + length (take i bs)) ∷ []))
    ∙ ap (map (named letter)) (sym (all-more 0 (take i bs) (get_or bs i false)) ∙ ap (all_from 0) (sym (take_more bs i false lt))))

-- Names, with one more for each true mark, are at most as many as the names before and the marks
-- together.
pub few-marked : (letter : List ℕ) (names : List (List ℕ)) (bs : List Bool) → length (names ++ map (named letter) (marked_from 0 bs)) ≤ length names + length bs
few-marked letter names bs = let a = length-append names (map (named letter) (marked_from 0 bs)) in let b = length-map (marked_from 0 bs) (named letter) in let k = marked-few 0 bs in omega arith

-- Names, with one more for each mark, true or false, are as many as the names before and the marks
-- together.
pub few-all : (letter : List ℕ) (names : List (List ℕ)) (bs : List Bool) → length (names ++ map (named letter) (all_from 0 bs)) ≡ length names + length bs
few-all letter names bs = let a = length-append names (map (named letter) (all_from 0 bs)) in let b = length-map (all_from 0 bs) (named letter) in let k = all-count 0 bs in omega arith
