-- Rows of sets of classes: what stands at a place, after a write and after a push.
use Rattle.std.proofs.Common.{◌≡◌, ◌≢◌, ℕ, zero, suc, ◌+◌, ◌<◌, ◌↔◌, List, [], ◌∷◌, ◌++◌, length, take, drop, Some, arith, refl, sym, ◌∙◌, subst, ap}
use Rattle.std.specs.List.{slice_get}
use Rattle.std.proofs.Math.ListN.{set}
use Rattle.std.proofs.lemmas.Option.{slice_get_within}
use Rattle.std.proofs.lemmas.Grind.{common_steps}
use Rattle.well_founded.specs.declared.class_set.ClassSet.{ClassSet}
use Rattle.well_founded.specs.Ways.{IsIn, Points}

-- A slice of all of a vector, written back.
pub written-back : {X : Type 0} (len : ℕ) (new items : List X) → length new ≡ length items → length items ≡ len → take len (new ++ drop (length new) items) ≡ new
written-back len new items e h = grind (arith, common_steps)

-- After writing a value at place i within a list, it stands at place i.
pub set-same : {X : Type 0} (xs : List X) (i : ℕ) (v : X) → i < length xs → slice_get (set xs i v) i ≡ Some v
set-same [] i v h = absurd (omega arith)
set-same (x ∷ xs) zero v h = refl
set-same (x ∷ xs) (suc i) v h = set-same xs i v (omega arith)

-- Writing a value at place i of a list leaves what stands at any other place.
pub set-other : {X : Type 0} (xs : List X) (i : ℕ) (v : X) (c : ℕ) → c ≢ i → slice_get (set xs i v) c ≡ slice_get xs c
set-other [] i v c ne = refl
set-other (x ∷ xs) zero v zero ne = absurd (ne refl)
set-other (x ∷ xs) zero v (suc c) ne = refl
set-other (x ∷ xs) (suc i) v zero ne = refl
set-other (x ∷ xs) (suc i) v (suc c) ne = set-other xs i v c (λ e. ne (ap suc e))

-- Where two lists have the same row at place c, what row c of the first has row c of the second
-- has.
pub points-along : (xs ys : List ClassSet) (c d : ℕ) → slice_get xs c ≡ slice_get ys c → Points xs c d → Points ys c d
points-along xs ys c d e p = record { row = p.row; is_row = sym e ∙ p.is_row; has = p.has }

-- Where the row at place c is r, whatever row c has is in r.
pub row-has : (xs : List ClassSet) (c d : ℕ) (r : ClassSet) → slice_get xs c ≡ Some r → Points xs c d → IsIn r d
row-has xs c d r e p = subst (λ x. IsIn x d) (some-row (sym p.is_row ∙ e)) p.has
  where
    some-row : {a b : ClassSet} → Some a ≡ Some b → a ≡ b
    some-row q = cc

set-end : (xs : List ClassSet) (x : ClassSet) → slice_get (xs ++ (x ∷ [])) (length xs) ≡ Some x
set-end [] x = refl
set-end (y ∷ ys) x = set-end ys x

pub set-front : (xs : List ClassSet) (x : ClassSet) (i : ℕ) → i < length xs → slice_get (xs ++ (x ∷ [])) i ≡ slice_get xs i
set-front [] x i h = absurd (omega arith)
set-front (y ∷ ys) x zero h = refl
set-front (y ∷ ys) x (suc i) h = set-front ys x i (omega arith)

-- A list with one more set at its end is longer by 1.
pub set-count : (xs : List ClassSet) (x : ClassSet) → length (xs ++ (x ∷ [])) ≡ length xs + 1
set-count [] x = refl
set-count (y ∷ ys) x = let h = set-count ys x in omega arith

-- After a push the last row is the set, and the others are as they were.
pub points-last : (rows : List ClassSet) (set : ClassSet) (d : ℕ) → Points (rows ++ (set ∷ [])) (length rows) d ↔ IsIn set d
points-last rows set d = (row-has (rows ++ (set ∷ [])) (length rows) d set (set-end rows set), λ k. record { row = set; is_row = set-end rows set; has = k })

-- Adding a row at the end changes nothing of what an earlier row c has.
pub points-earlier : (rows : List ClassSet) (set : ClassSet) (c d : ℕ) → c < length rows → Points (rows ++ (set ∷ [])) c d ↔ Points rows c d
points-earlier rows set c d h =
    let same = set-front rows set c h in
    (points-along (rows ++ (set ∷ [])) rows c d same, points-along rows (rows ++ (set ∷ [])) c d (sym same))

-- A row that has something is there.
pub row-in : (rows : List ClassSet) (c d : ℕ) → Points rows c d → c < length rows
row-in rows c d p = slice_get_within rows c p.row p.is_row
