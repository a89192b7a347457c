-- Cells one after the other.
use Rattle.std.specs.Prelude.{codes}
use Rattle.std.proofs.Common.{◌≡◌, ◌≢◌, ℕ, zero, suc, ◌+◌, ◌^◌, ◌<◌, ◌≤◌, List, [], ◌∷◌, ◌++◌, length, get_or, arith, refl, sym, ◌∙◌, ap, subst, append_assoc, append-nil, length-append, eq-eqb}
use Rattle.std.proofs.lemmas.List.{append_cancel_left}
use Rattle.std.proofs.Math.Nat.{pow-le-pow_right}
use Rattle.std.specs.Prelude.{flat_map, nat_eq, Bool, true, false}
use Rattle.std.proofs.lemmas.Bool.{eqb-true}
use Rattle.bz_model.specs.declared.cell.Cell.{Cell}
use Rattle.bz_model.specs.Cell.{IsCell, AreCells}
use Rattle.certificate.specs.Patterns.{filled_from, HasNoDigit, AreSmall, BeginsFilled}
use Rattle.certificate.specs.Fields.{cell_field, cells_text}
use Rattle.certificate.proofs.Filling.{one-filling}

-- What is left of a line of cells: after the cells found, more cells follow exactly where the line is one of cells.
pub record ReadsCells (line : List ℕ) (found : List Cell) (rest : List ℕ) : Type 0 where
  pub are : AreCells found
  pub forth : (more : List Cell) → rest ≡ flat_map cell_field more → line ≡ cells_text (found ++ more)
  pub back : (all : List Cell) → AreCells all → line ≡ cells_text all → (more : List Cell) × AreCells more × (all ≡ found ++ more) × (rest ≡ flat_map cell_field more)

-- After the word at the front of a line of cells, no cell is found yet and what follows the word is
-- left.
pub reads-first : (line rest : List ℕ) → line ≡ codes "cells" ++ rest → ReadsCells line [] rest
reads-first line rest e = record {
  are = tt;
  forth = λ more f. e ∙ ap (λ t. codes "cells" ++ t) f;
  back = λ all are f. (all, are, refl, append_cancel_left (codes "cells") rest (flat_map cell_field all) (sym e ∙ f));
}

append-more : (xs : List Cell) (c : Cell) (ys : List Cell) → (xs ++ c ∷ []) ++ ys ≡ xs ++ (c ∷ ys)
append-more xs c ys = append_assoc xs (c ∷ []) ys

are-more : (xs : List Cell) (c : Cell) → AreCells xs → IsCell c.k c.b → AreCells (xs ++ c ∷ [])
are-more [] c a h = (h, tt)
are-more (x ∷ xs) c a h = (a.0, are-more xs c a.1 h)

small-cell : (k b : ℕ) → IsCell k b → AreSmall (k ∷ b ∷ [])
small-cell k b h = record { each = λ i. at i }
  where
    below : k < 2 ^ 64
    below =
        let few = h.few_bits in
        let lt = h.below in
        let most : 2 ^ b ≤ 2 ^ 60 = pow-le-pow_right {n = 2} (omega arith) {i = b} {j = 60} few in
        omega arith

    at : (i : ℕ) → get_or (k ∷ b ∷ []) i 0 < 2 ^ 64
    at zero = below
    at (suc zero) = let few = h.few_bits in omega arith
    at (suc (suc i)) = omega arith

-- no digit begins what follows a cell in a line of cells
pub field-begins : (c : Cell) → (rest : List ℕ) → (tail : List ℕ) × (cell_field c ++ rest ≡ 32 ∷ tail)
unfolding filled_from
field-begins c rest = (_, refl)

-- The fields of cells one after the other begin with no digit.
pub no-digit-after : (more : List Cell) → HasNoDigit (flat_map cell_field more)
no-digit-after [] = tt
no-digit-after (c ∷ more) = let f = field-begins c (flat_map cell_field more) in subst HasNoDigit (sym f.1) (λ d. absurd (let low = d.0 in omega arith))

pub cell-begins : (text : List ℕ) (c : Cell) (rest : List ℕ) → IsCell c.k c.b → HasNoDigit rest → text ≡ cell_field c ++ rest → BeginsFilled (codes " #/#") text (c.k ∷ c.b ∷ []) rest
cell-begins text c rest h n e = record { small = small-cell c.k c.b h; split = e; apart = n }

-- a cell's field and what follows it are one
pub one-cell : (text : List ℕ) (c d : Cell) (rest more : List ℕ) → IsCell c.k c.b → IsCell d.k d.b → HasNoDigit rest → HasNoDigit more → text ≡ cell_field c ++ rest → text ≡ cell_field d ++ more → (c ≡ d) × (rest ≡ more)
one-cell text c d rest more h g n m e f =
    let o = one-filling (codes " #/#") text (c.k ∷ c.b ∷ []) (d.k ∷ d.b ∷ []) rest more refl (cell-begins text c rest h n e) (cell-begins text d more g m f) in
    let k : c.k ≡ d.k = o.0 0 (omega arith) in
    let b : c.b ≡ d.b = o.0 1 (omega arith) in
    (same k b, o.1)
  where
    same : c.k ≡ d.k → c.b ≡ d.b → c ≡ d
    same k b =
        let left : ℕ → Cell = λ z. record { k = z; b = c.b } in
        let right : ℕ → Cell = λ z. record { k = d.k; b = z } in
        ap left k ∙ ap right b

-- If what is left of a line of cells begins with a cell's field and no digit follows, that cell is
-- the next one found and what follows is left.
pub reads-cell : (line : List ℕ) (found : List Cell) (rest after : List ℕ) (c : Cell) → IsCell c.k c.b → rest ≡ cell_field c ++ after → HasNoDigit after → ReadsCells line found rest → ReadsCells line (found ++ c ∷ []) after
reads-cell line found rest after c h e n r = record {
  are = are-more found c r.are h;
  forth = λ more f. r.forth (c ∷ more) (e ∙ ap (λ t. cell_field c ++ t) f) ∙ ap cells_text (sym (append-more found c more));
  back = λ all are f. go all (r.back all are f);
}
  where
    go : (all : List Cell) → (more : List Cell) × AreCells more × (all ≡ found ++ more) × (rest ≡ flat_map cell_field more) → (more : List Cell) × AreCells more × (all ≡ (found ++ c ∷ []) ++ more) × (after ≡ flat_map cell_field more)
    go all ([], are, is, left) = absurd (let f = field-begins c after in let u : 32 ∷ f.0 ≡ [] = sym f.1 ∙ sym e ∙ left in cc)
    go all (d ∷ more, are, is, left) =
        let one = one-cell rest c d after (flat_map cell_field more) h are.0 n (no-digit-after more) e left in
        (more, are.1, is ∙ ap (λ z. found ++ z ∷ more) (sym one.0) ∙ sym (append-more found c more), one.1)

-- If something is left of a line after the cells found, and it begins with no cell's field without
-- a digit behind it, the line isn't one of cells.
pub no-cells-left : (line : List ℕ) (found : List Cell) (rest : List ℕ) → rest ≢ [] → ((c : Cell) (after : List ℕ) → IsCell c.k c.b → HasNoDigit after → rest ≢ cell_field c ++ after) → ReadsCells line found rest → (all : List Cell) → AreCells all → line ≢ cells_text all
no-cells-left line found rest some none r all are e = go (r.back all are e)
  where
    go : (more : List Cell) × AreCells more × (all ≡ found ++ more) × (rest ≡ flat_map cell_field more) → ⊥
    go ([], more, is, left) = some left
    go (c ∷ more, are, is, left) = none c (flat_map cell_field more) are.0 (no-digit-after more) left

pub no-cells-begin : (line : List ℕ) → ((rest : List ℕ) → line ≢ codes "cells" ++ rest) → (all : List Cell) → line ≢ cells_text all
no-cells-begin line none all e = none (flat_map cell_field all) e

-- Where nothing is left of a line after the cells found, the line is the text of these cells.
pub all-cells : (line : List ℕ) (found : List Cell) (rest : List ℕ) → rest ≡ [] → ReadsCells line found rest → line ≡ cells_text found
all-cells line found rest e r = r.forth [] e ∙ ap cells_text (append-nil found)

-- What follows a cell's field at the front of a text is shorter than the text.
pub shorter : (c : Cell) (rest after : List ℕ) → rest ≡ cell_field c ++ after → length after < length rest
shorter c rest after e =
    let f = field-begins c after in
    let n : length rest ≡ length (cell_field c) + length after = ap length e ∙ length-append (cell_field c) after in
    let g = field-begins c [] in
    let m : length (cell_field c) ≡ suc (length g.0) = ap length (sym (append-nil (cell_field c)) ∙ g.1) in
    omega arith

-- the numbers read are a cell's where the text begins with one
pub cell-read : (text ns rest : List ℕ) (c : Cell) (more : List ℕ) → BeginsFilled (codes " #/#") text ns rest → IsCell c.k c.b → HasNoDigit more → text ≡ cell_field c ++ more → IsCell (get_or ns 0 0) (get_or ns 1 0)
cell-read text ns rest c more b h n e =
    let o = one-filling (codes " #/#") text ns (c.k ∷ c.b ∷ []) rest more refl b (cell-begins text c more h n e) in
    subst (λ k. IsCell k (get_or ns 1 0)) (sym (o.0 0 (omega arith))) (subst (λ k. IsCell c.k k) (sym (o.0 1 (omega arith))) h)

-- A rest whose length a test found not to be 0 isn't empty.
pub not-empty : (rest : List ℕ) (b : Bool) → b ≡ nat_eq (length rest) 0 → b ≡ false → rest ≢ []
not-empty rest b e f g = let h : nat_eq (length rest) 0 ≡ true = eq-eqb (length rest) 0 (ap length g) in absurd (cc)

-- A rest whose length a test found to be 0 is empty.
pub is-empty : (rest : List ℕ) (b : Bool) → b ≡ nat_eq (length rest) 0 → b ≡ true → rest ≡ []
is-empty [] b e f = refl
is-empty (x ∷ rest) b e f = let h : length (x ∷ rest) ≡ 0 = eqb-true (length (x ∷ rest)) 0 (sym e ∙ f) in absurd (omega arith)

-- A list of one number below 2^64 is one of numbers of 64 bits.
pub one-small : (n : ℕ) → n < 2 ^ 64 → AreSmall (n ∷ [])
one-small n h = record { each = λ i. at i }
  where
    at : (i : ℕ) → get_or (n ∷ []) i 0 < 2 ^ 64
    at zero = h
    at (suc i) = omega arith
