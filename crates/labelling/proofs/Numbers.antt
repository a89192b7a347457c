-- The numbers from a number on, and numbers in cells.
use Rattle.std.proofs.Common.{◌≡◌, ℕ, zero, suc, ◌+◌, ◌*◌, ◌^◌, ◌≤◌, List, [], ◌∷◌, ◌++◌, map, length, refl, ap, arith, length-append}
use Rattle.std.specs.List.{AllByRecursion}
use Rattle.std.proofs.lemmas.Nat.{pow_pos}
use Rattle.std.proofs.lemmas.List.Sums.{sum_by-cons}
use Rattle.bz_model.specs.declared.cell.Cell.{Cell}
use Rattle.bz_model.specs.Fraction.{Fraction}
use Rattle.bz_model.specs.Cell.{IsCell, IsInCell, AreInCells}
use Rattle.bz_model.specs.Labels.{numbers_from}
use Rattle.labelling.specs.LabelsByBits.{bits_in}

-- There are n numbers in the list of the n numbers from a on.
pub length-numbers : (a n : ℕ) → length (numbers_from a n) ≡ n
length-numbers a zero = refl
length-numbers a (suc n) = ap suc (length-numbers (suc a) n)

-- Numbers in cells of which c is the last: those in the others, and one in c.
pub record WithLast (us : List Fraction) (cells : List Cell) (c : Cell) : Type 0 where
  pub front : List Fraction
  pub last : Fraction
  pub whole : us ≡ front ++ last ∷ []
  pub in_front : AreInCells front cells
  pub in_last : IsInCell c.k c.b last

-- Numbers in cells of which c is the last are numbers in the other cells, followed by one in c.
pub last-of : (us : List Fraction) (cells : List Cell) (c : Cell) → AreInCells us (cells ++ c ∷ []) → WithLast us cells c
last-of [] [] c h = elim h [ ]
last-of [] (d ∷ cells) c h = elim h [ ]
last-of (u ∷ []) [] c h = record { front = []; last = u; whole = refl; in_front = tt; in_last = h.0 }
last-of (u ∷ v ∷ us) [] c h = elim h.1 [ ]
last-of (u ∷ us) (d ∷ cells) c h =
    let r = last-of us cells c h.1 in
    record { front = u ∷ r.front; last = r.last; whole = ap (λ vs. u ∷ vs) r.whole; in_front = (h.0, r.in_front); in_last = r.in_last }

-- the least number of a cell lies in it
least : Cell → Fraction
least c = record { num = c.k; den = 2 ^ c.b; positive = pow_pos c.b }

least-in : (c : Cell) → IsInCell c.k c.b (least c)
unfolding least
least-in c = record { from = omega arith; to = let p = pow_pos c.b in omega arith }

-- The least numbers of the cells of a list, in their order.
pub least_of : List Cell → List Fraction
least_of [] = []
least_of (c ∷ cells) = least c ∷ least_of cells

-- The least numbers of cells lie in these cells, each in its own.
pub least_of-in : (cells : List Cell) → AreInCells (least_of cells) cells
unfolding least_of
least_of-in [] = tt
least_of-in (c ∷ cells) = (least-in c, least_of-in cells)

-- one more cell
pub length-more : (cells : List Cell) (c : Cell) → length (cells ++ c ∷ []) ≡ length cells + 1
length-more cells c = length-append cells (c ∷ [])

bits_in-step : (c : Cell) (cells : List Cell) → bits_in (c ∷ cells) ≡ c.b + bits_in cells
bits_in-step c cells = sum_by-cons (λ b. b) c.b (map (λ d. d.b) cells)

-- A cell c put after other cells adds its number of bits to theirs.
pub bits_in-more : (cells : List Cell) (c : Cell) → bits_in (cells ++ c ∷ []) ≡ bits_in cells + c.b
bits_in-more [] c = let e = bits_in-step c [] in let z : bits_in [] ≡ 0 = refl in omega arith
bits_in-more (d ∷ cells) c =
    let ih : bits_in (cells ++ c ∷ []) ≡ bits_in cells + c.b = bits_in-more cells c in
    let e = bits_in-step d (cells ++ c ∷ []) in
    let f = bits_in-step d cells in
    omega arith

-- Where all cells of a list have a property and a cell c has it too, all have it with c put at the
-- end.
pub each-more : (P : Cell → Type 0) (cells : List Cell) (c : Cell) → AllByRecursion P cells → P c → AllByRecursion P (cells ++ c ∷ [])
each-more P [] c all here = (here, tt)
each-more P (d ∷ cells) c all here = (all.0, each-more P cells c all.1 here)

-- cells spell at most 60 bits each
pub bits_in-few : (cells : List Cell) → AllByRecursion (λ c. IsCell c.k c.b) cells → bits_in cells ≤ 60 * length cells
bits_in-few [] all = let z : bits_in [] ≡ 0 = refl in omega arith
bits_in-few (c ∷ cells) all =
    let ih : bits_in cells ≤ 60 * length cells = bits_in-few cells all.1 in
    let few : c.b ≤ 60 = all.0.few_bits in
    let e = bits_in-step c cells in
    omega arith
