-- Lists of numbers in lists of cells: taken apart where the cells are, and one for every list of cells.
use Rattle.std.proofs.Common.{◌≡◌, ◌^◌, List, [], ◌∷◌, ◌++◌, arith, refl, ap}
use Rattle.std.proofs.lemmas.Nat.{pow_pos}
use Rattle.bz_model.specs.declared.cell.Cell.{Cell}
use Rattle.bz_model.specs.Fraction.{Fraction}
use Rattle.bz_model.specs.Cell.{IsInCell, AreInCells}

-- Numbers of the first cells and numbers of the others.
pub record Apart (us : List Fraction) (cs ds : List Cell) : Type 0 where
  pub front : List Fraction
  pub back : List Fraction
  pub whole : us ≡ front ++ back
  pub in_front : AreInCells front cs
  pub in_back : AreInCells back ds

-- Numbers in two lists of cells put together are numbers in the first list, followed by numbers in
-- the second.
pub apart : (us : List Fraction) (cs ds : List Cell) → AreInCells us (cs ++ ds) → Apart us cs ds
apart us [] ds h = record { front = []; back = us; whole = refl; in_front = tt; in_back = h }
apart (u ∷ us) (c ∷ cs) ds h =
    let r = apart us cs ds h.1 in
    record { front = u ∷ r.front; back = r.back; whole = ap (λ vs. u ∷ vs) r.whole; in_front = (h.0, r.in_front); in_back = r.in_back }
apart [] (c ∷ cs) ds h = elim h [ ]

-- no number lies in no cell
pub none_in : (us : List Fraction) → AreInCells us [] → us ≡ []
none_in [] h = refl
none_in (u ∷ us) h = elim h [ ]

-- one number lies in one cell
pub record One (us : List Fraction) (c : Cell) : Type 0 where
  pub number : Fraction
  pub is : us ≡ number ∷ []
  pub inside : IsInCell c.k c.b number

-- A list of numbers in a single cell is one number, which lies in the cell.
pub one_in : (us : List Fraction) (c : Cell) → AreInCells us (c ∷ []) → One us c
one_in (u ∷ []) c h = record { number = u; is = refl; inside = h.0 }
one_in [] c h = elim h [ ]
one_in (u ∷ v ∷ us) c h = elim h.1 [ ]

-- the least number of a cell
pub least : Cell → Fraction
least c = record { num = c.k; den = 2 ^ c.b; positive = pow_pos c.b }

-- The least number of a cell lies in it.
pub least-in : (c : Cell) → IsInCell c.k c.b (least c)
unfolding least
least-in c = record { from = omega arith; to = let p = pow_pos c.b in omega arith }

-- the least numbers of cells
pub least_of : List Cell → List Fraction
least_of [] = []
least_of (c ∷ cs) = least c ∷ least_of cs

-- The least numbers of cells lie in these cells, each in its own.
pub least_of-in : (cs : List Cell) → AreInCells (least_of cs) cs
unfolding least_of
least_of-in [] = tt
least_of-in (c ∷ cs) = (least-in c, least_of-in cs)
