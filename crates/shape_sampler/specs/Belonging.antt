-- When an attempt belongs to a specification and x: its state stands for the beginning of every
-- ideal making whose numbers lie in its cells.
use Rattle.std.specs.Prelude.{◌≡◌, ◌≢◌, ℕ, List, [], ◌++◌, length}
use Rattle.bz_model.specs.declared.cell.Cell.{Cell}
use Rattle.bz_model.specs.Fraction.{Fraction}
use Rattle.bz_model.specs.Spec.{Spec}
use Rattle.bz_model.specs.Cell.{AreInCells}
use Rattle.bz_model.specs.Object.{Object, Objects}
use Rattle.bz_model.specs.Making.{Just, Over, All, AllOver, MakesEach, ClassMakes}
use Rattle.object_store.specs.declared.token.Token.{Token}
use Rattle.object_store.specs.Tokens.{tokens_of, tokens_all}
use Rattle.object_store.specs.Walk.{AllBelow}
use Rattle.shape_sampler.specs.Visit.{Attempt}

-- From a room and a list of numbers class 0 makes an object with these tokens, with this room and
-- these numbers left.
pub record MakesTokens (s : Spec) (x : Fraction) (room : ℕ) (us : List Fraction)
    (tokens : List Token) (room_left : ℕ) (left : List Fraction) : Type 0 where
  pub object : Object
  pub made : ClassMakes s x 0 room us (Just object room_left) left
  pub spelled : tokens_of object ≡ tokens

-- Take any numbers of the cells and any further numbers. Where the pending nodes are made in order,
-- from the room left and the further numbers, class 0 makes from all these numbers and the whole
-- room the tokens so far, followed by those of what the nodes make; and where the pending nodes are
-- over, class 0 is over. The numbers left are the same.
pub record Continues (s : Spec) (x : Fraction) (whole : ℕ) (tokens : List Token) (cells : List Cell)
    (room : ℕ) (pending : List ℕ) : Type 0 where
  pub makes : (us rest left : List Fraction) (os : Objects) (r : ℕ) → AreInCells us cells
      → MakesEach s x pending room rest (All os r) left → MakesTokens s x whole (us ++ rest)
      (tokens ++ tokens_all os) r left
  pub over : (us rest left : List Fraction) → AreInCells us cells
      → MakesEach s x pending room rest AllOver left → ClassMakes s x 0 whole (us ++ rest) Over left

-- An attempt belongs where its pending nodes are nodes of the specification and, while there are
-- any, it goes on as ideal making does.
pub record Belonging (s : Spec) (x : Fraction) (whole : ℕ) (a : Attempt) : Type 0 where
  pub in_range : AllBelow (length s.nodes) a.pending
  pub goes_on : a.pending ≢ [] → Continues s x whole a.tokens a.cells a.room a.pending

-- A shape is the ideal one where one object has its tokens, and class 0 makes this object from the
-- whole room and every list of numbers of the cells; further numbers are left.
pub record IsIdealShape (s : Spec) (x : Fraction) (whole : ℕ) (tokens : List Token)
    (cells : List Cell) : Type 0 where
  pub object : Object
  pub spelled : tokens_of object ≡ tokens
  pub room_left : ℕ
  pub made : (us rest : List Fraction) → AreInCells us cells → ClassMakes s x 0 whole (us ++ rest)
      (Just object room_left) rest

-- Class 0 is over the whole room for every list of numbers of the cells; further numbers are left.
pub record IsIdealOver (s : Spec) (x : Fraction) (whole : ℕ) (cells : List Cell) : Type 0 where
  pub over : (us rest : List Fraction) → AreInCells us cells
      → ClassMakes s x 0 whole (us ++ rest) Over rest
