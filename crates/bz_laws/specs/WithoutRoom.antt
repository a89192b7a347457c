-- Ideal making without a limit of room: the object that a node makes of a list of numbers.
use Rattle.std.specs.Prelude.{◌≡◌, ℕ, List, [], ◌∷◌, Some, slice_get, replicate}
use Rattle.bz_model.specs.Fraction.{Fraction}
use Rattle.bz_model.specs.Spec.{Spec, Node, node_at, body_of}
use Rattle.bz_model.specs.Object.{Object, Objects, none, more}
use Rattle.bz_model.specs.Ideal.{IsIdealOption}
use Rattle.bz_model.specs.Making.{IsCounted}

-- A node makes an object of a list of numbers, whatever its size; the numbers left are told too.
mutual
  pub data MakesAlone (s : Spec) (x : Fraction) :
      ℕ → List Fraction → Object → List Fraction → Type 0 where
    -- A neutral leaf and an atom take no number.
    empty : {e : ℕ} {us : List Fraction} (word : List ℕ) → node_at s e ≡ Some (Node.Empty word)
        → MakesAlone s x e us Object.Unit_ us
    atom : {e : ℕ} {us : List Fraction} (word : List ℕ) → node_at s e ≡ Some (Node.Atom word)
        → MakesAlone s x e us Object.Dot us
    -- A class is its body.
    class : {e : ℕ} {us left : List Fraction} {o : Object} (c body : ℕ)
        → node_at s e ≡ Some (Node.Class c) → body_of s c ≡ Some body
        → MakesAlone s x body us o left → MakesAlone s x e us o left
    -- A union takes a number and makes the part that is its ideal option.
    union : {e : ℕ} {u : Fraction} {us left : List Fraction} {r : Object} (parts : List ℕ)
        (i part : ℕ) (o : Object) → node_at s e ≡ Some (Node.Union parts)
        → IsIdealOption s x u e i → slice_get parts i ≡ Some part
        → MakesAlone s x part us o left → r ≡ Object.Pick i o → MakesAlone s x e (u ∷ us) r left
    -- A product makes its parts.
    product : {e : ℕ} {us left : List Fraction} {r : Object} (parts : List ℕ) (os : Objects)
        → node_at s e ≡ Some (Node.Product parts) → MakeAllAlone s x parts us os left
        → r ≡ Object.Tuple os → MakesAlone s x e us r left
    -- A sequence, set or cycle takes a number and makes its part as often as the ideal option says.
    counted : {e : ℕ} {u : Fraction} {us left : List Fraction} {r : Object} (node : Node)
        (part i : ℕ) (form : Objects → Object) (os : Objects) → node_at s e ≡ Some node
        → IsCounted node part form → IsIdealOption s x u e i
        → MakeAllAlone s x (replicate i part) us os left → r ≡ form os
        → MakesAlone s x e (u ∷ us) r left

  -- Nodes make one object each, from left to right, each of the numbers that the one before left.
  pub data MakeAllAlone (s : Spec) (x : Fraction) :
      List ℕ → List Fraction → Objects → List Fraction → Type 0 where
    done : {us : List Fraction} → MakeAllAlone s x [] us none us
    first : {e : ℕ} {es : List ℕ} {us after left : List Fraction} {r : Objects} (o : Object)
        (os : Objects) → MakesAlone s x e us o after → MakeAllAlone s x es after os left
        → r ≡ more o os → MakeAllAlone s x (e ∷ es) us r left
