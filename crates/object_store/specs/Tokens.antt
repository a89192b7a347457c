-- Tokens of an object: the nodes of its tree in preorder. Tuples and class references make no
-- token.
use Rattle.std.specs.Prelude.{◌≡◌, ℕ, ◌+◌, List, [], ◌∷◌, ◌++◌, Some}
use Rattle.bz_model.specs.Spec.{Spec, body_of}
use Rattle.bz_model.specs.Object.{Object, Objects, none, more, count, Belongs}
use Rattle.bz_model.specs.Object.Object.{Unit_, Dot, Pick, Tuple, SeqOf, SetOf, CycOf}
use Rattle.object_store.specs.declared.token.Token.{Token}
use Rattle.object_store.specs.declared.token.Token.TheVariants as token

-- The tokens of an object: one for a neutral object and for an atom, the option before the part's
-- tokens, the number of parts before the tokens of all parts, and none of its own for a tuple.
abbrev mutual
  pub tokens_of : Object → List Token
  tokens_of Unit_ = token.Unit ∷ []
  tokens_of Dot = token.Dot ∷ []
  tokens_of (Pick i o) = token.Pick i ∷ tokens_of o
  tokens_of (Tuple os) = tokens_all os
  tokens_of (SeqOf os) = token.Count (count os) ∷ tokens_all os
  tokens_of (SetOf os) = token.Count (count os) ∷ tokens_all os
  tokens_of (CycOf os) = token.Count (count os) ∷ tokens_all os

  -- The tokens of all objects of a list, one object after the other.
  pub tokens_all : Objects → List Token
  tokens_all none = []
  tokens_all (more o os) = tokens_of o ++ tokens_all os

-- A token stands for one atom where it is a dot, and for none where it is another.
abbrev pub token_size : Token → ℕ
token_size token.Unit = 0
token_size token.Dot = 1
token_size (token.Pick i) = 0
token_size (token.Count k) = 0

-- The number of atoms of a list of tokens, which is its number of dots.
abbrev pub size_of : List Token → ℕ
size_of [] = 0
size_of (t ∷ ts) = token_size t + size_of ts

-- The tokens are those of an object of a class.
pub record IsOf (s : Spec) (c : ℕ) (tokens : List Token) : Type 0 where
  pub body : ℕ
  pub is_body : body_of s c ≡ Some body
  pub object : Object
  pub belongs : Belongs s body object
  pub spelled : tokens_of object ≡ tokens

-- A list has one object of each of these nodes, in order.
abbrev pub BelongEach : Spec → List ℕ → Objects → Type 0
BelongEach s [] none = Unit {0}
BelongEach s (e ∷ es) (more o os) = Belongs s e o × BelongEach s es os
BelongEach s _ _ = ⊥

-- The tokens are those of one object of each of these nodes, one object after the other.
pub record AreOf (s : Spec) (es : List ℕ) (tokens : List Token) : Type 0 where
  pub objects : Objects
  pub belong : BelongEach s es objects
  pub spelled : tokens_all objects ≡ tokens
