-- What is written of the objects that wait, piece by piece, where an atom is marked.
use Rattle.std.specs.Prelude.{◌≡◌, ℕ, zero, suc, ◌<◌, List, [], ◌∷◌, ◌++◌, Option, Some, None}
use Rattle.bz_model.specs.Spec.{Spec}
use Rattle.bz_model.specs.Object.{Object, Objects, none, more}
use Rattle.object_store.specs.declared.token.Token.{Token}
use Rattle.object_store.specs.declared.token.Token.TheVariants as token
use Rattle.object_store.specs.declared.visit.Visit.{Visit}
use Rattle.object_store.specs.declared.visit.Visit.TheVariants as visit
use Rattle.object_store.specs.Tokens.{tokens_of}
use Rattle.object_store.specs.Waiting.{AreWaiting, Shows}
use Rattle.pointing.specs.Atoms.{is_atomic_node}
use Rattle.pointing.specs.Marking.{Marks}
use Rattle.pointing.specs.Ways.{way}
use Rattle.pointing.specs.declared.pieces.Piece.{Piece}
use Rattle.pointing.specs.declared.pieces.Piece.TheVariants as piece

-- The token of an object that a visit shows; a reference and a tuple have none.
abbrev pub token_at : Visit → List Token
token_at (visit.Class body) = []
token_at visit.Product = []
token_at visit.Empty = token.Unit ∷ []
token_at visit.Atom = token.Dot ∷ []
token_at (visit.Union option part) = token.Pick option ∷ []
token_at (visit.Seq parts part) = token.Count parts ∷ []
token_at (visit.Set parts part) = token.Count parts ∷ []
token_at (visit.Cyc parts part) = token.Count parts ∷ []

-- The pick of a choice, which stands only where there isn't just one.
abbrev pub pick_of : (choices choice : ℕ) → List Token
pick_of (suc zero) choice = []
pick_of choices choice = token.Pick choice ∷ []

-- The piece of so many objects as they are, if there are any.
abbrev pub copied : ℕ → List Piece
copied zero = []
copied (suc n) = piece.Copied (suc n) ∷ []

-- What is to come of some nodes and their objects, after what is written.
abbrev pub ToCome : Type 1
ToCome = List ℕ → Objects → (written : List Token) → Type 0

-- The first n objects are written as they are.
abbrev pub Copies : ℕ → (after : ToCome) → ToCome
Copies zero after es os written = after es os written
Copies (suc n) after (e ∷ es) (more o os) written = Copies n after es os (written ++ tokens_of o)
Copies (suc n) after _ _ written = ⊥

-- The first object is written with an atom marked, to which the way leads.
pub record MarksFirst (s : Spec) (places : List ℕ) (after : ToCome) (e : ℕ) (es : List ℕ)
    (o : Object) (os : Objects) (written : List Token) : Type 0 where
  pub atom : ℕ
  pub marked : Object
  pub marks : Marks s (is_atomic_node s) e o atom marked
  pub is_way : places ≡ way o atom
  pub rest : after es os (written ++ tokens_of marked)

-- Written so, the pieces and the places on the way to the atom make the whole list of tokens.
abbrev pub Writes : Spec → (whole : List Token) → List Piece → (places : List ℕ) → ToCome
Writes s whole [] places es os written = (es ≡ []) × (os ≡ none) × (written ≡ whole)
Writes s whole (piece.Copied n ∷ ps) places es os written =
    Copies n (Writes s whole ps places) es os written
Writes s whole (piece.Marked ∷ ps) places (e ∷ es) (more o os) written =
    MarksFirst s places (Writes s whole ps []) e es o os written
Writes s whole (piece.Marked ∷ ps) places _ _ written = ⊥
Writes s whole (piece.Count k ∷ ps) places es os written =
    Writes s whole ps places es os (written ++ token.Count k ∷ [])

-- The pieces that are still to be written, the places on the way to the atom, and what is written.
pub record Writing : Type 0 where
  pub pieces : List Piece
  pub places : List ℕ
  pub written : List Token

-- What is to come of a writing.
abbrev pub WritesOn : Spec → (whole : List Token) → Writing → List ℕ → Objects → Type 0
WritesOn s whole w es os = Writes s whole w.pieces w.places es os w.written

-- A piece is due for the next object.
abbrev pub IsDue : Option Piece → Type 0
IsDue None = Unit {0}
IsDue (Some (piece.Copied n)) = 0 < n
IsDue (Some piece.Marked) = Unit {0}
IsDue (Some (piece.Count k)) = ⊥

-- A piece put first.
abbrev pub with_first : List Piece → Writing → Writing
with_first ps w = record { pieces = ps ++ w.pieces; places = w.places; written = w.written }

-- A writing goes on with some objects as it did, for whatever whole.
pub record SameWriting (before now : Writing) : Type 0 where
  pub on : (s : Spec) (whole : List Token) (es : List ℕ) (os : Objects)
      → WritesOn s whole before es os → WritesOn s whole now es os

-- What a writing comes to, where these nodes wait for these tokens.
pub record ComesTo (s : Spec) (whole : List Token) (now : Writing) (fs : List ℕ)
    (us : List Token) : Type 0 where
  pub objects : Objects
  pub waits : AreWaiting s fs objects us
  pub writes : WritesOn s whole now fs objects

-- The visit of a node was written.
pub record HasWritten (s : Spec) (e : ℕ) (v : Visit) (before now : Writing) : Type 0 where
  pub on : (whole : List Token) (es : List ℕ) (os : Objects) (ts : List Token) (fs : List ℕ)
      (us : List Token) → Shows s e es os ts v fs us → WritesOn s whole before (e ∷ es) os
      → ComesTo s whole now fs us
