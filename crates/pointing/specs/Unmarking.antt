-- What is read of the objects that wait, piece by piece, where the mark of an atom is taken off.
use Rattle.std.specs.Prelude.{◌≡◌, ◌≢◌, ℕ, zero, suc, ◌+◌, ◌<◌, Bool, true, List, [], ◌∷◌, ◌++◌}
use Rattle.std.specs.Prelude.{map, take, length, Option, Some, slice_get}
use Rattle.bz_model.specs.Spec.{Spec, Node, node_at}
use Rattle.bz_model.specs.Object.{Object, Objects, none, more, count}
use Rattle.bz_model.specs.Object.Object.{Tuple, SeqOf}
use Rattle.class_system.specs.Views.{number}
use Rattle.class_system.specs.declared.ids.ExprId.{ExprId}
use Rattle.object_store.specs.declared.token.Token.{Token}
use Rattle.object_store.specs.declared.token.Token.TheVariants as token
use Rattle.object_store.specs.declared.visit.Visit.{Visit}
use Rattle.object_store.specs.Tokens.{tokens_of, tokens_all, size_of}
use Rattle.object_store.specs.Waiting.{AreWaiting, Shows}
use Rattle.well_founded.specs.EmptyObjects.{answer_at}
use Rattle.pointing.specs.Atoms.{is_atomic_node}
use Rattle.pointing.specs.Marking.{Marks, MarksOne, Splits, choices}
use Rattle.pointing.specs.PointedForm.{how_many}
use Rattle.pointing.specs.declared.dues.Due.{Due}
use Rattle.pointing.specs.declared.dues.Due.TheVariants as due

-- So many objects as they are, if there are any.
abbrev pub due_copies : ℕ → List Due
due_copies zero = []
due_copies (suc n) = due.Copied (suc n) ∷ []

-- What is to come of some objects, after what is written.
abbrev pub ToRead : Type 1
ToRead = Objects → (written : List Token) → Type 0

-- The first n objects are written as they are.
abbrev pub CopiesObjects : ℕ → (after : ToRead) → ToRead
CopiesObjects zero after os written = after os written
CopiesObjects (suc n) after none written = ⊥
CopiesObjects (suc n) after (more o os) written = CopiesObjects n after os (written ++ tokens_of o)

-- The first object is one of node e with an atom marked; it is written without the mark, and the
-- atom's number among all atoms is told.
pub record Unmarks (s : Spec) (e : ℕ) (after : (atom : ℕ) → ToRead) (m : Object) (os : Objects)
    (written : List Token) : Type 0 where
  pub atom : ℕ
  pub object : Object
  pub marks : Marks s (is_atomic_node s) e object atom m
  pub rest : after (size_of written + atom) os (written ++ tokens_of object)

-- The first object is a tuple of a product with an atom of its part at a place marked.
pub record UnmarksTuple (s : Spec) (e place : ℕ) (after : (atom : ℕ) → ToRead) (m : Object)
    (os : Objects) (written : List Token) : Type 0 where
  pub atom : ℕ
  pub parts : List ℕ
  pub objects : Objects
  pub marked : Objects
  pub is_node : node_at s e ≡ Some (Node.Product parts)
  pub marks : MarksOne s (is_atomic_node s) parts objects atom place marked
  pub is_tuple : m ≡ Tuple marked
  pub rest : after (size_of written + atom) os (written ++ tokens_all objects)

-- The first three objects are what stands before the marked object of a sequence, that object, and
-- what stands after it.
pub record UnmarksSplit (s : Spec) (part : ℕ) (after : (atom : ℕ) → ToRead) (first m last : Object)
    (os : Objects) (written : List Token) : Type 0 where
  pub atom : ℕ
  pub objects : Objects
  pub before : Objects
  pub later : Objects
  pub splits : Splits s (is_atomic_node s) part objects atom before m later
  pub is_first : first ≡ SeqOf before
  pub is_last : last ≡ SeqOf later
  pub rest : after (size_of written + atom) os (written ++ tokens_of (SeqOf objects))

-- The first object is what stands after the marked object of a sequence; the number of all objects
-- of the sequence takes the place of the token that was written for it.
pub record ReadsLast (place before : ℕ) (after : ToRead) (last : Object) (os : Objects)
    (written : List Token) : Type 0 where
  pub front : List Token
  pub kept : Token
  pub tail : List Token
  pub later : Objects
  pub is_written : written ≡ front ++ kept ∷ tail
  pub is_place : length front ≡ place
  pub is_last : last ≡ SeqOf later
  pub rest : after os ((front ++ token.Count (before + 1 + count later) ∷ tail) ++ tokens_all later)

-- Read so, the objects make the whole list of tokens and the number of the marked atom, `told`
-- being what was told of it before.
abbrev pub ReadsDue : Spec → (whole : List Token) → (atom : ℕ) → List Due → (told : ℕ) → ToRead
ReadsDue s whole atom [] told os written = (os ≡ none) × (written ≡ whole) × (told ≡ atom)
ReadsDue s whole atom (due.Copied n ∷ ds) told os written =
    CopiesObjects n (ReadsDue s whole atom ds told) os written
ReadsDue s whole atom (due.Marked e ∷ ds) told (more m os) written =
    Unmarks s e.0 (ReadsDue s whole atom ds) m os written
ReadsDue s whole atom (due.Tuple e place ∷ ds) told (more m os) written =
    UnmarksTuple s e.0 place (ReadsDue s whole atom ds) m os written
ReadsDue s whole atom (due.Split part ∷ ds) told (more first (more m (more last os))) written =
    UnmarksSplit s part.0 (ReadsDue s whole atom ds) first m last os written
ReadsDue s whole atom (due.Last place before ∷ ds) told (more last os) written =
    ReadsLast place before (ReadsDue s whole atom ds told) last os written
ReadsDue s whole atom _ told _ written = ⊥

-- What is still to be read, what is written, and the number that was told of the atom.
pub record Unmarking : Type 0 where
  pub dues : List Due
  pub written : List Token
  pub told : ℕ

abbrev pub ReadsOn : Spec → (whole : List Token) → (atom : ℕ) → Unmarking → Objects → Type 0
ReadsOn s whole atom u os = ReadsDue s whole atom u.dues u.told os u.written

-- Some that are put first.
abbrev pub with_dues : List Due → Unmarking → Unmarking
with_dues ds u = record { dues = ds ++ u.dues; written = u.written; told = u.told }

-- What is due is no empty row of objects.
abbrev pub IsSome : Option Due → Type 0
IsSome (Some (due.Copied n)) = 0 < n
IsSome _ = Unit {0}

-- The reading goes on as it did, for whatever whole and atom.
pub record SameReading (before now : Unmarking) : Type 0 where
  pub on : (s : Spec) (whole : List Token) (atom : ℕ) (os : Objects)
      → ReadsOn s whole atom before os → ReadsOn s whole atom now os

-- The node is no union with one choice.
pub record IsResolved (s : Spec) (e : ℕ) : Type 0 where
  pub choices : (parts : List ℕ) → node_at s e ≡ Some (Node.Union parts)
      → choices (is_atomic_node s) parts ≢ 1

-- What is marked at a node is marked at another, behind the tokens that were written.
pub record LeadsTo (s : Spec) (e now : ℕ) (old new : List Token) : Type 0 where
  pub no_atom : size_of new ≡ size_of old
  pub on : (o m : Object) (atom : ℕ) → Marks s (is_atomic_node s) e o atom m
      → (object : Object) × Marks s (is_atomic_node s) now object atom m
      × (old ++ tokens_of o ≡ new ++ tokens_of object)

-- What a reading comes to, where these nodes of p wait for these tokens.
pub record ReadsTo (s p : Spec) (whole : List Token) (atom : ℕ) (now : Unmarking) (fs : List ℕ)
    (us : List Token) : Type 0 where
  pub objects : Objects
  pub waits : AreWaiting p fs objects us
  pub reads : ReadsOn s whole atom now objects

-- The visit of a node of p was read, for whatever whole and atom.
pub record HasRead (s p : Spec) (e : ℕ) (v : Visit) (before now : Unmarking) : Type 0 where
  pub on : (whole : List Token) (atom : ℕ) (es : List ℕ) (os : Objects) (ts : List Token)
      (fs : List ℕ) (us : List Token) → Shows p e es os ts v fs us
      → ReadsOn s whole atom before os → ReadsTo s p whole atom now fs us

-- The part at a place is marked, and so many parts before it are.
pub record IsChoice (marks : List Bool) (parts : List ExprId) (choice place : ℕ) (part : ExprId)
    : Type 0 where
  pub is_part : slice_get parts place ≡ Some part
  pub is_marked : answer_at marks part.0 ≡ true
  pub before : how_many (map (answer_at marks) (map number (take place parts))) ≡ choice
