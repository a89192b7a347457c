-- What reading the text of an object answers.
use Rattle.std.specs.Prelude.{◌≡◌, ℕ, ◌+◌, ◌<◌, ◌≤◌, List, ◌++◌, length, take, Option, Some, None}
use Rattle.bz_model.specs.Spec.{Spec, Mode, body_of}
use Rattle.bz_model.specs.Object.{Object}
use Rattle.bz_model.specs.ObjectText.{IsObjectText, IsCanonicalText}
use Rattle.object_store.specs.declared.token.Token.{Token}
use Rattle.object_store.specs.Tokens.{tokens_of}
use Rattle.object_text.specs.declared.fault.TextFault.{TextFault}
use Rattle.object_text.specs.declared.fault.TextFault.TheVariants as fault

-- A text is of the form where it is that of some object of the node with some labels, the parts of
-- sets and cycles standing in any order.
pub record IsForm (s : Spec) (e : ℕ) (text : List ℕ) : Type 0 where
  pub object : Object
  pub labels : List ℕ
  pub is_text : IsObjectText s e text object labels

-- Some text of the form begins with these bytes.
pub record BeginsSomeText (s : Spec) (e : ℕ) (front : List ℕ) : Type 0 where
  pub more : List ℕ
  pub form : IsForm s e (front ++ more)

-- The byte at a place is the first that can't stand there: some text of the form begins with the
-- bytes before it, and none begins with these and it. At the end of the text this says that bytes
-- are missing: some text of the form begins with the whole text, which isn't of the form itself.
pub record IsWrongAt (s : Spec) (e : ℕ) (text : List ℕ) (place : ℕ) : Type 0 where
  pub within : place ≤ length text
  pub before : BeginsSomeText s e (take place text)
  pub byte : place < length text → ¬ (BeginsSomeText s e (take (place + 1) text))
  pub missing : place ≡ length text → ¬ (IsForm s e text)

-- The text is of the form, and isn't the canonical text of the object with labels that it stands
-- for.
pub record IsNotCanonical (s : Spec) (e : ℕ) (text : List ℕ) : Type 0 where
  pub object : Object
  pub labels : List ℕ
  pub is_text : IsObjectText s e text object labels
  pub not_canonical : ¬ (IsCanonicalText s e text object labels)

-- The labels that are told: a list in labelled mode, and none in unlabelled mode.
abbrev pub told : Mode → List ℕ → Option (List ℕ)
told Mode.Unlabelled labels = None
told Mode.Labelled labels = Some labels

-- The text is the canonical text of an object of the class with labels, and these are the object's
-- tokens and the labels.
pub record IsRead (s : Spec) (c : ℕ) (text : List ℕ) (tokens : List Token)
    (labels_told : Option (List ℕ)) : Type 0 where
  pub body : ℕ
  pub is_body : body_of s c ≡ Some body
  pub object : Object
  pub labels : List ℕ
  pub canonical : IsCanonicalText s body text object labels
  pub spelled : tokens_of object ≡ tokens
  pub labels_are : told s.mode labels ≡ labels_told

-- The fault of a text at the body of a class; want of memory may come with any text.
abbrev pub TellsFaultAt : Spec → ℕ → List ℕ → TextFault → Type 0
TellsFaultAt s body text (fault.NotObject place) = IsWrongAt s body text place
TellsFaultAt s body text fault.NotCanonical = IsNotCanonical s body text
TellsFaultAt s body text fault.OutOfMemory = Unit {0}

-- The fault of a text that isn't the canonical text of an object of the class.
pub record TellsFault (s : Spec) (c : ℕ) (text : List ℕ) (fault : TextFault) : Type 0 where
  pub body : ℕ
  pub is_body : body_of s c ≡ Some body
  pub tells : TellsFaultAt s body text fault
