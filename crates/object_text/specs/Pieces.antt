-- What the beginning of an object, or what stands behind one, takes off the front of a text.
use Rattle.std.specs.Prelude.{◌≡◌, ℕ, ◌+◌, ◌-◌, List, ◌∷◌, ◌++◌, length, codes, Option, Some, None}
use Rattle.std.specs.Prelude.{slice_get}
use Rattle.bz_model.specs.Spec.{IsInRange, IsWithinHigh}
use Rattle.bz_model.specs.ObjectText.{leaf_text}
use Rattle.class_system.specs.Views.{spec_range}
use Rattle.class_system.specs.declared.draft.Mode.{Mode}
use Rattle.class_system.specs.declared.draft.Mode.TheVariants.{Unlabelled, Labelled}
use Rattle.class_system.specs.declared.ids.ExprId.{ExprId}
use Rattle.class_system.specs.declared.ranges.Range.{Range}
use Rattle.object_store.specs.declared.token.Token.TheVariants as token
use Rattle.object_text.specs.declared.parse_stack.Expected.{Expected}
use Rattle.object_text.specs.declared.parse_stack.Expected.TheVariants.{Close, Further}
use Rattle.object_text.specs.declared.parse_stack.Counted.{Counted}
use Rattle.object_text.specs.declared.parsed.Kind.{Kind}
use Rattle.object_text.specs.Taken.{Taken, with_token, with_label, opened, parted, closed}
use Rattle.object_text.specs.Expected.{opener, closer, expected_parts}
use Rattle.object_text.specs.Scanning.{IsOther, BeginsWithByte, DiffersFrom, BeginsWithNumber}
use Rattle.object_text.specs.Scanning.{HasNoNumber, IsLabel, HasNoLabel}

-- What was read, and what is expected.
pub record ReadingState : Type 0 where
  pub taken : Taken
  pub stack : List Expected

-- A neutral object was read.
pub record IsNeutral (word text : List ℕ) (old : ReadingState) (next : Option ExprId)
    (now : ReadingState)
    (rest : List ℕ) : Type 0 where
  pub split : text ≡ leaf_text (codes "E") word ++ rest
  pub over : next ≡ None
  pub taken : now.taken ≡ with_token old.taken token.Unit
  pub stack : now.stack ≡ old.stack

-- An atom's label was read, in labelled mode.
pub data IsLabelIf : Mode → (text : List ℕ) → Taken → Taken → (rest : List ℕ) → Type 0 where
  unlabelled : {text rest : List ℕ} {old now : Taken} → text ≡ rest → now ≡ old
      → IsLabelIf Unlabelled text old now rest
  labelled : {text rest : List ℕ} {old now : Taken} → (label : ℕ) → IsLabel text label rest
      → now ≡ with_label old label → IsLabelIf Labelled text old now rest

-- An atom was read.
pub record IsAtom (mode : Mode) (word text : List ℕ) (old : ReadingState) (next : Option ExprId)
    (now : ReadingState) (rest : List ℕ) : Type 0 where
  pub behind : List ℕ
  pub split : text ≡ leaf_text (codes "Z") word ++ behind
  pub label : IsLabelIf mode behind (with_token old.taken token.Dot) now.taken rest
  pub over : next ≡ None
  pub stack : now.stack ≡ old.stack

-- No atom can be read: its word is missing, or its label.
pub data IsNoAtom : Mode → (word text : List ℕ) → ℕ → Type 0 where
  no_word : {mode : Mode} {word text : List ℕ} {left : ℕ}
      → DiffersFrom (leaf_text (codes "Z") word) text left → IsNoAtom mode word text left
  no_label : {word text : List ℕ} {left : ℕ} → (behind : List ℕ) → text ≡ leaf_text (codes "Z") word
      ++ behind → HasNoLabel behind left → IsNoAtom Labelled word text left

-- The option of a union and its full stop were read.
pub record IsOption (parts : List ExprId) (text : List ℕ) (old : ReadingState)
    (next : Option ExprId)
    (now : ReadingState) (rest : List ℕ) : Type 0 where
  pub option : ℕ
  pub number : BeginsWithNumber 0 (length parts - 1) text option (46 ∷ rest)
  pub part : slice_get parts option ≡ next
  pub taken : now.taken ≡ with_token old.taken (token.Pick option)
  pub stack : now.stack ≡ old.stack

-- No option can be read: its number is missing, or its full stop.
pub data IsNoOption (parts : List ExprId) (text : List ℕ) (left : ℕ) : Type 0 where
  no_number : left ≡ length text → HasNoNumber 0 (length parts - 1) text
      → IsNoOption parts text left
  no_stop : (option : ℕ) (behind : List ℕ)
      → BeginsWithNumber 0 (length parts - 1) text option behind → left ≡ length behind
      → IsOther 46 behind → IsNoOption parts text left

-- The beginning of a product was read.
pub record IsProduct (parts : List ExprId) (text : List ℕ) (old : ReadingState)
    (next : Option ExprId)
    (now : ReadingState) (rest : List ℕ) : Type 0 where
  pub first : ExprId
  pub later : List ExprId
  pub parts_are : parts ≡ first ∷ later
  pub split : text ≡ 40 ∷ rest
  pub first_next : next ≡ Some first
  pub taken : now.taken ≡ old.taken
  pub stack : now.stack ≡ expected_parts later ++ Close ∷ old.stack

-- A byte is missing at the front.
pub record IsNoByte (byte : ℕ) (text : List ℕ) (left : ℕ) : Type 0 where
  pub count : left ≡ length text
  pub other : IsOther byte text

-- The list may end here: it may have so many parts, and its closing byte comes.
pub record MayEnd (kind : Kind) (range : Range) (parts : ℕ) (text : List ℕ) : Type 0 where
  pub in_range : IsInRange parts (Some (spec_range range))
  pub closes : BeginsWithByte (closer kind) text

-- Another part may come: the list may have more parts, and a space comes.
pub record MayGoOn (range : Range) (parts : ℕ) (text : List ℕ) : Type 0 where
  pub below_high : IsWithinHigh (parts + 1) range.high
  pub space : BeginsWithByte 32 text

-- The beginning of a list was read, or a list without parts.
pub data IsList (kind : Kind) (part : ExprId) (range : Range) (text : List ℕ) (old : ReadingState)
    (next : Option ExprId) (now : ReadingState) (rest : List ℕ) : Type 0 where
  empty : IsInRange 0 (Some (spec_range range)) → text ≡ opener kind ∷ closer kind ∷ rest
      → next ≡ None → now.taken ≡ closed 0 (opened kind old.taken) → now.stack ≡ old.stack
      → IsList kind part range text old next now rest
  begun : ¬ (MayEnd kind range 0 rest) → text ≡ opener kind ∷ rest → next ≡ Some part
      → now.taken ≡ opened kind old.taken
      → now.stack ≡ Further (record { kind = kind; part = part; range = range; parts = 0 })
      ∷ old.stack → IsList kind part range text old next now rest

-- Behind a part of a list its end was read, or a space before another part.
pub data IsFurther (c : Counted) (text : List ℕ) (old : ReadingState) (next : Option ExprId)
    (now : ReadingState)
    (rest : List ℕ) : Type 0 where
  ended : IsInRange (c.parts + 1) (Some (spec_range c.range)) → text ≡ closer c.kind ∷ rest
      → next ≡ None → now.taken ≡ closed (c.parts + 1) (parted old.taken) → now.stack ≡ old.stack
      → IsFurther c text old next now rest
  goes_on : IsWithinHigh (c.parts + 1 + 1) c.range.high → text ≡ 32 ∷ rest → next ≡ Some c.part
      → now.taken ≡ parted old.taken
      → now.stack ≡ Further (record {
        kind = c.kind;
        part = c.part;
        range = c.range;
        parts =
            c.parts + 1;
      }) ∷ old.stack → IsFurther c text old next now rest

-- Behind a part of a list neither its end nor another part can be read.
pub record IsNoFurther (c : Counted) (text : List ℕ) (left : ℕ) : Type 0 where
  pub count : left ≡ length text
  pub no_end : ¬ (MayEnd c.kind c.range (c.parts + 1) text)
  pub no_part : ¬ (MayGoOn c.range (c.parts + 1) text)
