-- Reading a text from its front: words, numbers, steps that leave the same to be read, and the
-- first byte that can't stand.
use Rattle.std.specs.Prelude.{◌≡◌, ◌≢◌, ℕ, ◌+◌, ◌-◌, ◌*◌, ◌<◌, ◌≤◌, List, [], ◌∷◌, ◌++◌, length}
use Rattle.std.specs.Prelude.{decimal}
use Rattle.object_text.specs.Taken.{Taken}
use Rattle.object_text.specs.declared.scan.Stop.{Stop}
use Rattle.object_text.specs.declared.scan.Stop.TheVariants as stop

-- The text begins with a word, and something holds of what follows.
pub record Word (word : List ℕ) (Later : List ℕ → Type 0) (text : List ℕ) : Type 0 where
  pub rest : List ℕ
  pub split : text ≡ word ++ rest
  pub later : Later rest

-- The text begins with a number from low to most, and something holds of the number and of what
-- follows.
pub record Number (low most : ℕ) (Later : ℕ → List ℕ → Type 0) (text : List ℕ) : Type 0 where
  pub number : ℕ
  pub least : low ≤ number
  pub greatest : number ≤ most
  pub rest : List ℕ
  pub split : text ≡ decimal number ++ rest
  pub later : Later number rest

-- The first byte is another than this one, or is missing.
abbrev pub IsOther : ℕ → List ℕ → Type 0
IsOther byte [] = Unit {0}
IsOther byte (b ∷ text) = b ≢ byte

-- The text has the first bytes of a word, and then, with so many bytes left, another byte than the
-- word's, or ends.
pub record DiffersFrom (word text : List ℕ) (left : ℕ) : Type 0 where
  pub same : List ℕ
  pub byte : ℕ
  pub others : List ℕ
  pub back : List ℕ
  pub word_is : word ≡ same ++ byte ∷ others
  pub text_is : text ≡ same ++ back
  pub count : length back ≡ left
  pub differs : IsOther byte back

-- The first byte is this one.
abbrev pub BeginsWithByte : ℕ → List ℕ → Type 0
BeginsWithByte byte [] = ⊥
BeginsWithByte byte (b ∷ text) = b ≡ byte

-- A byte is a digit.
pub record IsDigit (byte : ℕ) : Type 0 where
  pub from_0 : 48 ≤ byte
  pub to_9 : byte ≤ 57

-- The digits of a number end here: the first byte is no further digit of a number of at most
-- `most`.
abbrev pub EndsNumber : ℕ → ℕ → List ℕ → Type 0
EndsNumber most n [] = Unit {0}
EndsNumber most n (b ∷ text) = IsDigit b → 1 ≤ n → most < 10 * n + (b - 48)

-- The first byte is a further digit of a number of at most `most`, which is this one.
pub record FurtherDigit (most n : ℕ) (text : List ℕ) (more : ℕ) : Type 0 where
  pub digit : ℕ
  pub small : digit ≤ 9
  pub begins : BeginsWithByte (48 + digit) text
  pub positive : 1 ≤ n
  pub value : more ≡ 10 * n + digit
  pub within : more ≤ most

-- The text begins with the digits of a number from low to most, and with no further digit of such a
-- number.
pub record BeginsWithNumber (low most : ℕ) (text : List ℕ) (n : ℕ) (rest : List ℕ) : Type 0 where
  pub least : low ≤ n
  pub greatest : n ≤ most
  pub split : text ≡ decimal n ++ rest
  pub longest : EndsNumber most n rest

-- The first byte is no first digit of a number from low to most, low being 0 or 1.
abbrev pub HasNoNumber : ℕ → ℕ → List ℕ → Type 0
HasNoNumber low most [] = Unit {0}
HasNoNumber low most (b ∷ text) = IsDigit b → low ≤ b - 48 → most < b - 48

-- The text begins with a number sign and a label, and with no further digit of a label.
pub record IsLabel (text : List ℕ) (label : ℕ) (rest : List ℕ) : Type 0 where
  pub digits : List ℕ
  pub split : text ≡ 35 ∷ digits
  pub number : BeginsWithNumber 1 1000000 digits label rest

-- With so many bytes left, the number sign is missing or no label begins behind it.
pub data HasNoLabel (text : List ℕ) (left : ℕ) : Type 0 where
  no_sign : left ≡ length text → IsOther 35 text → HasNoLabel text left
  no_digits : (digits : List ℕ) → text ≡ 35 ∷ digits → left ≡ length digits
      → HasNoNumber 1 1000000 digits → HasNoLabel text left

-- Nothing follows, or the same first byte.
abbrev pub BeginsLike : List ℕ → List ℕ → Type 0
BeginsLike [] other = other ≡ []
BeginsLike (b ∷ text) other = (rest : List ℕ) × (other ≡ b ∷ rest)

-- Bytes were taken off the front of a text, and what could be read of any text with this front that
-- goes on likewise can be read of what follows the front.
pub record Steps (Before Now : Taken → List ℕ → Type 0) (text rest : List ℕ) : Type 0 where
  pub front : List ℕ
  pub split : text ≡ front ++ rest
  pub back : (whole : Taken) (other : List ℕ) → Now whole other → Before whole (front ++ other)
  pub forth : (whole : Taken) (other : List ℕ) → BeginsLike rest other
      → Before whole (front ++ other) → Now whole other

-- Something can be read of the text.
pub record Accepts (Reads : Taken → List ℕ → Type 0) (text : List ℕ) : Type 0 where
  pub whole : Taken
  pub reads : Reads whole text

-- Of the text that has this front nothing can be read: it ends there, or its next byte can't stand
-- there, whatever follows.
abbrev pub CantGoOn : (Taken → List ℕ → Type 0) → List ℕ → List ℕ → Type 0
CantGoOn Reads front [] = ¬ (Accepts Reads front)
CantGoOn Reads front (b ∷ back) = (more : List ℕ) → ¬ (Accepts Reads (front ++ b ∷ more))

-- The first byte that can't stand is the one with so many bytes left, or the text ends too early.
pub record Faults (Reads : Taken → List ℕ → Type 0) (text : List ℕ) (left : ℕ) : Type 0 where
  pub front : List ℕ
  pub back : List ℕ
  pub split : text ≡ front ++ back
  pub count : length back ≡ left
  pub more : List ℕ
  pub goes_on : Accepts Reads (front ++ more)
  pub stops : CantGoOn Reads front back

-- Where reading stops with so many bytes left, this holds; want of memory may come anywhere.
abbrev pub StopsAt : (ℕ → Type 0) → Stop → Type 0
StopsAt P (stop.At left) = P left
StopsAt P stop.OutOfMemory = Unit {0}
