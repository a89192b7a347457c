-- The texts of specifications, and why a text is none.
use Rattle.std.specs.Prelude.{◌≡◌, ℕ, ◌<◌, ◌≤◌, true, List, [], ◌∷◌, ◌++◌, length, drop, map, Some}
use Rattle.std.specs.Prelude.{None, position, not}
use Rattle.std.specs.List.{AllPass}
use Rattle.bz_model.specs.Spec.{Spec, Mode}
use Rattle.class_system.specs.Limits.{TellsLimit}
use Rattle.class_system.specs.declared.limits.BuildFault.{BuildFault}
use Rattle.spec_reader.specs.declared.tokens.Token.{Token}
use Rattle.spec_reader.specs.declared.tokens.Placed.{Placed}
use Rattle.spec_reader.specs.declared.fault.SpecFault.{SpecFault}
use Rattle.spec_reader.specs.Bytes.{is_text}
use Rattle.spec_reader.specs.Tokens.{tokens_of}
use Rattle.spec_reader.specs.Grammar.{Definition, IsText, Begins}
use Rattle.spec_reader.specs.Tables.{tables, names_of}
use Rattle.spec_reader.specs.Faults.{first_fault}

-- The tokens without their places.
abbrev pub plain_tokens : List Placed → List Token
plain_tokens ts = map (λ t. t.token) ts

-- Tokens stand for a specification: they are a text of the grammar without a fault, and the
-- specification has the tables of its definitions.
pub record StandFor (ts : List Placed) (s : Spec) : Type 0 where
  pub mode : Mode
  pub definitions : List Definition
  pub is_text : IsText (plain_tokens ts) mode definitions
  pub no_fault : first_fault mode (names_of definitions) [] true (drop 2 ts) ≡ None
  pub tables_are : s ≡ tables mode definitions

-- A text stands for a specification: its bytes are text, and its tokens stand for the
-- specification.
pub record Grammar (bytes : List ℕ) (s : Spec) : Type 0 where
  pub all_text : AllPass is_text bytes
  pub stand_for : StandFor (tokens_of bytes) s

-- This is the first token such that no text begins with the tokens up to and with it.
pub record IsMisplaced (ts : List Placed) (line column : ℕ) : Type 0 where
  pub token : Placed
  pub before : List Placed
  pub behind : List Placed
  pub is_there : ts ≡ before ++ token ∷ behind
  pub begins : Begins (plain_tokens before)
  pub ends : ¬ (Begins (plain_tokens (before ++ token ∷ [])))
  pub line_is : line ≡ token.line
  pub column_is : column ≡ token.column

-- The tokens are a text of the grammar with this first fault.
pub record HasFirstFault (ts : List Placed) (f : SpecFault) : Type 0 where
  pub mode : Mode
  pub definitions : List Definition
  pub is_text : IsText (plain_tokens ts) mode definitions
  pub first : first_fault mode (names_of definitions) [] true (drop 2 ts) ≡ Some f

-- Why tokens stand for no specification. Want of memory may come at any point.
abbrev pub TokensFault : List Placed → SpecFault → Type 0
TokensFault ts (SpecFault.TooLong len) = ⊥
TokensFault ts (SpecFault.NotText place) = ⊥
TokensFault ts (SpecFault.Syntax line column) = IsMisplaced ts line column
TokensFault ts (SpecFault.Undefined line column) = HasFirstFault ts
    (SpecFault.Undefined line column)
TokensFault ts (SpecFault.Twice line) = HasFirstFault ts (SpecFault.Twice line)
TokensFault ts (SpecFault.NeedsLabels line column) = HasFirstFault ts
    (SpecFault.NeedsLabels line column)
TokensFault ts (SpecFault.Limit fault) = ⊥
TokensFault ts SpecFault.OutOfMemory = Unit {0}

-- A text has at most 65536 bytes, all of them text.
pub record IsReadable (bytes : List ℕ) : Type 0 where
  pub few : length bytes ≤ 65536
  pub all_text : AllPass is_text bytes

-- A limit is told of a readable text that stands for a specification and breaks this limit.
pub record BreaksLimit (bytes : List ℕ) (fault : BuildFault) : Type 0 where
  pub few : length bytes ≤ 65536
  pub specification : Spec
  pub stands : Grammar bytes specification
  pub tells : TellsLimit specification fault

-- A limit that a fault tells of; want of memory is none.
abbrev pub LimitFault : List ℕ → BuildFault → Type 0
LimitFault bytes BuildFault.OutOfMemory = ⊥
LimitFault bytes fault = BreaksLimit bytes fault

-- Why a text is refused: the first of these that holds. Want of memory may come at any point.
abbrev pub Refuses : List ℕ → SpecFault → Type 0
Refuses bytes (SpecFault.TooLong len) = (len ≡ length bytes) × (65536 < length bytes)
Refuses bytes (SpecFault.NotText place) = (length bytes ≤ 65536)
    × (position (λ b. not (is_text b)) bytes ≡ Some place)
Refuses bytes (SpecFault.Limit fault) = LimitFault bytes fault
Refuses bytes fault = IsReadable bytes × TokensFault (tokens_of bytes) fault

-- How a limit is told; want of memory is none.
abbrev pub limit_fault : BuildFault → SpecFault
limit_fault BuildFault.OutOfMemory = SpecFault.OutOfMemory
limit_fault fault = SpecFault.Limit fault
