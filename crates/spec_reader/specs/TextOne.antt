-- Texts of language 1, the language without bounds on numbers of parts: from bytes to its tokens,
-- and the specification that a text stands for. It has no tokens of bounds and numbers.
use Rattle.std.specs.Prelude.{◌≡◌, ℕ, ◌<◌, Bool, true, false, List, [], ◌∷◌, ◌++◌, length}
use Rattle.std.specs.Prelude.{drop, codes, map, None}
use Rattle.std.specs.List.{AllPass}
use Rattle.bz_model.specs.Spec.{Spec, Mode}
use Rattle.class_system.specs.Words.{IsName, IsLeafWord}
use Rattle.spec_reader.specs.declared.tokens.Counting.{Counting}
use Rattle.spec_reader.specs.declared.tokens.Token.{Token}
use Rattle.spec_reader.specs.declared.tokens.Placed.{Placed}
use Rattle.spec_reader.specs.Bytes.{is_text, is_blank, may_be_in_run}
use Rattle.spec_reader.specs.Tokens.{goes_on, placed, beginning}
use Rattle.spec_reader.specs.Grammar.{Definition}
use Rattle.spec_reader.specs.LanguageOne.{IsTextOne}
use Rattle.spec_reader.specs.Faults.{first_fault}
use Rattle.spec_reader.specs.Tables.{tables, names_of}

-- The sign of a token that is a single byte.
abbrev pub IsSignOne : ℕ → Token → Type 0
IsSignOne b Token.Exactly = b ≡ 61
IsSignOne b Token.Plus = b ≡ 43
IsSignOne b Token.Star = b ≡ 42
IsSignOne b Token.Open = b ≡ 40
IsSignOne b Token.Close = b ≡ 41
IsSignOne b _ = ⊥

-- The token of a run that stands alone: a plain leaf, a counting word, or a name.
abbrev pub IsRunOne : List ℕ → Token → Type 0
IsRunOne run (Token.Empty word) = (word ≡ []) × (run ≡ codes "E")
IsRunOne run (Token.Atom word) = (word ≡ []) × (run ≡ codes "Z")
IsRunOne run (Token.Counted Counting.Seq) = run ≡ codes "Seq"
IsRunOne run (Token.Counted Counting.Set) = run ≡ codes "Set"
IsRunOne run (Token.Counted Counting.Cyc) = run ≡ codes "Cyc"
IsRunOne run (Token.Name word) = (word ≡ run) × IsName run
IsRunOne run _ = ⊥

-- A leaf with a word: E or Z, a colon and the word.
abbrev pub IsLeafOne : List ℕ → Token → Type 0
IsLeafOne leaf (Token.Empty word) = (leaf ≡ 69 ∷ 58 ∷ word) × IsLeafWord word × (0 < length word)
IsLeafOne leaf (Token.Atom word) = (leaf ≡ 90 ∷ 58 ∷ word) × IsLeafWord word × (0 < length word)
IsLeafOne leaf _ = ⊥

-- No byte of a run stands first, so that the run before these bytes is the longest there is.
abbrev pub EndsRun : List ℕ → Type 0
EndsRun [] = Unit {0}
EndsRun (b ∷ bs) = may_be_in_run b ≡ false

-- A line feed stands first, or nothing.
abbrev pub EndsComment : List ℕ → Type 0
EndsComment [] = Unit {0}
EndsComment (b ∷ bs) = b ≡ 10

-- These bytes have these tokens, where the line before them has a token or has none.
pub data TokensOne : Bool → List ℕ → List Token → Type 0 where
  -- The text ends, and its last line where this has a token.
  text_ends : TokensOne false [] (Token.TextEnd ∷ [])
  last_line_ends : TokensOne true [] (Token.LineEnd ∷ Token.TextEnd ∷ [])
  -- A line feed ends a line; the end of a line is a token where the line has one.
  line_ends : {bs : List ℕ} {ts : List Token} → TokensOne false bs ts
      → TokensOne true (10 ∷ bs) (Token.LineEnd ∷ ts)
  empty_line : {bs : List ℕ} {ts : List Token} → TokensOne false bs ts
      → TokensOne false (10 ∷ bs) ts
  -- Blanks and comments are skipped.
  blank : {some : Bool} {b : ℕ} {bs : List ℕ} {ts : List Token} → is_blank b ≡ true
      → TokensOne some bs ts → TokensOne some (b ∷ bs) ts
  comment : {some : Bool} {bytes : List ℕ} {ts : List Token} (words rest : List ℕ)
      → bytes ≡ words ++ rest → AllPass goes_on words → EndsComment rest
      → TokensOne some rest ts → TokensOne some (35 ∷ bytes) ts
  -- A sign, a leaf with a word, and a run, of which the last two go on as far as they can.
  sign : {some : Bool} {b : ℕ} {bs : List ℕ} {t : Token} {ts : List Token} → IsSignOne b t
      → TokensOne true bs ts → TokensOne some (b ∷ bs) (t ∷ ts)
  leaf : {some : Bool} {bytes : List ℕ} {t : Token} {ts : List Token} (word rest : List ℕ)
      → bytes ≡ word ++ rest → IsLeafOne word t → EndsRun rest → TokensOne true rest ts
      → TokensOne some bytes (t ∷ ts)
  run : {some : Bool} {bytes : List ℕ} {t : Token} {ts : List Token} (word rest : List ℕ)
      → bytes ≡ word ++ rest → IsRunOne word t → EndsRun rest → TokensOne true rest ts
      → TokensOne some bytes (t ∷ ts)

-- A token at the first place of a text. Where a token stands has no bearing on whether it is a
-- fault.
abbrev pub unplaced : Token → Placed
unplaced t = placed t beginning

-- A text of language 1 stands for a specification: its bytes are text, and its tokens are those of
-- definitions without a fault, of which the specification has the tables.
pub record GrammarOne (bytes : List ℕ) (s : Spec) : Type 0 where
  pub all_text : AllPass is_text bytes
  pub tokens : List Token
  pub are_tokens : TokensOne false bytes tokens
  pub mode : Mode
  pub definitions : List Definition
  pub is_text : IsTextOne tokens mode definitions
  pub no_fault : first_fault mode (names_of definitions) [] true
      (map unplaced (drop 2 tokens)) ≡ None
  pub tables_are : s ≡ tables mode definitions
