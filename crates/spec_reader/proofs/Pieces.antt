-- Pieces of text that are whole tokens, and how they are put together.
use Rattle.std.proofs.Common.{◌≡◌, ℕ, ◌<◌, Bool, true, List, [], ◌∷◌, ◌++◌, length, codes, decimal, refl, sym, ◌∙◌, ap, arith, append_assoc}
use Rattle.std.specs.List.{list_all}
use Rattle.std.proofs.lemmas.Bool.{and_from}
use Rattle.std.proofs.lemmas.List.Folds.{list_all-append}
use Rattle.std.proofs.lemmas.List.Sums.{list_all-from_AllPass}
use Rattle.class_system.specs.Words.{IsLeafWord, IsName}
use Rattle.class_system.specs.Sound.{IsBound}
use Rattle.class_system.specs.CanonicalText.{bracketed, written_leaf}
use Rattle.spec_reader.specs.Bytes.{is_text, may_be_in_run}
use Rattle.spec_reader.specs.declared.tokens.Token.{Token}
use Rattle.spec_reader.specs.Tokens.{run_token}
use Rattle.spec_reader.proofs.PlainTokens.{plain_from, plain-space, plain-exactly, plain-plus, plain-star, plain-open, plain-close, plain-least, plain-most}
use Rattle.spec_reader.proofs.Runs.{IsBreak, plain-run, plain-empty, plain-atom, run_text, name_token, name_long, name_bytes, bound_spelt, digit_bytes}

-- these bytes are these tokens where they end before a break
pub record Lexes (text : List ℕ) (ts : List Token) : Type 0 where
  pub lexed : (some : Bool) (rest : List ℕ) → IsBreak rest → plain_from 0 some (text ++ rest) ≡ ts ++ plain_from 0 true rest
  pub all_text : list_all is_text text ≡ true

-- these bytes are these tokens whatever follows
pub record Opens (text : List ℕ) (ts : List Token) : Type 0 where
  pub lexed : (some : Bool) (rest : List ℕ) → plain_from 0 some (text ++ rest) ≡ ts ++ plain_from 0 true rest
  pub all_text : list_all is_text text ≡ true

both_text : (a b : List ℕ) → list_all is_text a ≡ true → list_all is_text b ≡ true → list_all is_text (a ++ b) ≡ true
both_text a b e f = list_all-append is_text a b ∙ and_from (list_all is_text a) (list_all is_text b) e f

-- Bytes that are certain tokens whatever follows are these tokens before a break.
pub opened : {a : List ℕ} {ts : List Token} → Opens a ts → Lexes a ts
opened o = record { lexed = λ some rest k. o.lexed some rest; all_text = o.all_text }

-- A text that is its tokens whatever follows, and behind it one that is its tokens before a break,
-- are together both lists before a break.
pub opens_lexes : {a b : List ℕ} {ts us : List Token} → Opens a ts → Lexes b us → Lexes (a ++ b) (ts ++ us)
opens_lexes {a = a} {b = b} {ts = ts} {us = us} o l = record {
  lexed = λ some rest k. ap (λ bs. plain_from 0 some bs) (append_assoc a b rest) ∙ o.lexed some (b ++ rest) ∙ ap (λ vs. ts ++ vs) (l.lexed true rest k) ∙ sym (append_assoc ts us (plain_from 0 true rest));
  all_text = both_text a b o.all_text l.all_text;
}

-- A text that is its tokens before a break, and one behind it that begins with a break and is its
-- tokens whatever follows, are both lists whatever follows.
pub lexes_opens : {a b : List ℕ} {ts us : List Token} → Lexes a ts → Opens b us → ((rest : List ℕ) → IsBreak (b ++ rest)) → Opens (a ++ b) (ts ++ us)
lexes_opens {a = a} {b = b} {ts = ts} {us = us} l o k = record {
  lexed = λ some rest. ap (λ bs. plain_from 0 some bs) (append_assoc a b rest) ∙ l.lexed some (b ++ rest) (k rest) ∙ ap (λ vs. ts ++ vs) (o.lexed true rest) ∙ sym (append_assoc ts us (plain_from 0 true rest));
  all_text = both_text a b l.all_text o.all_text;
}

-- Two texts, each its tokens before a break, of which the second begins with a break, are together
-- both lists of tokens before a break.
pub lexes_both : {a b : List ℕ} {ts us : List Token} → Lexes a ts → Lexes b us → ((rest : List ℕ) → IsBreak (b ++ rest)) → Lexes (a ++ b) (ts ++ us)
lexes_both {a = a} {b = b} {ts = ts} {us = us} l o k = record {
  lexed = λ some rest j. ap (λ bs. plain_from 0 some bs) (append_assoc a b rest) ∙ l.lexed some (b ++ rest) (k rest) ∙ ap (λ vs. ts ++ vs) (o.lexed true rest j) ∙ sym (append_assoc ts us (plain_from 0 true rest));
  all_text = both_text a b l.all_text o.all_text;
}

-- the signs
pub plus : Opens (codes " + ") (Token.Plus ∷ [])
plus = record { lexed = λ some rest. plain-space some (43 ∷ 32 ∷ rest) ∙ plain-plus some (32 ∷ rest) ∙ ap (λ ts. Token.Plus ∷ ts) (plain-space true rest); all_text = refl }

-- An equals sign between two spaces is the token of equality, whatever follows.
pub equals : Opens (codes " = ") (Token.Exactly ∷ [])
equals = record { lexed = λ some rest. plain-space some (61 ∷ 32 ∷ rest) ∙ plain-exactly some (32 ∷ rest) ∙ ap (λ ts. Token.Exactly ∷ ts) (plain-space true rest); all_text = refl }

-- An asterisk is the token of multiplication, whatever follows.
pub star : Opens (codes "*") (Token.Star ∷ [])
star = record { lexed = plain-star; all_text = refl }

open_sign : Opens (codes "(") (Token.Open ∷ [])
open_sign = record { lexed = plain-open; all_text = refl }

close_sign : Opens (codes ")") (Token.Close ∷ [])
close_sign = record { lexed = plain-close; all_text = refl }

-- An equals sign alone is the token of equality, whatever follows.
pub exactly_sign : Opens (codes "=") (Token.Exactly ∷ [])
exactly_sign = record { lexed = plain-exactly; all_text = refl }

-- A greater-than sign and an equals sign are the token of a bound from below, whatever follows.
pub least_sign : Opens (codes ">=") (Token.AtLeast ∷ [])
least_sign = record { lexed = plain-least; all_text = refl }

-- A less-than sign and an equals sign are the token of a bound from above, whatever follows.
pub most_sign : Opens (codes "<=") (Token.AtMost ∷ [])
most_sign = record { lexed = plain-most; all_text = refl }

-- a text in parentheses
pub bracket : {text : List ℕ} {ts : List Token} → Lexes text ts → Opens (bracketed text) (Token.Open ∷ (ts ++ Token.Close ∷ []))
bracket l = lexes_opens (opens_lexes open_sign l) close_sign (λ rest. (refl, refl))

-- a run
pub run_lexes : (run : List ℕ) (t : Token) → 0 < length run → list_all may_be_in_run run ≡ true → run_token run ≡ t → Lexes run (t ∷ [])
run_lexes run t h e is_token = record {
  lexed = λ some rest k. plain-run run rest some h e k ∙ ap (λ u. u ∷ plain_from 0 true rest) is_token;
  all_text = run_text run e;
}

-- The bytes of a valid name are the one token of this name before a break.
pub name_lexes : (name : List ℕ) → IsName name → Lexes name (Token.Name name ∷ [])
name_lexes name n = run_lexes name (Token.Name name) (name_long name n) (name_bytes name n) (name_token name n)

-- The decimal digits of a bound k, which is from 1 to 64, are the one token of the number k before
-- a break.
pub bound_lexes : (k : ℕ) → IsBound k → Lexes (decimal k) (Token.Number k ∷ [])
bound_lexes k b = let s = bound_spelt k b in run_lexes (decimal k) (Token.Number k) s.long (digit_bytes (decimal k) s.all_digits) s.token

-- a leaf
pub empty_lexes : (word : List ℕ) → IsLeafWord word → Lexes (written_leaf (codes "E") word) (Token.Empty word ∷ [])
empty_lexes [] w = run_lexes (codes "E") (Token.Empty []) (omega arith) refl refl
empty_lexes (b ∷ bs) w =
    let bytes = list_all-from_AllPass may_be_in_run (b ∷ bs) w.run in
    record { lexed = λ some rest k. plain-empty (b ∷ bs) rest some (omega arith) w.few bytes k; all_text = run_text (b ∷ bs) bytes }

-- The text of an atom with a leaf's word, empty or not, is the one token of this atom before a
-- break.
pub atom_lexes : (word : List ℕ) → IsLeafWord word → Lexes (written_leaf (codes "Z") word) (Token.Atom word ∷ [])
atom_lexes [] w = run_lexes (codes "Z") (Token.Atom []) (omega arith) refl refl
atom_lexes (b ∷ bs) w =
    let bytes = list_all-from_AllPass may_be_in_run (b ∷ bs) w.run in
    record { lexed = λ some rest k. plain-atom (b ∷ bs) rest some (omega arith) w.few bytes k; all_text = run_text (b ∷ bs) bytes }
