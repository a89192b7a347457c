-- The token of a run at the front of bytes.
use Rattle.std.proofs.Common.{◌≡◌, ◌==◌, ◌&&◌, ◌||◌, ℕ, zero, suc, ◌+◌, ◌≤◌, ◌<◌, Bool, true, false, not, if◌then◌else◌, nat_le, List, [], ◌∷◌, ◌++◌, length, take, drop, codes, decimal, Option, Some, None, inl, inr, refl, sym, ◌∙◌, ap, add-one, arith}
use Rattle.std.specs.Fmt.{digits}
use Rattle.std.specs.List.{list_all, prefix_len, take_while}
use Rattle.std.proofs.Math.Seq.{take-append_seam, drop-append_seam}
use Rattle.std.proofs.lemmas.Bool.{and_parts, and_from, and_left, and_right, cond-true, cond-false, ne_eqb, eqb-true, le-leb, cases_eq}
use Rattle.std.proofs.lemmas.Bool.Decides.{nat_tests}
use Rattle.std.proofs.lemmas.List.Sums.{list_all-from_AllPass}
use Rattle.class_system.specs.Words.{IsName}
use Rattle.class_system.specs.Sound.{IsBound}
use Rattle.spec_reader.specs.Bytes.{is_text, is_blank, is_digit, is_letter, may_be_in_run}
use Rattle.spec_reader.specs.declared.tokens.Token.{Token}
use Rattle.spec_reader.specs.declared.tokens.Front.{Front}
use Rattle.spec_reader.specs.Tokens.{is_same, number_spelled, number_token, begins_with_letter, run_token, leaf_token, word_after, run_front, front}
use Rattle.spec_reader.proofs.ClassNumbers.{other_is}
use Rattle.spec_reader.proofs.PlainTokens.{plain_from, plain-begins}

-- a run ends before these bytes, and no word follows it at once
abbrev pub IsBreak : List ℕ → Type 0
IsBreak [] = Unit {0}
IsBreak (b ∷ bs) = (may_be_in_run b ≡ false) × ((b == 58) ≡ false)

-- a byte of a run is a digit, a letter or an underscore
run_bounds : (b : ℕ) → may_be_in_run b ≡ true → (48 ≤ b) × (b ≤ 122)
run_bounds b e = (grind (arith, nat_tests), grind (arith, nat_tests))

not_byte : (b k : ℕ) → may_be_in_run b ≡ true → may_be_in_run k ≡ false → (b == k) ≡ false
not_byte b k e f = ne_eqb b k (λ same. let wrong : true ≡ false = sym e ∙ ap (λ x. may_be_in_run x) same ∙ f in absurd (cc))

not_blank : (b : ℕ) → may_be_in_run b ≡ true → is_blank b ≡ false
not_blank b e = rw (not_byte b 9 e refl, not_byte b 13 e refl, not_byte b 32 e refl) refl

-- the bytes of a run are text
text_byte : (b : ℕ) → may_be_in_run b ≡ true → is_text b ≡ true
text_byte b e = let both = run_bounds b e in let least = both.0 in let most = both.1 in grind (arith, nat_tests)

pub all_imply : (p q : ℕ → Bool) → ((b : ℕ) → p b ≡ true → q b ≡ true) → (bs : List ℕ) → list_all p bs ≡ true → list_all q bs ≡ true
all_imply p q f [] e = refl
all_imply p q f (b ∷ bs) e =
    let both = and_parts (p b) (list_all p bs) e in
    and_from (q b) (list_all q bs) (f b both.0) (all_imply p q f bs both.1)

-- Bytes that may all stand in a run are all text.
pub run_text : (run : List ℕ) → list_all may_be_in_run run ≡ true → list_all is_text run ≡ true
run_text run e = all_imply may_be_in_run is_text text_byte run e

-- a run reaches up to a break
run_length : (run rest : List ℕ) → list_all may_be_in_run run ≡ true → IsBreak rest → prefix_len may_be_in_run (run ++ rest) ≡ length run
run_length [] [] e k = refl
run_length [] (b ∷ bs) e k = cond-false (may_be_in_run b) (1 + prefix_len may_be_in_run bs) 0 k.0
run_length (b ∷ run) rest e k =
    let both = and_parts (may_be_in_run b) (list_all may_be_in_run run) e in
    let others = run_length run rest both.1 k in
    cond-true (may_be_in_run b) (1 + prefix_len may_be_in_run (run ++ rest)) 0 both.0 ∙ omega (arith, others)

-- the front at a byte of a run
front_at : (b : ℕ) (bs : List ℕ) → may_be_in_run b ≡ true → front b bs ≡ run_front (b ∷ take_while may_be_in_run bs) (prefix_len may_be_in_run bs) (drop (prefix_len may_be_in_run bs) bs)
front_at b bs e = cond-false (b == 10) _ _ (not_byte b 10 e refl) ∙ cond-false (is_blank b) _ _ (not_blank b e) ∙ cond-false (b == 35) _ _ (not_byte b 35 e refl) ∙ cond-true (may_be_in_run b) _ _ e

front_of : (b : ℕ) (run rest : List ℕ) → list_all may_be_in_run (b ∷ run) ≡ true → IsBreak rest → front b (run ++ rest) ≡ run_front (b ∷ run) (length run) rest
front_of b run rest e k =
    let both = and_parts (may_be_in_run b) (list_all may_be_in_run run) e in
    front_at b (run ++ rest) both.0 ∙ ap (λ n. run_front (b ∷ take n (run ++ rest)) n (drop n (run ++ rest))) (run_length run rest both.1 k) ∙ ap (λ bs. run_front (b ∷ bs) (length run) (drop (length run) (run ++ rest))) (take-append_seam run rest) ∙ ap (λ bs. run_front (b ∷ run) (length run) bs) (drop-append_seam run rest)

no_word : (rest : List ℕ) → IsBreak rest → word_after rest ≡ []
no_word [] k = refl
no_word (b ∷ bs) k = cond-false (b == 58) (take_while may_be_in_run bs) [] k.1

alone : (run : List ℕ) (more : ℕ) (rest : List ℕ) → IsBreak rest → run_front run more rest ≡ Front.Begins (run_token run) more
alone run more rest k =
    cond-false ((is_same run (codes "E") || is_same run (codes "Z")) && not (length (word_after rest) == 0)) _ _
    (and_right (is_same run (codes "E") || is_same run (codes "Z")) (not (length (word_after rest) == 0)) (ap (λ w. not (length w == 0)) (no_word rest k)))

-- a run before a break is a token
pub plain-run : (run rest : List ℕ) (some : Bool) → 0 < length run → list_all may_be_in_run run ≡ true → IsBreak rest → plain_from 0 some (run ++ rest) ≡ run_token run ∷ plain_from 0 true rest
plain-run [] rest some h e k = absurd (omega arith)
plain-run (b ∷ run) rest some h e k = plain-begins b (run ++ rest) run rest some (run_token (b ∷ run)) refl (front_of b run rest e k ∙ alone (b ∷ run) (length run) rest k)

word_of : (word rest : List ℕ) → list_all may_be_in_run word ≡ true → IsBreak rest → word_after (58 ∷ (word ++ rest)) ≡ word
word_of word rest e k = ap (λ n. take n (word ++ rest)) (run_length word rest e k) ∙ take-append_seam word rest

with_word : (run word after : List ℕ) (t : Token) → (is_same run (codes "E") || is_same run (codes "Z")) ≡ true → 0 < length word → word_after after ≡ word → leaf_token run word ≡ t → run_front run 0 after ≡ Front.Begins t (length word + 1)
with_word run word after t letter some is_word is_token =
    let long : (length word == 0) ≡ false = ne_eqb (length word) 0 (λ e. absurd (omega arith)) in
    cond-true ((is_same run (codes "E") || is_same run (codes "Z")) && not (length (word_after after) == 0)) _ _
    (and_from (is_same run (codes "E") || is_same run (codes "Z")) (not (length (word_after after) == 0)) letter (ap (λ w. not (length w == 0)) is_word ∙ ap not long)) ∙ ap (λ w. Front.Begins (leaf_token run w) (length w + 1)) is_word ∙ ap (λ u. Front.Begins u (length word + 1)) is_token

few_token : (letter word : List ℕ) → length word ≤ 32 → leaf_token letter word ≡ (if is_same letter (codes "E") then Token.Empty word else Token.Atom word)
few_token letter word few = cond-true (nat_le (length word) 32) _ _ (le-leb (length word) 32 few)

-- a leaf with a word
pub plain-empty : (word rest : List ℕ) (some : Bool) → 0 < length word → length word ≤ 32 → list_all may_be_in_run word ≡ true → IsBreak rest → plain_from 0 some (69 ∷ 58 ∷ (word ++ rest)) ≡ Token.Empty word ∷ plain_from 0 true rest
plain-empty word rest some h few e k =
    plain-begins 69 (58 ∷ (word ++ rest)) (58 ∷ word) rest some (Token.Empty word) refl
    (with_word (69 ∷ []) word (58 ∷ (word ++ rest)) (Token.Empty word) refl h (word_of word rest e k) (few_token (69 ∷ []) word few) ∙ ap (λ n. Front.Begins (Token.Empty word) n) (add-one (length word)))

-- A letter Z, a colon and a word of 1 to 32 bytes of a run, before a break, give the token of the
-- atom with this word, and then come those of the rest.
pub plain-atom : (word rest : List ℕ) (some : Bool) → 0 < length word → length word ≤ 32 → list_all may_be_in_run word ≡ true → IsBreak rest → plain_from 0 some (90 ∷ 58 ∷ (word ++ rest)) ≡ Token.Atom word ∷ plain_from 0 true rest
plain-atom word rest some h few e k =
    plain-begins 90 (58 ∷ (word ++ rest)) (58 ∷ word) rest some (Token.Atom word) refl
    (with_word (90 ∷ []) word (58 ∷ (word ++ rest)) (Token.Atom word) refl h (word_of word rest e k) (few_token (90 ∷ []) word few) ∙ ap (λ n. Front.Begins (Token.Atom word) n) (add-one (length word)))

letter_not_digit : (b : ℕ) → is_letter b ≡ true → is_digit b ≡ false
letter_not_digit b e = grind (arith, nat_tests)

-- the token of a name
pub name_token : (name : List ℕ) → IsName name → run_token name ≡ Token.Name name
name_token [] n = let letter = n.letter in absurd (cc)
name_token (b ∷ bs) n =
    let name = b ∷ bs in
    cond-false (list_all is_digit name) _ _ (and_left (is_digit b) (list_all is_digit bs) (letter_not_digit b n.letter)) ∙ cond-false (is_same name (codes "E")) _ _ (other_is name (codes "E") n.free.0) ∙ cond-false (is_same name (codes "Z")) _ _ (other_is name (codes "Z") n.free.1.0) ∙ cond-false (is_same name (codes "Seq")) _ _ (other_is name (codes "Seq") n.free.1.1.0) ∙ cond-false (is_same name (codes "Set")) _ _ (other_is name (codes "Set") n.free.1.1.1.0) ∙ cond-false (is_same name (codes "Cyc")) _ _ (other_is name (codes "Cyc") n.free.1.1.1.1.0) ∙ cond-true (begins_with_letter name && nat_le (length name) 32) _ _ (and_from (is_letter b) (nat_le (length name) 32) n.letter (le-leb (length name) 32 n.few))

-- A valid name has at least one byte.
pub name_long : (name : List ℕ) → IsName name → 0 < length name
name_long [] n = let letter = n.letter in absurd (cc)
name_long (b ∷ bs) n = omega arith

-- All bytes of a valid name may stand in a run.
pub name_bytes : (name : List ℕ) → IsName name → list_all may_be_in_run name ≡ true
name_bytes name n = list_all-from_AllPass may_be_in_run name n.run

-- the digits of a number spell it
abbrev is_number : Option ℕ → ℕ → Bool
is_number None k = false
is_number (Some n) k = n == k

abbrev spells : List ℕ → ℕ → Bool
spells digits k = list_all is_digit digits && is_number (number_spelled digits) k

abbrev all_spell : ℕ → Bool
all_spell zero = true
all_spell (suc k) = spells (decimal (suc k)) (suc k) && all_spell k

spelt : (n k : ℕ) → all_spell n ≡ true → 1 ≤ k → k ≤ n → spells (decimal k) k ≡ true
spelt zero k e least most = absurd (omega arith)
spelt (suc n) k e least most =
    let both = and_parts (spells (decimal (suc n)) (suc n)) (all_spell n) e in
    elim (cases_eq k (suc n)) [
      | inl same ↦ ap (λ j. spells (decimal j) j) same ∙ both.0
      | inr other ↦ spelt n k both.1 least (omega arith)
    ]

number_is : (o : Option ℕ) (k : ℕ) → is_number o k ≡ true → o ≡ Some k
number_is None k e = absurd (cc)
number_is (Some n) k e = ap Some (eqb-true n k e)

-- the digits of a bound
pub record IsSpelt (digits : List ℕ) (k : ℕ) : Type 0 where
  pub long : 0 < length digits
  pub few : length digits ≤ 2
  pub all_digits : list_all is_digit digits ≡ true
  pub token : run_token digits ≡ Token.Number k

spelt_so : (digits : List ℕ) (k : ℕ) → spells digits k ≡ true → IsSpelt digits k
spelt_so digits k e =
    let both = and_parts (list_all is_digit digits) (is_number (number_spelled digits) k) e in
    let number = number_is (number_spelled digits) k both.1 in
    record {
      long = long_enough digits number;
      few = short_enough digits number;
      all_digits = both.0;
      token = cond-true (list_all is_digit digits) _ _ both.0 ∙ ap number_token number;
    }
  where
    long_enough : (ds : List ℕ) → number_spelled ds ≡ Some k → 0 < length ds
    long_enough [] e = absurd (cc)
    long_enough (d ∷ ds) e = omega arith

    short_enough : (ds : List ℕ) → number_spelled ds ≡ Some k → length ds ≤ 2
    short_enough [] e = omega arith
    short_enough (a ∷ []) e = omega arith
    short_enough (a ∷ b ∷ []) e = omega arith
    short_enough (a ∷ b ∷ c ∷ ds) e = absurd (cc)

up_to_64 : all_spell 64 ≡ true
unfolding digits
up_to_64 = refl

-- The decimal digits of a bound k, which is from 1 to 64, are one or two, and as a run they are the
-- token of the number k.
pub bound_spelt : (k : ℕ) → IsBound k → IsSpelt (decimal k) k
bound_spelt k b = spelt_so (decimal k) k (spelt 64 k up_to_64 b.from_one b.to_64)

digit_byte : (b : ℕ) → is_digit b ≡ true → may_be_in_run b ≡ true
digit_byte b e = grind (arith, nat_tests)

-- Bytes that are all digits may all stand in a run.
pub digit_bytes : (digits : List ℕ) → list_all is_digit digits ≡ true → list_all may_be_in_run digits ≡ true
digit_bytes digits e = all_imply is_digit may_be_in_run digit_byte digits e
