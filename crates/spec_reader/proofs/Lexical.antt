-- What the tokens of a text are made of.
use Rattle.std.proofs.Common.{◌≡◌, ◌==◌, ◌&&◌, ◌||◌, ℕ, zero, suc, ◌+◌, ◌-◌, ◌*◌, ◌≤◌, Bool, true, false, not, if◌then◌else◌, cond, nat_le, List, [], ◌∷◌, ◌++◌, length, drop, slice_index, codes, Option, Some, None, refl, sym, ◌∙◌, ap, arith, append_assoc, length-append}
use Rattle.std.specs.List.{list_all, prefix_len, take_while}
use Rattle.std.specs.Cmp.Lexicographic.{other_text}
use Rattle.std.proofs.lemmas.List.Sums.{AllPass-from_list_all, take_while-cons}
use Rattle.std.proofs.lemmas.Bool.Decides.{nat_tests}
use Rattle.class_system.specs.Words.{IsLeafWord, IsName}
use Rattle.class_system.specs.Sound.{IsBound}
use Rattle.spec_reader.specs.Bytes.{is_blank, is_digit, is_letter, may_be_in_run}
use Rattle.spec_reader.specs.declared.tokens.Token.{Token}
use Rattle.spec_reader.specs.declared.tokens.Front.{Front}
use Rattle.spec_reader.specs.declared.tokens.Placed.{Placed}
use Rattle.spec_reader.specs.declared.tokens.Spot.{Spot}
use Rattle.spec_reader.specs.Building.{EndsText}
use Rattle.spec_reader.specs.Tokens.{is_same, number_spelled, number_token, begins_with_letter, run_token, leaf_token, word_after, run_front, begins_with_equals, sign_front, front, line_end, placed, made, moved, further, along, tokens_from, tokens_of, beginning}

-- a token of the text's rules
abbrev pub IsLexical : Token → Type 0
IsLexical (Token.Name w) = IsName w
IsLexical (Token.Empty w) = IsLeafWord w
IsLexical (Token.Atom w) = IsLeafWord w
IsLexical (Token.Number k) = IsBound k
IsLexical _ = Unit {0}

abbrev pub AreLexical : List Placed → Type 0
AreLexical [] = Unit {0}
AreLexical (p ∷ ps) = IsLexical p.token × AreLexical ps

abbrev IsLexicalFront : Front → Type 0
IsLexicalFront (Front.Begins t more) = IsLexical t
IsLexicalFront _ = Unit {0}

either : {A : Type 0} (P : A → Type 0) (b : Bool) (x y : A) → (true ≡ b → P x) → (false ≡ b → P y) → P (if b then x else y)
either P true x y f g = f refl
either P false x y f g = g refl

le_of : (a b : ℕ) → true ≡ nat_le a b → a ≤ b
le_of a b e = grind (arith, nat_tests)

both_of : (a b : Bool) → true ≡ (a && b) → (true ≡ a) × (true ≡ b)
both_of true b e = (refl, e)
both_of false b e = absurd (cc)

leaf_word : (w : List ℕ) → length w ≤ 32 → list_all may_be_in_run w ≡ true → IsLeafWord w
leaf_word w few run = record { few = few; run = AllPass-from_list_all may_be_in_run w run }

digit_few : (a : ℕ) → true ≡ is_digit a → (48 ≤ a) × (a ≤ 57)
digit_few a e = let both = both_of (nat_le 48 a) (nat_le a 57) e in (le_of 48 a both.0, le_of a 57 both.1)

abbrev IsBoundIf : Option ℕ → Type 0
IsBoundIf None = Unit {0}
IsBoundIf (Some k) = IsBound k

number_bound : (run : List ℕ) → true ≡ list_all is_digit run → IsBoundIf (number_spelled run)
number_bound [] e = tt
number_bound (a ∷ []) e =
    let d = digit_few a (both_of (is_digit a) true e).0 in
    either IsBoundIf (nat_le 49 a) (Some (a - 48)) None (λ t. let least = le_of 49 a t in record { from_one = omega arith; to_64 = omega arith }) (λ _. tt)
number_bound (a ∷ b ∷ []) e =
    either IsBoundIf (nat_le 49 a && nat_le ((a - 48) * 10 + (b - 48)) 64) (Some ((a - 48) * 10 + (b - 48))) None
    (λ t. let both = both_of (nat_le 49 a) (nat_le ((a - 48) * 10 + (b - 48)) 64) t in let least = le_of 49 a both.0 in let most = le_of ((a - 48) * 10 + (b - 48)) 64 both.1 in record { from_one = omega arith; to_64 = most })
    (λ _. tt)
number_bound (a ∷ b ∷ c ∷ run) e = tt

number_lexical : (o : Option ℕ) → IsBoundIf o → IsLexical (number_token o)
number_lexical None h = tt
number_lexical (Some k) h = h

first_letter : (run : List ℕ) → true ≡ begins_with_letter run → is_letter (slice_index run 0) ≡ true
first_letter [] e = absurd (cc)
first_letter (b ∷ bs) e = sym e

run_lexical : (run : List ℕ) → list_all may_be_in_run run ≡ true → IsLexical (run_token run)
run_lexical run bytes =
    either IsLexical (list_all is_digit run) _ _ (λ e. number_lexical (number_spelled run) (number_bound run e)) (λ _.
    either IsLexical (is_same run (codes "E")) _ _ (λ _. leaf_word [] (omega arith) refl) (λ e.
    either IsLexical (is_same run (codes "Z")) _ _ (λ _. leaf_word [] (omega arith) refl) (λ z.
    either IsLexical (is_same run (codes "Seq")) _ _ (λ _. tt) (λ q.
    either IsLexical (is_same run (codes "Set")) _ _ (λ _. tt) (λ s.
    either IsLexical (is_same run (codes "Cyc")) _ _ (λ _. tt) (λ y.
    either IsLexical (begins_with_letter run && nat_le (length run) 32) _ _ (λ n.
    let both = both_of (begins_with_letter run) (nat_le (length run) 32) n in
    record {
      letter = first_letter run both.0;
      few = le_of (length run) 32 both.1;
      run = AllPass-from_list_all may_be_in_run run bytes;
      free = (other_text run (codes "E") e, (other_text run (codes "Z") z, (other_text run (codes "Seq") q, (other_text run (codes "Set") s, (other_text run (codes "Cyc") y, tt)))));
    }) (λ _. tt)))))))

leaf_lexical : (letter word : List ℕ) → list_all may_be_in_run word ≡ true → IsLexical (leaf_token letter word)
leaf_lexical letter word bytes =
    either IsLexical (nat_le (length word) 32) _ _
    (λ few. either IsLexical (is_same letter (codes "E")) _ _ (λ _. leaf_word word (le_of (length word) 32 few) bytes) (λ _. leaf_word word (le_of (length word) 32 few) bytes))
    (λ _. tt)

taken_one : (p : ℕ → Bool) (b : ℕ) (rest : List ℕ) (t : Bool) → t ≡ p b → list_all p rest ≡ true → list_all p (cond t (b ∷ rest) []) ≡ true
taken_one p b rest true e h = rw (← e) h
taken_one p b rest false e h = refl

taken_bytes : (p : ℕ → Bool) (bs : List ℕ) → list_all p (take_while p bs) ≡ true
taken_bytes p [] = refl
taken_bytes p (b ∷ bs) = rw (take_while-cons p b bs) (taken_one p b (take_while p bs) (p b) refl (taken_bytes p bs))

word_bytes : (after : List ℕ) → list_all may_be_in_run (word_after after) ≡ true
word_bytes [] = refl
word_bytes (b ∷ bs) = either (λ w. list_all may_be_in_run w ≡ true) (b == 58) _ _ (λ _. taken_bytes may_be_in_run bs) (λ _. refl)

run_front_lexical : (run : List ℕ) (more : ℕ) (after : List ℕ) → list_all may_be_in_run run ≡ true → IsLexicalFront (run_front run more after)
run_front_lexical run more after bytes =
    either IsLexicalFront ((is_same run (codes "E") || is_same run (codes "Z")) && not (length (word_after after) == 0)) _ _
    (λ _. leaf_lexical run (word_after after) (word_bytes after)) (λ _. run_lexical run bytes)

sign_lexical : (b : ℕ) (bs : List ℕ) → IsLexicalFront (sign_front b bs)
sign_lexical b bs =
    either IsLexicalFront (b == 61) _ _ (λ _. tt) (λ _.
    either IsLexicalFront (b == 43) _ _ (λ _. tt) (λ _.
    either IsLexicalFront (b == 42) _ _ (λ _. tt) (λ _.
    either IsLexicalFront (b == 40) _ _ (λ _. tt) (λ _.
    either IsLexicalFront (b == 41) _ _ (λ _. tt) (λ _.
    either IsLexicalFront (b == 62 && begins_with_equals bs) _ _ (λ _. tt) (λ _.
    either IsLexicalFront (b == 60 && begins_with_equals bs) _ _ (λ _. tt) (λ _. tt)))))))

front_lexical : (b : ℕ) (bs : List ℕ) → IsLexicalFront (front b bs)
front_lexical b bs =
    either IsLexicalFront (b == 10) _ _ (λ _. tt) (λ _.
    either IsLexicalFront (is_blank b) _ _ (λ _. tt) (λ _.
    either IsLexicalFront (b == 35) _ _ (λ _. tt) (λ _.
    either IsLexicalFront (may_be_in_run b) _ _ (λ e. run_front_lexical (b ∷ take_while may_be_in_run bs) (prefix_len may_be_in_run bs) (drop (prefix_len may_be_in_run bs) bs) (rw (← e) (taken_bytes may_be_in_run bs))) (λ _. sign_lexical b bs))))

are_both : (ps qs : List Placed) → AreLexical ps → AreLexical qs → AreLexical (ps ++ qs)
are_both [] qs h k = k
are_both (p ∷ ps) qs h k = (h.0, are_both ps qs h.1 k)

line_end_lexical : (s : Spot) → AreLexical (line_end s)
line_end_lexical s = either AreLexical s.some _ _ (λ _. (tt, tt)) (λ _. tt)

made_lexical : (s : Spot) (f : Front) → IsLexicalFront f → AreLexical (made s f)
made_lexical s Front.LineFeed h = line_end_lexical s
made_lexical s Front.Blank h = tt
made_lexical s (Front.Comment more) h = tt
made_lexical s (Front.Begins t more) h = (h, tt)

from_lexical : (skip : ℕ) (s : Spot) (bs : List ℕ) → AreLexical (tokens_from skip s bs)
from_lexical skip s [] = are_both (line_end s) (placed Token.TextEnd s ∷ []) (line_end_lexical s) (tt, tt)
from_lexical (suc skip) s (b ∷ bs) = from_lexical skip (along 1 s) bs
from_lexical zero s (b ∷ bs) = are_both (made s (front b bs)) _ (made_lexical s (front b bs) (front_lexical b bs)) (from_lexical (further (front b bs)) (moved s (front b bs)) bs)

-- the tokens of a text keep the text's rules
pub are_lexical : (bytes : List ℕ) → AreLexical (tokens_of bytes)
are_lexical bytes = from_lexical 0 beginning bytes

-- the last token of a text is its end
ended_from : (skip : ℕ) (s : Spot) (bs : List ℕ) → EndsText (tokens_from skip s bs)
ended_from skip s [] = record { front = line_end s; last = placed Token.TextEnd s; is = refl; ends = refl }
ended_from (suc skip) s (b ∷ bs) = ended_from skip (along 1 s) bs
ended_from zero s (b ∷ bs) =
    let e = ended_from (further (front b bs)) (moved s (front b bs)) bs in
    record { front = made s (front b bs) ++ e.front; last = e.last; is = ap (λ ts. made s (front b bs) ++ ts) e.is ∙ sym (append_assoc (made s (front b bs)) e.front (e.last ∷ [])); ends = e.ends }

-- The tokens of any bytes end with the token of the end of the text.
pub are_ended : (bytes : List ℕ) → EndsText (tokens_of bytes)
are_ended bytes = ended_from 0 beginning bytes

made_few : (s : Spot) (f : Front) → length (made s f) ≤ 1
made_few s Front.LineFeed = either (λ ps. length ps ≤ 1) s.some _ _ (λ _. omega arith) (λ _. omega arith)
made_few s Front.Blank = omega arith
made_few s (Front.Comment more) = omega arith
made_few s (Front.Begins t more) = omega arith

line_end_few : (s : Spot) → length (line_end s) ≤ 1
line_end_few s = made_few s Front.LineFeed

few_from : (skip : ℕ) (s : Spot) (bs : List ℕ) → length (tokens_from skip s bs) ≤ length bs + 2
few_from skip s [] = omega (arith, length-append (line_end s) (placed Token.TextEnd s ∷ []), line_end_few s)
few_from (suc skip) s (b ∷ bs) = omega (arith, few_from skip (along 1 s) bs)
few_from zero s (b ∷ bs) =
    let ih = few_from (further (front b bs)) (moved s (front b bs)) bs in
    omega (arith, length-append (made s (front b bs)) (tokens_from (further (front b bs)) (moved s (front b bs)) bs), made_few s (front b bs), ih)

-- there are few tokens
pub are_few : (bytes : List ℕ) → length (tokens_of bytes) ≤ length bytes + 2
are_few bytes = few_from 0 beginning bytes
