-- A text of language 1 has the same tokens, and so stands for the same specification.
use Rattle.std.proofs.Common.{◌≡◌, ◌==◌, ℕ, ◌+◌, ◌<◌, Bool, true, false, cond, List, [], ◌∷◌, ◌++◌, length, drop, map, Option, Some, None, refl, sym, ◌∙◌, ap, subst, arith}
use Rattle.std.specs.Prelude.{codes}
use Rattle.std.specs.List.{list_all, prefix_len}
use Rattle.std.proofs.lemmas.Bool.{and_parts, cond-true, cond-false, ne_eqb}
use Rattle.std.proofs.lemmas.List.Sums.{list_all-from_AllPass}
use Rattle.bz_model.specs.Spec.{Spec, Mode}
use Rattle.spec_reader.specs.declared.fault.SpecFault.{SpecFault}
use Rattle.spec_reader.specs.declared.tokens.Counting.{Counting}
use Rattle.spec_reader.specs.declared.tokens.Token.{Token}
use Rattle.spec_reader.specs.declared.tokens.Front.{Front}
use Rattle.spec_reader.specs.declared.tokens.Placed.{Placed}
use Rattle.spec_reader.specs.Bytes.{is_blank, may_be_in_run}
use Rattle.spec_reader.specs.Tokens.{run_token, front, goes_on, beginning, tokens_of}
use Rattle.spec_reader.specs.Grammar.{IsText}
use Rattle.spec_reader.specs.LanguageOne.{IsPlainlyRanged}
use Rattle.spec_reader.specs.Faults.{is_among, with_names, defined_by, ends_line, twice, undefined, needs_labels, fault_at, earlier_fault, first_fault}
use Rattle.spec_reader.specs.Reading.{plain_tokens, Grammar}
use Rattle.spec_reader.specs.Tables.{names_of}
use Rattle.spec_reader.specs.TextOne.{IsSignOne, IsRunOne, IsLeafOne, EndsRun, EndsComment, TokensOne, unplaced, GrammarOne}
use Rattle.spec_reader.proofs.One.{text_here, ranges_plain}
use Rattle.spec_reader.proofs.Parsing.{plain-drop_two}
use Rattle.spec_reader.proofs.PlainTokens.{plain_from, plain_is, plain-skips, plain-end, plain-last_end, plain-feed, plain-empty_feed, plain-exactly, plain-plus, plain-star, plain-open, plain-close}
use Rattle.spec_reader.proofs.Runs.{IsBreak, plain-run, plain-empty, plain-atom, name_token, name_long, name_bytes}

-- a run with its token
record RunIs (word : List ℕ) (t : Token) : Type 0 where
  long : 0 < length word
  bytes : list_all may_be_in_run word ≡ true
  token : run_token word ≡ t

kept-run : (word kept : List ℕ) (t : Token) → word ≡ kept → RunIs kept t → RunIs word t
kept-run word kept t same h = subst (λ w. RunIs w t) (sym same) h

run-is : (word : List ℕ) (t : Token) → IsRunOne word t → RunIs word t
run-is word (Token.Empty w) h = kept-run word (codes "E") (Token.Empty w) h.1 (record { long = omega arith; bytes = refl; token = ap Token.Empty (sym h.0) })
run-is word (Token.Atom w) h = kept-run word (codes "Z") (Token.Atom w) h.1 (record { long = omega arith; bytes = refl; token = ap Token.Atom (sym h.0) })
run-is word (Token.Counted Counting.Seq) h = kept-run word (codes "Seq") (Token.Counted Counting.Seq) h (record { long = omega arith; bytes = refl; token = refl })
run-is word (Token.Counted Counting.Set) h = kept-run word (codes "Set") (Token.Counted Counting.Set) h (record { long = omega arith; bytes = refl; token = refl })
run-is word (Token.Counted Counting.Cyc) h = kept-run word (codes "Cyc") (Token.Counted Counting.Cyc) h (record { long = omega arith; bytes = refl; token = refl })
run-is word (Token.Name w) h = record { long = name_long word h.1; bytes = name_bytes word h.1; token = name_token word h.1 ∙ ap Token.Name (sym h.0) }
run-is word _ h = elim h [ ]

-- a colon begins no token
first-of-run : (b : ℕ) (bs word rest : List ℕ) → b ∷ bs ≡ word ++ rest → 0 < length word → list_all may_be_in_run word ≡ true → may_be_in_run b ≡ true
first-of-run b bs [] rest is some all = absurd (omega arith)
first-of-run b bs (c ∷ word) rest is some all =
    let same : c ≡ b = cc in
    subst (λ x. may_be_in_run x ≡ true) same (and_parts (may_be_in_run c) (list_all may_be_in_run word) all).0

colon-no-sign : (t : Token) (b : ℕ) → b ≡ 58 → ¬ (IsSignOne b t)
colon-no-sign Token.Exactly b is h = omega arith
colon-no-sign Token.Plus b is h = omega arith
colon-no-sign Token.Star b is h = omega arith
colon-no-sign Token.Open b is h = omega arith
colon-no-sign Token.Close b is h = omega arith
colon-no-sign _ b is h = elim h [ ]

heads-less : (a b : ℕ) (xs ys : List ℕ) → a < b → ¬ (a ∷ xs ≡ b ∷ ys)
heads-less a b xs ys less is = let same : a ≡ b = cc in omega arith

colon-no-leaf : (t : Token) (word rest bs : List ℕ) → 58 ∷ bs ≡ word ++ rest → ¬ (IsLeafOne word t)
colon-no-leaf (Token.Empty w) word rest bs is h = heads-less 58 69 bs (58 ∷ (w ++ rest)) (omega arith) (is ∙ ap (λ us. us ++ rest) h.0)
colon-no-leaf (Token.Atom w) word rest bs is h = heads-less 58 90 bs (58 ∷ (w ++ rest)) (omega arith) (is ∙ ap (λ us. us ++ rest) h.0)
colon-no-leaf _ word rest bs is h = elim h [ ]

no-colon : {some : Bool} {bytes : List ℕ} {ts : List Token} → TokensOne some bytes ts → (bs : List ℕ) → ¬ (bytes ≡ 58 ∷ bs)
no-colon TokensOne.text_ends bs is = cc
no-colon TokensOne.last_line_ends bs is = cc
no-colon (TokensOne.line_ends {bs = later} k) bs is = heads-less 10 58 later bs (omega arith) is
no-colon (TokensOne.empty_line {bs = later} k) bs is = heads-less 10 58 later bs (omega arith) is
no-colon (TokensOne.blank {b = b} h k) bs is = let same : b ≡ 58 = cc in let wrong : is_blank 58 ≡ true = subst (λ x. is_blank x ≡ true) same h in cc
no-colon (TokensOne.comment {bytes = bytes} words rest split all ends k) bs is = heads-less 35 58 bytes bs (omega arith) is
no-colon (TokensOne.sign {b = b} {t = t} h k) bs is = let same : b ≡ 58 = cc in colon-no-sign t b same h
no-colon (TokensOne.leaf {t = t} word rest split h ends k) bs is = colon-no-leaf t word rest bs (sym is ∙ split) h
no-colon (TokensOne.run {t = t} word rest split h ends k) bs is =
    let r = run-is word t h in
    let wrong : may_be_in_run 58 ≡ true = first-of-run 58 bs word rest (sym is ∙ split) r.long r.bytes in
    cc

-- so a run that ends before bytes with tokens ends before a break
breaks : {ts : List Token} (rest : List ℕ) → EndsRun rest → TokensOne true rest ts → IsBreak rest
breaks [] ends k = tt
breaks (b ∷ bs) ends k = (ends, ne_eqb b 58 (λ same. no-colon k bs (ap (λ c. c ∷ bs) same)))

blank-front : (b : ℕ) (bs : List ℕ) → is_blank b ≡ true → front b bs ≡ Front.Blank
blank-front b bs h =
    let no_feed : (b == 10) ≡ false = ne_eqb b 10 (λ same. let wrong : is_blank 10 ≡ true = subst (λ x. is_blank x ≡ true) same h in cc) in
    cond-false (b == 10) _ _ no_feed ∙ cond-true (is_blank b) _ _ h

comment-length : (words rest : List ℕ) → list_all goes_on words ≡ true → EndsComment rest → prefix_len goes_on (words ++ rest) ≡ length words
comment-length [] [] all ends = refl
comment-length [] (b ∷ bs) all ends = ap (λ c. cond (goes_on c) (1 + prefix_len goes_on bs) 0) ends
comment-length (b ∷ words) rest all ends =
    let both = and_parts (goes_on b) (list_all goes_on words) all in
    let others = comment-length words rest both.1 ends in
    cond-true (goes_on b) (1 + prefix_len goes_on (words ++ rest)) 0 both.0 ∙ omega (arith, others)

sign-lexed : (some : Bool) (b : ℕ) (bs : List ℕ) (t : Token) → IsSignOne b t → plain_from 0 some (b ∷ bs) ≡ t ∷ plain_from 0 true bs
sign-lexed some b bs Token.Exactly h = ap (λ c. plain_from 0 some (c ∷ bs)) h ∙ plain-exactly some bs
sign-lexed some b bs Token.Plus h = ap (λ c. plain_from 0 some (c ∷ bs)) h ∙ plain-plus some bs
sign-lexed some b bs Token.Star h = ap (λ c. plain_from 0 some (c ∷ bs)) h ∙ plain-star some bs
sign-lexed some b bs Token.Open h = ap (λ c. plain_from 0 some (c ∷ bs)) h ∙ plain-open some bs
sign-lexed some b bs Token.Close h = ap (λ c. plain_from 0 some (c ∷ bs)) h ∙ plain-close some bs
sign-lexed some b bs _ h = elim h [ ]

leaf-lexed : (some : Bool) (word rest : List ℕ) (t : Token) → IsLeafOne word t → IsBreak rest → plain_from 0 some (word ++ rest) ≡ t ∷ plain_from 0 true rest
leaf-lexed some word rest (Token.Empty w) h k = ap (λ us. plain_from 0 some (us ++ rest)) h.0 ∙ plain-empty w rest some h.2 h.1.few (list_all-from_AllPass may_be_in_run w h.1.run) k
leaf-lexed some word rest (Token.Atom w) h k = ap (λ us. plain_from 0 some (us ++ rest)) h.0 ∙ plain-atom w rest some h.2 h.1.few (list_all-from_AllPass may_be_in_run w h.1.run) k
leaf-lexed some word rest _ h k = elim h [ ]

-- the tokens of language 1 are the tokens
pub lexed-one : {some : Bool} {bytes : List ℕ} {ts : List Token} → TokensOne some bytes ts → plain_from 0 some bytes ≡ ts
lexed-one TokensOne.text_ends = plain-end
lexed-one TokensOne.last_line_ends = plain-last_end
lexed-one (TokensOne.line_ends {bs = bs} k) = plain-feed bs ∙ ap (λ us. Token.LineEnd ∷ us) (lexed-one k)
lexed-one (TokensOne.empty_line {bs = bs} k) = plain-empty_feed bs ∙ lexed-one k
lexed-one (TokensOne.blank {some = some} {b = b} {bs = bs} h k) = plain-skips b bs [] bs some refl (Front.Blank) (blank-front b bs h) refl refl refl ∙ lexed-one k
lexed-one (TokensOne.comment {some = some} {bytes = bytes} words rest split all ends k) =
    plain-skips 35 bytes words rest some split (Front.Comment (length words))
    (ap (λ us. Front.Comment (prefix_len goes_on us)) split ∙ ap Front.Comment (comment-length words rest (list_all-from_AllPass goes_on words all) ends)) refl refl refl
    ∙ lexed-one k
lexed-one (TokensOne.sign {some = some} {b = b} {bs = bs} {t = t} h k) = sign-lexed some b bs t h ∙ ap (λ us. t ∷ us) (lexed-one k)
lexed-one (TokensOne.leaf {some = some} {t = t} word rest split h ends k) =
    ap (λ us. plain_from 0 some us) split ∙ leaf-lexed some word rest t h (breaks rest ends k) ∙ ap (λ us. t ∷ us) (lexed-one k)
lexed-one (TokensOne.run {some = some} {t = t} word rest split h ends k) =
    let r = run-is word t h in
    ap (λ us. plain_from 0 some us) split ∙ plain-run word rest some r.long r.bytes (breaks rest ends k) ∙ ap (λ u. u ∷ plain_from 0 true rest) r.token ∙ ap (λ us. t ∷ us) (lexed-one k)

-- whether there is a fault is told by the tokens alone
twice-same : (b : Bool) (line other : ℕ) → twice b line ≡ None → twice b other ≡ None
twice-same true line other e = absurd (cc)
twice-same false line other e = refl

undefined-same : (b : Bool) (line column other place : ℕ) → undefined b line column ≡ None → undefined b other place ≡ None
undefined-same true line column other place e = refl
undefined-same false line column other place e = absurd (cc)

labels-same : (m : Mode) (c : Counting) (line column other place : ℕ) → needs_labels m c line column ≡ None → needs_labels m c other place ≡ None
labels-same Mode.Unlabelled Counting.Seq line column other place e = refl
labels-same Mode.Unlabelled Counting.Set line column other place e = absurd (cc)
labels-same Mode.Unlabelled Counting.Cyc line column other place e = absurd (cc)
labels-same Mode.Labelled c line column other place e = refl

fault-same : (m : Mode) (known before : List (List ℕ)) (starts : Bool) (t : Token) (line column other place : ℕ) → fault_at m known before starts t line column ≡ None → fault_at m known before starts t other place ≡ None
fault-same m known before true (Token.Name w) line column other place e = twice-same (is_among before w) line other e
fault-same m known before false (Token.Name w) line column other place e = undefined-same (is_among known w) line column other place e
fault-same m known before true (Token.Counted c) line column other place e = labels-same m c line column other place e
fault-same m known before false (Token.Counted c) line column other place e = labels-same m c line column other place e
fault-same m known before _ _ line column other place e = e

none-first : (f g : Option SpecFault) → earlier_fault f g ≡ None → (f ≡ None) × (g ≡ None)
none-first None g e = (refl, e)
none-first (Some f) g e = absurd (cc)

none-both : (f g : Option SpecFault) → f ≡ None → g ≡ None → earlier_fault f g ≡ None
none-both f g p q = ap (λ o. earlier_fault o g) p ∙ q

faultless-same : (m : Mode) (known before : List (List ℕ)) (starts : Bool) (ps : List Placed) (ts : List Token) → plain_tokens ps ≡ ts → first_fault m known before starts (map unplaced ts) ≡ None → first_fault m known before starts ps ≡ None
faultless-same m known before starts [] ts same e = refl
faultless-same m known before starts (p ∷ ps) [] same e = absurd (cc)
faultless-same m known before starts (p ∷ ps) (t ∷ ts) same e =
    let here : p.token ≡ t = cc in
    let later : plain_tokens ps ≡ ts = cc in
    let parts = none-first (fault_at m known before starts t beginning.line beginning.column) (first_fault m known (with_names before (defined_by starts t)) (ends_line t) (map unplaced ts)) e in
    none-both (fault_at m known before starts p.token p.line p.column) (first_fault m known (with_names before (defined_by starts p.token)) (ends_line p.token) ps)
    (subst (λ u. fault_at m known before starts u p.line p.column ≡ None) (sym here) (fault-same m known before starts t beginning.line beginning.column p.line p.column parts.0))
    (subst (λ u. first_fault m known (with_names before (defined_by starts u)) (ends_line u) ps ≡ None) (sym here) (faultless-same m known (with_names before (defined_by starts t)) (ends_line t) ps ts later parts.1))

-- A text of language 1 stands for the same specification.
pub stands-one : (bytes : List ℕ) (s : Spec) → GrammarOne bytes s → Grammar bytes s
stands-one bytes s h =
    let tokens : plain_tokens (tokens_of bytes) ≡ h.tokens = plain_is 0 beginning bytes ∙ lexed-one h.are_tokens in
    record {
      all_text = h.all_text;
      stand_for = record {
        mode = h.mode;
        definitions = h.definitions;
        is_text = subst (λ us. IsText us h.mode h.definitions) (sym tokens) (text_here h.is_text);
        no_fault = faultless-same h.mode (names_of h.definitions) [] true (drop 2 (tokens_of bytes)) (drop 2 h.tokens) (plain-drop_two (tokens_of bytes) ∙ ap (λ us. drop 2 us) tokens) h.no_fault;
        tables_are = h.tables_are;
      };
    }

-- Its ranges are plain.
pub ranges-one : (bytes : List ℕ) (s : Spec) → GrammarOne bytes s → IsPlainlyRanged s
ranges-one bytes s h = subst IsPlainlyRanged (sym h.tables_are) (ranges_plain h.is_text)
