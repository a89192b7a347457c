-- The lines of a canonical text read as definitions without a fault.
use Rattle.std.proofs.Common.{◌≡◌, ℕ, suc, ◌<◌, Bool, true, false, List, [], ◌∷◌, ◌++◌, length, map, codes, Some, None, slice_get, refl, sym, ◌∙◌, ap, subst, arith, append_assoc}
use Rattle.std.specs.Prelude.{zip, flat_map}
use Rattle.std.specs.List.{list_all}
use Rattle.std.proofs.lemmas.Bool.{and_from}
use Rattle.std.proofs.lemmas.List.Folds.{list_all-append}
use Rattle.std.proofs.lemmas.Option.{slice_get_within}
use Rattle.bz_model.specs.Spec.{Mode}
use Rattle.class_system.specs.Distinct.{IsMissing, AreDistinct}
use Rattle.class_system.specs.Words.{IsName}
use Rattle.class_system.specs.CanonicalText.{Shown, shown_at, class_line}
use Rattle.class_system.proofs.Growth.{at-append}
use Rattle.spec_reader.specs.declared.tokens.Counting.{Counting}
use Rattle.spec_reader.specs.declared.tokens.Token.{Token}
use Rattle.spec_reader.specs.declared.tokens.Placed.{Placed}
use Rattle.spec_reader.specs.Bytes.{is_text}
use Rattle.spec_reader.specs.Grammar.{Term, Definition, Definitions, text_end, defined}
use Rattle.spec_reader.specs.Faults.{twice, undefined, needs_labels, ends_line, defined_by, with_names, fault_at, first_fault, earlier_fault}
use Rattle.spec_reader.specs.Reading.{plain_tokens}
use Rattle.spec_reader.proofs.NamesSeen.{among_missing, one_missing}
use Rattle.spec_reader.proofs.Terms.{Suits}
use Rattle.spec_reader.proofs.PlainTokens.{plain_from, plain-end, plain-feed}
use Rattle.spec_reader.proofs.Pieces.{Lexes, opens_lexes, lexes_opens, name_lexes, equals}
use Rattle.spec_reader.proofs.Readings.{IsFine, AreFine, ReadEach, no_parts, more_parts, as_sum}

-- tokens without a fault, where these names are defined, and these before
abbrev pub IsClean : Mode → (names before : List (List ℕ)) → Bool → List Token → Type 0
IsClean m names before starts [] = Unit {0}
IsClean m names before starts (t ∷ ts) = ((line column : ℕ) → fault_at m names before starts t line column ≡ None) × IsClean m names (with_names before (defined_by starts t)) (ends_line t) ts

-- Tokens each of which has no fault, at whatever line and column it stands, have no first fault.
pub clean_none : (m : Mode) (names before : List (List ℕ)) (starts : Bool) (ps : List Placed) → IsClean m names before starts (plain_tokens ps) → first_fault m names before starts ps ≡ None
clean_none m names before starts [] c = refl
clean_none m names before starts (p ∷ ps) c =
    ap (λ f. earlier_fault f (first_fault m names (with_names before (defined_by starts p.token)) (ends_line p.token) ps)) (c.0 p.line p.column) ∙ clean_none m names (with_names before (defined_by starts p.token)) (ends_line p.token) ps c.1

labels_none : (m : Mode) (c : Counting) (line column : ℕ) → Suits m c → needs_labels m c line column ≡ None
labels_none Mode.Unlabelled Counting.Seq line column h = refl
labels_none Mode.Unlabelled Counting.Set line column h = absurd (cc)
labels_none Mode.Unlabelled Counting.Cyc line column h = absurd (cc)
labels_none Mode.Labelled c line column h = refl

-- a token within a line has no fault
fine_more : (m : Mode) (names before : List (List ℕ)) (t : Token) (ts : List Token) → IsFine m names t → IsClean m names before false ts → IsClean m names before false (t ∷ ts)
fine_more m names before (Token.Name w) ts h c = (λ line column. ap (λ b. undefined b line column) h, c)
fine_more m names before (Token.Counted k) ts h c = (λ line column. labels_none m k line column h, c)
fine_more m names before Token.LineEnd ts h c = absurd h
fine_more m names before _ ts h c = (λ line column. refl, c)

fine_clean : (m : Mode) (names before : List (List ℕ)) (ts us : List Token) → AreFine m names ts → IsClean m names before false us → IsClean m names before false (ts ++ us)
fine_clean m names before [] us h c = c
fine_clean m names before (t ∷ ts) us h c = fine_more m names before t (ts ++ us) h.0 (fine_clean m names before ts us h.1 c)

-- the definitions of names by terms
abbrev pub definitions_of : List (List ℕ) → List Term → List Definition
definitions_of [] ts = []
definitions_of (w ∷ ws) [] = []
definitions_of (w ∷ ws) (t ∷ ts) = record { name = w; body = t } ∷ definitions_of ws ts

-- The definitions of names by as many terms have these names, in order.
pub defined_names : (ws : List (List ℕ)) (ts : List Term) → length ts ≡ length ws → map (λ (d : Definition). d.name) (definitions_of ws ts) ≡ ws
defined_names [] ts same = refl
defined_names (w ∷ ws) [] same = absurd (omega arith)
defined_names (w ∷ ws) (t ∷ ts) same = let rest : length ts ≡ length ws = omega arith in ap (λ us. w ∷ us) (defined_names ws ts rest)

-- The definitions of names by as many terms have these terms as their bodies, in order.
pub defined_bodies : (ws : List (List ℕ)) (ts : List Term) → length ts ≡ length ws → map (λ (d : Definition). d.body) (definitions_of ws ts) ≡ ts
defined_bodies [] [] same = refl
defined_bodies [] (t ∷ ts) same = absurd (omega arith)
defined_bodies (w ∷ ws) [] same = absurd (omega arith)
defined_bodies (w ∷ ws) (t ∷ ts) same = let rest : length ts ≡ length ws = omega arith in ap (λ us. t ∷ us) (defined_bodies ws ts rest)

-- Where the texts of parts read as terms, there are as many terms as parts.
pub length-read : {m : Mode} {names : List (List ℕ)} {shown : List Shown} {ps : List ℕ} {ts : List Term} → ReadEach m names shown ps ts → length ts ≡ length ps
length-read no_parts = refl
length-read (more_parts h later) = ap suc (length-read later)

at_here : (before ws : List (List ℕ)) (w : List ℕ) → slice_get (before ++ w ∷ ws) (length before) ≡ Some w
at_here [] ws w = refl
at_here (v ∷ before) ws w = at_here before ws w

-- a name is missing among those before it
missing_before : (before ws : List (List ℕ)) (w : List ℕ) → AreDistinct (before ++ w ∷ ws) → IsMissing w before
missing_before before ws w d = record {
  nowhere = λ i at.
      let same : i ≡ length before = d.once i (length before) w (at-append before (w ∷ ws) i w at) (at_here before ws w) in
      let within : i < length before = slice_get_within before i w at in
      omega arith;
}

-- lines read as definitions
pub record LinesRead (m : Mode) (names : List (List ℕ)) (shown : List Shown) (before ws : List (List ℕ)) (bodies : List ℕ) (ts : List Term) : Type 0 where
  pub tokens : List Token
  pub lexed : plain_from 0 false (flat_map (class_line shown) (zip ws bodies)) ≡ tokens
  pub all_text : list_all is_text (flat_map (class_line shown) (zip ws bodies)) ≡ true
  pub parses : Definitions tokens (definitions_of ws ts)
  pub clean : IsClean m names before true tokens

line_lexed : (line others : List ℕ) (ts us : List Token) → Lexes line ts → plain_from 0 false others ≡ us → plain_from 0 false ((line ++ 10 ∷ []) ++ others) ≡ ts ++ (Token.LineEnd ∷ us)
line_lexed line others ts us l e =
    ap (λ bs. plain_from 0 false bs) (append_assoc line (10 ∷ []) others) ∙ l.lexed false (10 ∷ others) (refl, refl) ∙ ap (λ vs. ts ++ vs) (plain-feed others ∙ ap (λ vs. Token.LineEnd ∷ vs) e)

line_text : (line others : List ℕ) → list_all is_text line ≡ true → list_all is_text others ≡ true → list_all is_text ((line ++ 10 ∷ []) ++ others) ≡ true
line_text line others e f =
    list_all-append is_text (line ++ 10 ∷ []) others ∙ and_from (list_all is_text (line ++ 10 ∷ [])) (list_all is_text others) (list_all-append is_text line (10 ∷ []) ∙ and_from (list_all is_text line) (list_all is_text (10 ∷ [])) e refl) f

-- Where bodies read as terms, the lines of as many valid names with these bodies read as faultless
-- definitions, if these and the names before are distinct.
pub lines_read : (m : Mode) (names : List (List ℕ)) (shown : List Shown) (before ws : List (List ℕ)) {bodies : List ℕ} {ts : List Term} → ReadEach m names shown bodies ts → length bodies ≡ length ws → ((i : ℕ) (w : List ℕ) → slice_get ws i ≡ Some w → IsName w) → AreDistinct (before ++ ws) → LinesRead m names shown before ws bodies ts
lines_read m names shown before [] no_parts same named d = record { tokens = Token.TextEnd ∷ []; lexed = plain-end; all_text = refl; parses = text_end; clean = (λ line column. refl, tt) }
lines_read m names shown before [] (more_parts h later) same named d = absurd (omega arith)
lines_read m names shown before (w ∷ ws) no_parts same named d = absurd (omega arith)
lines_read m names shown before (w ∷ ws) (more_parts {p = body} {ps = bodies} {t = t} {ts = ts} h later) same named d =
    let as_many : length bodies ≡ length ws = omega arith in
    let further : AreDistinct ((before ++ w ∷ []) ++ ws) = subst (λ us. AreDistinct us) (sym (append_assoc before (w ∷ []) ws)) d in
    let r = lines_read m names shown (before ++ w ∷ []) ws later as_many (λ i. named (suc i)) further in
    let missing = missing_before before ws w d in
    let line : Lexes ((w ++ codes " = ") ++ (shown_at shown body).text) (Token.Name w ∷ Token.Exactly ∷ h.tokens) = opens_lexes (lexes_opens (name_lexes w (named 0 w refl)) equals (λ rest. (refl, refl))) h.lexes in
    let s = as_sum (shown_at shown body).form h.parses in
    let next : IsClean m names (with_names before (w ∷ [])) true r.tokens = subst (λ us. IsClean m names us true r.tokens) (sym (one_missing before w missing)) r.clean in
    record {
      tokens = Token.Name w ∷ Token.Exactly ∷ (h.tokens ++ (Token.LineEnd ∷ r.tokens));
      lexed = line_lexed ((w ++ codes " = ") ++ (shown_at shown body).text) (flat_map (class_line shown) (zip ws bodies)) (Token.Name w ∷ Token.Exactly ∷ h.tokens) r.tokens line r.lexed;
      all_text = line_text ((w ++ codes " = ") ++ (shown_at shown body).text) (flat_map (class_line shown) (zip ws bodies)) line.all_text r.all_text;
      parses = subst (λ u. Definitions (Token.Name w ∷ Token.Exactly ∷ (h.tokens ++ (Token.LineEnd ∷ r.tokens))) (record { name = w; body = u } ∷ definitions_of ws ts)) s.is (defined (s.parses (Token.LineEnd ∷ r.tokens)) r.parses);
      clean = (λ line column. ap (λ b. twice b line) (among_missing before w missing), (λ line column. refl, fine_clean m names (with_names before (w ∷ [])) h.tokens (Token.LineEnd ∷ r.tokens) h.fine (λ line column. refl, next)));
    }
