-- The canonical text of a sound specification stands for it.
use Rattle.std.proofs.Common.{◌≡◌, ℕ, ◌<◌, true, false, List, [], ◌∷◌, ◌++◌, length, map, drop, take, refl, sym, ◌∙◌, ap, subst, arith, append_assoc}
use Rattle.std.specs.Prelude.{zip, flat_map}
use Rattle.std.specs.List.{list_all}
use Rattle.std.proofs.lemmas.Bool.{and_from}
use Rattle.std.proofs.lemmas.List.{take_all}
use Rattle.std.proofs.lemmas.List.Folds.{list_all-append}
use Rattle.std.proofs.lemmas.List.Sums.{AllPass-from_list_all}
use Rattle.bz_model.specs.Spec.{Spec, Mode}
use Rattle.class_system.specs.Distinct.{AreDistinct}
use Rattle.class_system.specs.Sound.{IsSound}
use Rattle.class_system.specs.CanonicalText as canonical
use Rattle.class_system.specs.CanonicalText.{all_shown, class_line, canonical_text}
use Rattle.spec_reader.specs.declared.tokens.Token.{Token}
use Rattle.spec_reader.specs.declared.tokens.Placed.{Placed}
use Rattle.spec_reader.specs.Bytes.{is_text}
use Rattle.spec_reader.specs.Tokens.{tokens_of, beginning}
use Rattle.spec_reader.specs.Grammar.{Term, listed_terms, Definition, Definitions, IsText, text, spelled_mode}
use Rattle.spec_reader.specs.Tables.{Row, with_terms, numbers, names_of}
use Rattle.spec_reader.specs.Reading.{plain_tokens, StandFor, Grammar}
use Rattle.spec_reader.proofs.Numbering.{length-mapped}
use Rattle.spec_reader.proofs.Parsing.{plain-drop_two}
use Rattle.spec_reader.proofs.PlainTokens.{plain_from, plain_is, plain-feed}
use Rattle.spec_reader.proofs.Pieces.{Lexes, run_lexes}
use Rattle.spec_reader.proofs.ShownNodes.{all_shows}
use Rattle.spec_reader.proofs.TreeReadings.{rows, length-rows, row_nodes, row_ranges, bodies_read}
use Rattle.spec_reader.proofs.Lines.{IsClean, clean_none, definitions_of, defined_names, defined_bodies, length-read, lines_read}

mode_lexes : (m : Mode) → Lexes (canonical.mode_word m) (Token.Name (spelled_mode m) ∷ [])
mode_lexes Mode.Unlabelled = run_lexes (spelled_mode Mode.Unlabelled) (Token.Name (spelled_mode Mode.Unlabelled)) (omega arith) refl refl
mode_lexes Mode.Labelled = run_lexes (spelled_mode Mode.Labelled) (Token.Name (spelled_mode Mode.Labelled)) (omega arith) refl refl

-- the tables of a specification's names and its bodies' terms
abbrev tables_of : Mode → List (List ℕ) → List Term → Spec
tables_of m names ts = record {
  mode = m;
  names = names;
  bodies = numbers names [] (listed_terms ts);
  nodes = map (λ r. r.node) (with_terms names [] (listed_terms ts));
  ranges = map (λ r. r.range) (with_terms names [] (listed_terms ts));
}

same_tables : (s : Spec) → IsSound s → (ts : List Term) → with_terms s.names [] (listed_terms ts) ≡ take (length s.nodes) (rows s) → numbers s.names [] (listed_terms ts) ≡ s.bodies → s ≡ tables_of s.mode s.names ts
same_tables s sound ts rows_are numbers_are =
    let long = length-rows s.nodes s.ranges sound.ranges.lengths in
    let all : with_terms s.names [] (listed_terms ts) ≡ rows s = rows_are ∙ take_all (length s.nodes) (rows s) (omega arith) in
    let nodes : map (λ (r : Row). r.node) (with_terms s.names [] (listed_terms ts)) ≡ s.nodes = ap (λ qs. map (λ (r : Row). r.node) qs) all ∙ row_nodes s.nodes s.ranges sound.ranges.lengths in
    let ranges : map (λ (r : Row). r.range) (with_terms s.names [] (listed_terms ts)) ≡ s.ranges = ap (λ qs. map (λ (r : Row). r.range) qs) all ∙ row_ranges s.nodes s.ranges sound.ranges.lengths in
    sym (λ i. record { mode = s.mode; names = s.names; bodies = numbers_are i; nodes = nodes i; ranges = ranges i })

is_one : (m : Mode) (ts : List Token) (ds : List Definition) → 0 < length ds → Definitions ts ds → IsText (Token.Name (spelled_mode m) ∷ Token.LineEnd ∷ ts) m ds
is_one m ts [] some d = absurd (omega arith)
is_one m ts (e ∷ ds) some d = text d

-- the tokens of a text of a mode's line and others
head_lexed : (m : Mode) (others : List ℕ) (ts : List Token) → plain_from 0 false others ≡ ts → plain_tokens (tokens_of ((canonical.mode_word m ++ 10 ∷ []) ++ others)) ≡ Token.Name (spelled_mode m) ∷ Token.LineEnd ∷ ts
head_lexed m others ts e =
    plain_is 0 beginning ((canonical.mode_word m ++ 10 ∷ []) ++ others) ∙ ap (λ bs. plain_from 0 false bs) (append_assoc (canonical.mode_word m) (10 ∷ []) others) ∙ (mode_lexes m).lexed false (10 ∷ others) (refl, refl) ∙ ap (λ us. Token.Name (spelled_mode m) ∷ us) (plain-feed others ∙ ap (λ us. Token.LineEnd ∷ us) e)

head_text : (m : Mode) (others : List ℕ) → list_all is_text others ≡ true → list_all is_text ((canonical.mode_word m ++ 10 ∷ []) ++ others) ≡ true
head_text m others e =
    list_all-append is_text (canonical.mode_word m ++ 10 ∷ []) others ∙ and_from (list_all is_text (canonical.mode_word m ++ 10 ∷ [])) (list_all is_text others) (list_all-append is_text (canonical.mode_word m) (10 ∷ []) ∙ and_from (list_all is_text (canonical.mode_word m)) (list_all is_text (10 ∷ [])) (mode_lexes m).all_text refl) e

stands : (s : Spec) → IsSound s → (ps : List Placed) (lines : List Token) (ts : List Term) → length ts ≡ length s.names → plain_tokens ps ≡ Token.Name (spelled_mode s.mode) ∷ Token.LineEnd ∷ lines → Definitions lines (definitions_of s.names ts) → IsClean s.mode s.names [] true lines → s ≡ tables_of s.mode s.names ts → StandFor ps s
stands s sound ps lines ts same is_tokens parses clean is_tables =
    let ds = definitions_of s.names ts in
    let names_are : names_of ds ≡ s.names = defined_names s.names ts same in
    let bodies_are : map (λ (d : Definition). d.body) ds ≡ ts = defined_bodies s.names ts same in
    let as_many : length (definitions_of s.names ts) ≡ length s.names = sym (length-mapped (λ (d : Definition). d.name) ds) ∙ ap length names_are in
    let some : 0 < length ds = omega (arith, sound.a_class, as_many) in
    let behind : plain_tokens (drop 2 ps) ≡ lines = plain-drop_two ps ∙ ap (λ us. drop 2 us) is_tokens in
    record {
      mode = s.mode;
      definitions = ds;
      is_text = subst (λ us. IsText us s.mode ds) (sym is_tokens) (is_one s.mode lines ds some parses);
      no_fault = clean_none s.mode (names_of ds) [] true (drop 2 ps) (subst (λ us. IsClean s.mode (names_of ds) [] true us) (sym behind) (subst (λ ns. IsClean s.mode ns [] true lines) (sym names_are) clean));
      tables_are = is_tables ∙ sym (ap (λ ns. tables_of s.mode ns (map (λ (d : Definition). d.body) ds)) names_are ∙ ap (λ us. tables_of s.mode s.names us) bodies_are);
    }

-- the canonical text stands for its specification
pub canonical_reads : (s : Spec) → IsSound s → AreDistinct s.names → Grammar (canonical_text s) s
canonical_reads s sound d =
    let shown = all_shown s in
    let trees = bodies_read s sound d shown (all_shows s sound) in
    let lines = lines_read s.mode s.names shown [] s.names trees.reads sound.bodies sound.names.at d in
    let others = flat_map (class_line shown) (zip s.names s.bodies) in
    record {
      all_text = AllPass-from_list_all is_text (canonical_text s) (head_text s.mode others lines.all_text);
      stand_for = stands s sound (tokens_of (canonical_text s)) lines.tokens trees.list (length-read trees.reads ∙ sound.bodies) (head_lexed s.mode others lines.tokens lines.lexed) lines.parses lines.clean (same_tables s sound trees.list trees.rows_are trees.numbers_are);
    }
