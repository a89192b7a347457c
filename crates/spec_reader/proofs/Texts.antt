-- Whole texts: what the lines' tables and the first fault say of the tokens.
use Rattle.std.proofs.Common.{◌≡◌, ℕ, ◌≤◌, true, List, [], length, take, drop, Option, Some, None, sym, ◌∙◌, ap, subst, arith}
use Rattle.bz_model.specs.Spec.{Spec, Mode}
use Rattle.spec_reader.specs.declared.tokens.Placed.{Placed}
use Rattle.spec_reader.specs.declared.fault.SpecFault.{SpecFault}
use Rattle.spec_reader.specs.declared.read_spec.Stop.{Stop}
use Rattle.spec_reader.specs.Grammar.{Definition, IsText}
use Rattle.spec_reader.specs.Machine.{Start, Lines, run}
use Rattle.spec_reader.specs.Tables.{names_of, tables}
use Rattle.spec_reader.specs.Reading.{plain_tokens, StandFor, HasFirstFault, TokensFault}
use Rattle.spec_reader.specs.Faults.{is_among, line_names, with_names, first_fault}
use Rattle.spec_reader.specs.Building.{IsParsed, IsStop, IsStopOf, drafted, line_rows}
use Rattle.spec_reader.proofs.MachineAccepts.{accepts}
use Rattle.spec_reader.proofs.Parsing.{whole_read, plain-drop_two, text_names, few_names, skip_two}
use Rattle.spec_reader.proofs.Faulting.{IsNaming, fault_naming, fault_same, no_twice, among_names}

-- what the lines' tables say of the whole text
record Whole (ts lines : List Placed) (m : Mode) (draft : Spec) (first : Option SpecFault) : Type 0 where
  definitions : List Definition
  mode : Mode
  is_text : IsText (plain_tokens ts) mode definitions
  names_are : line_names true (plain_tokens lines) ≡ names_of definitions
  fault_is : first_fault mode (names_of definitions) [] true (drop 2 ts) ≡ first
  draft_is : first ≡ None → draft ≡ tables mode definitions

whole : (ts lines : List Placed) (m : Mode) (draft : Spec) (first : Option SpecFault) → 2 ≤ length ts → run Start (plain_tokens (take 2 ts)) ≡ Lines (record { mode = m; definitions = [] }) → lines ≡ drop 2 ts → IsParsed m lines draft → first_fault draft.mode draft.names [] true lines ≡ first → Whole ts lines m draft first
whole ts lines m draft first long head rest p f =
    let b = p.before in
    let ds = b.definitions in
    let ws = line_names true (plain_tokens lines) in
    let txt : IsText (plain_tokens ts) b.mode ds = accepts (plain_tokens ts) b.mode ds (whole_read ts lines (Lines (record { mode = m; definitions = [] })) b long head rest p.read) in
    let ws_are : ws ≡ names_of ds = ap (λ us. line_names true us) (ap (λ us. plain_tokens us) rest ∙ plain-drop_two ts) ∙ text_names txt in
    let at_names : first_fault b.mode p.names [] true lines ≡ first = subst (λ (d : Spec). first_fault d.mode d.names [] true lines ≡ first) p.draft_is f in
    let same : (w : List ℕ) → is_among p.names w ≡ is_among (names_of ds) w = λ w. ap (λ ns. is_among ns w) p.names_are ∙ among_names [] ws w ∙ ap (λ ns. is_among ns w) ws_are in
    record {
      definitions = ds;
      mode = b.mode;
      is_text = txt;
      names_are = ws_are;
      fault_is = ap (λ us. first_fault b.mode (names_of ds) [] true us) (sym rest) ∙ sym (fault_same b.mode p.names (names_of ds) [] same true lines) ∙ at_names;
      draft_is = λ none. let names_are : p.names ≡ names_of ds = p.names_are ∙ no_twice b.mode p.names [] true lines (at_names ∙ none) ∙ ws_are in p.draft_is ∙ ap (λ ns. drafted ns b (line_rows ns b)) names_are;
    }

-- without a fault the tokens stand for the tables
pub stands : (ts lines : List Placed) (m : Mode) (draft : Spec) (first : Option SpecFault) → 2 ≤ length ts → run Start (plain_tokens (take 2 ts)) ≡ Lines (record { mode = m; definitions = [] }) → lines ≡ drop 2 ts → IsParsed m lines draft → first ≡ first_fault draft.mode draft.names [] true lines → first ≡ None → StandFor ts draft
stands ts lines m draft first long head rest p f none =
    let w = whole ts lines m draft first long head rest p (sym f) in
    record { mode = w.mode; definitions = w.definitions; is_text = w.is_text; no_fault = w.fault_is ∙ none; tables_are = w.draft_is none }

told : (ts : List Placed) (f : SpecFault) → IsNaming f → HasFirstFault ts f → TokensFault ts f
told ts (SpecFault.TooLong len) n h = n
told ts (SpecFault.NotText place) n h = n
told ts (SpecFault.Syntax line column) n h = absurd n
told ts (SpecFault.Undefined line column) n h = h
told ts (SpecFault.Twice line) n h = h
told ts (SpecFault.NeedsLabels line column) n h = h
told ts (SpecFault.Limit fault) n h = n
told ts SpecFault.OutOfMemory n h = tt

-- the first fault is told
pub faulty : (ts lines : List Placed) (m : Mode) (draft : Spec) (first : Option SpecFault) (fault : SpecFault) → 2 ≤ length ts → run Start (plain_tokens (take 2 ts)) ≡ Lines (record { mode = m; definitions = [] }) → lines ≡ drop 2 ts → IsParsed m lines draft → first ≡ first_fault draft.mode draft.names [] true lines → first ≡ Some fault → TokensFault ts fault
faulty ts lines m draft first fault long head rest p f some =
    let w = whole ts lines m draft first long head rest p (sym f) in
    told ts fault (fault_naming draft.mode draft.names [] true lines fault (sym f ∙ some))
    (record { mode = w.mode; definitions = w.definitions; is_text = w.is_text; first = w.fault_is ∙ some })

-- Where lines are read to the end, the tables have at most as many names as the lines have tokens.
pub few_parsed : (m : Mode) (lines : List Placed) (draft : Spec) → IsParsed m lines draft → length draft.names ≤ length lines
few_parsed m lines draft p =
    let names_are : length draft.names ≡ length (with_names [] (line_names true (plain_tokens lines))) = ap (λ (d : Spec). length d.names) p.draft_is ∙ ap length p.names_are in
    omega (arith, names_are, few_names lines)

-- Where the first two tokens are read as the line of a mode, the reason why the lines behind them
-- stop is one for the whole text, two places on.
pub stop_of : (ts lines : List Placed) (m : Mode) (stop : Stop) → 2 ≤ length ts → run Start (plain_tokens (take 2 ts)) ≡ Lines (record { mode = m; definitions = [] }) → lines ≡ drop 2 ts → IsStop m lines stop → IsStopOf ts stop
stop_of ts lines m (Stop.At place) long head rest s = skip_two ts lines (Lines (record { mode = m; definitions = [] })) place long head rest s
stop_of ts lines m Stop.OutOfMemory long head rest s = tt
