-- A text stands for one specification, and is read or refused.
use Rattle.std.proofs.Common.{◌≡◌, ◌≢◌, ℕ, zero, suc, ◌≤◌, ◌<◌, Bool, true, false, ◌&&◌, not, List, [], ◌∷◌, ◌++◌, length, drop, get_or, Some, None, refl, sym, ◌∙◌, ap, subst, arith, append_assoc}
use Rattle.std.specs.List.{list_all, position, AllPass}
use Rattle.std.proofs.lemmas.List.Sums.{list_all-from_AllPass}
use Rattle.std.proofs.lemmas.List.Quantifiers.{position-Some}
use Rattle.std.proofs.lemmas.List.{map-append}
use Rattle.bz_model.specs.Spec.{Spec, Mode}
use Rattle.class_system.specs.Limits.{IsWithinLimits, TellsLimit}
use Rattle.class_system.specs.declared.limits.BuildFault.{BuildFault}
use Rattle.spec_reader.specs.declared.tokens.Token.{Token}
use Rattle.spec_reader.specs.declared.tokens.Placed.{Placed}
use Rattle.spec_reader.specs.declared.fault.SpecFault.{SpecFault}
use Rattle.spec_reader.specs.Bytes.{is_text}
use Rattle.spec_reader.specs.Tokens.{tokens_of}
use Rattle.spec_reader.specs.Grammar.{Definition, IsText}
use Rattle.spec_reader.specs.Machine.{Done, LinesBefore}
use Rattle.spec_reader.specs.Tables.{tables, names_of}
use Rattle.spec_reader.specs.Faults.{first_fault}
use Rattle.spec_reader.specs.Reading.{plain_tokens, StandFor, Grammar, IsMisplaced, HasFirstFault, BreaksLimit, Refuses}
use Rattle.spec_reader.proofs.MachineReads.{reads}

-- Tokens are a text with one mode and one list of definitions only.
pub same_read : (us : List Token) (m n : Mode) (ds es : List Definition) → IsText us m ds → IsText us n es → ◌≡◌ {A = LinesBefore} (record { mode = m; definitions = ds }) (record { mode = n; definitions = es })
same_read us m n ds es a b =
    let both : Done (record { mode = m; definitions = ds }) ≡ Done (record { mode = n; definitions = es }) = sym (reads a) ∙ reads b in
    cc

stands_for_one : (ts : List Placed) (s t : Spec) → StandFor ts s → StandFor ts t → s ≡ t
stands_for_one ts s t a b = a.tables_are ∙ ap (λ (q : LinesBefore). tables q.mode q.definitions) (same_read (plain_tokens ts) a.mode b.mode a.definitions b.definitions a.is_text b.is_text) ∙ sym b.tables_are

-- A text stands for at most one specification.
pub one_specification : (bytes : List ℕ) (s t : Spec) → Grammar bytes s → Grammar bytes t → s ≡ t
one_specification bytes s t a b = stands_for_one (tokens_of bytes) s t a.stand_for b.stand_for

both_true : (a b : Bool) → (a && b) ≡ true → (a ≡ true) × (b ≡ true)
both_true true b e = (refl, e)
both_true false b e = absurd (cc)

passes_at : (p : ℕ → Bool) (xs : List ℕ) (i : ℕ) → list_all p xs ≡ true → i < length xs → p (get_or xs i 0) ≡ true
passes_at p [] i e h = absurd (omega arith)
passes_at p (x ∷ xs) zero e h = (both_true (p x) (list_all p xs) e).0
passes_at p (x ∷ xs) (suc i) e h = let lt : i < length xs = omega arith in passes_at p xs i (both_true (p x) (list_all p xs) e).1 lt

not_both : (b : Bool) → b ≡ true → ¬ (not b ≡ true)
not_both true e n = absurd (cc)
not_both false e n = absurd (cc)

-- Where all bytes are text, no place is the first of a byte that isn't text.
pub all_text : (bytes : List ℕ) (place : ℕ) → AllPass is_text bytes → ¬ (position (λ b. not (is_text b)) bytes ≡ Some place)
all_text bytes place all e =
    let at = position-Some (λ b. not (is_text b)) bytes place 0 e in
    not_both (is_text (get_or bytes place 0)) (passes_at is_text bytes place (list_all-from_AllPass is_text bytes all) at.0) at.1

-- In the tokens of a text none is misplaced: some text begins with the tokens up to and with each.
pub text_not_misplaced : (ts : List Placed) (mode : Mode) (ds : List Definition) (line column : ℕ) → IsText (plain_tokens ts) mode ds → ¬ (IsMisplaced ts line column)
text_not_misplaced ts mode ds line column t m =
    let split : ts ≡ (m.before ++ m.token ∷ []) ++ m.behind = m.is_there ∙ sym (append_assoc m.before (m.token ∷ []) m.behind) in
    let plain_split : plain_tokens ts ≡ plain_tokens (m.before ++ m.token ∷ []) ++ plain_tokens m.behind = ap (λ us. plain_tokens us) split ∙ map-append (λ (q : Placed). q.token) (m.before ++ m.token ∷ []) m.behind in
    m.ends (record { further = plain_tokens m.behind; mode = mode; definitions = ds; is_text = subst (λ us. IsText us mode ds) plain_split t })

not_misplaced : (ts : List Placed) (s : Spec) (line column : ℕ) → StandFor ts s → ¬ (IsMisplaced ts line column)
not_misplaced ts s line column f m = text_not_misplaced ts f.mode f.definitions line column f.is_text m

-- Tokens that stand for a specification have no fault of names or labels.
pub not_faulty : (ts : List Placed) (s : Spec) (fault : SpecFault) → StandFor ts s → ¬ (HasFirstFault ts fault)
not_faulty ts s fault f h =
    let same = same_read (plain_tokens ts) f.mode h.mode f.definitions h.definitions f.is_text h.is_text in
    let none : first_fault h.mode (names_of h.definitions) [] true (drop 2 ts) ≡ None = subst (λ (q : LinesBefore). first_fault q.mode (names_of q.definitions) [] true (drop 2 ts) ≡ None) same f.no_fault in
    let both : Some fault ≡ None = sym h.first ∙ none in
    absurd (cc)

not_broken : (s : Spec) (fault : BuildFault) → IsWithinLimits s → fault ≢ BuildFault.OutOfMemory → ¬ (TellsLimit s fault)
not_broken s (BuildFault.TooManyClasses count) w n t = let few = w.classes in absurd (omega (arith, t.counted, t.excess, few))
not_broken s (BuildFault.TooManyParts count) w n t =
    let few = (w.parts.at t.first.place t.first.node t.first.is_there).few in
    absurd (omega (arith, t.first.counted, t.first.excess, few))
not_broken s (BuildFault.TooDeep depth) w n t = let few = w.depth in absurd (omega (arith, t.measured, t.excess, few))
not_broken s (BuildFault.TooManyNodes count) w n t = let few = w.nodes in absurd (omega (arith, t.counted, t.excess, few))
not_broken s BuildFault.OutOfMemory w n t = absurd (n refl)

breaks_none : (bytes : List ℕ) (s : Spec) (fault : BuildFault) → Grammar bytes s → IsWithinLimits s → fault ≢ BuildFault.OutOfMemory → ¬ (BreaksLimit bytes fault)
breaks_none bytes s fault g w n b = not_broken s fault w n (subst (λ t. TellsLimit t fault) (one_specification bytes b.specification s b.stands g) b.tells)

-- Where a text of at most 65536 bytes stands for a specification within the limits, it can be
-- refused for want of memory alone.
pub accepted : (bytes : List ℕ) (s : Spec) (f : SpecFault) → length bytes ≤ 65536 → Grammar bytes s → IsWithinLimits s → Refuses bytes f → f ≡ SpecFault.OutOfMemory
accepted bytes s (SpecFault.TooLong len) few g w r = let long = r.1 in absurd (omega (arith, long))
accepted bytes s (SpecFault.NotText place) few g w r = absurd (all_text bytes place g.all_text r.1)
accepted bytes s (SpecFault.Syntax line column) few g w r = absurd (not_misplaced (tokens_of bytes) s line column g.stand_for r.1)
accepted bytes s (SpecFault.Undefined line column) few g w r = absurd (not_faulty (tokens_of bytes) s (SpecFault.Undefined line column) g.stand_for r.1)
accepted bytes s (SpecFault.Twice line) few g w r = absurd (not_faulty (tokens_of bytes) s (SpecFault.Twice line) g.stand_for r.1)
accepted bytes s (SpecFault.NeedsLabels line column) few g w r = absurd (not_faulty (tokens_of bytes) s (SpecFault.NeedsLabels line column) g.stand_for r.1)
accepted bytes s (SpecFault.Limit (BuildFault.TooManyClasses count)) few g w r = absurd (breaks_none bytes s (BuildFault.TooManyClasses count) g w (λ e. absurd (cc)) r)
accepted bytes s (SpecFault.Limit (BuildFault.TooManyParts count)) few g w r = absurd (breaks_none bytes s (BuildFault.TooManyParts count) g w (λ e. absurd (cc)) r)
accepted bytes s (SpecFault.Limit (BuildFault.TooDeep depth)) few g w r = absurd (breaks_none bytes s (BuildFault.TooDeep depth) g w (λ e. absurd (cc)) r)
accepted bytes s (SpecFault.Limit (BuildFault.TooManyNodes count)) few g w r = absurd (breaks_none bytes s (BuildFault.TooManyNodes count) g w (λ e. absurd (cc)) r)
accepted bytes s (SpecFault.Limit BuildFault.OutOfMemory) few g w r = absurd r
accepted bytes s SpecFault.OutOfMemory few g w r = refl
