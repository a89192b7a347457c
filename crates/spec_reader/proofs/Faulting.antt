-- The first fault of tokens, and the names that are defined.
use Rattle.std.proofs.Common.{◌≡◌, ℕ, Bool, true, false, ◌||◌, if◌then◌else◌, List, [], ◌∷◌, ◌++◌, Option, Some, None, refl, sym, ◌∙◌, ap, subst, append_assoc, append-nil}
use Rattle.std.specs.Cmp.Lexicographic.{same_text}
use Rattle.bz_model.specs.Spec.{Mode}
use Rattle.spec_reader.specs.declared.tokens.Counting.{Counting}
use Rattle.spec_reader.specs.declared.tokens.Token.{Token}
use Rattle.spec_reader.specs.declared.tokens.Placed.{Placed}
use Rattle.spec_reader.specs.declared.fault.SpecFault.{SpecFault}
use Rattle.spec_reader.specs.Tokens.{is_same}
use Rattle.spec_reader.specs.Reading.{plain_tokens}
use Rattle.spec_reader.specs.Faults.{is_among, with_names, defined_by, line_names, ends_line, fault_at, earlier_fault, first_fault, twice, undefined, needs_labels}

-- a fault of names and labels
abbrev pub IsNaming : SpecFault → Type 0
IsNaming (SpecFault.TooLong len) = ⊥
IsNaming (SpecFault.NotText place) = ⊥
IsNaming (SpecFault.Syntax line column) = ⊥
IsNaming (SpecFault.Undefined line column) = Unit {0}
IsNaming (SpecFault.Twice line) = Unit {0}
IsNaming (SpecFault.NeedsLabels line column) = Unit {0}
IsNaming (SpecFault.Limit fault) = ⊥
IsNaming SpecFault.OutOfMemory = ⊥

abbrev IsNamingIf : Option SpecFault → Type 0
IsNamingIf None = Unit {0}
IsNamingIf (Some f) = IsNaming f

twice_naming : (b : Bool) (line : ℕ) → IsNamingIf (twice b line)
twice_naming true line = tt
twice_naming false line = tt

undefined_naming : (b : Bool) (line column : ℕ) → IsNamingIf (undefined b line column)
undefined_naming true line column = tt
undefined_naming false line column = tt

labels_naming : (m : Mode) (c : Counting) (line column : ℕ) → IsNamingIf (needs_labels m c line column)
labels_naming Mode.Unlabelled Counting.Seq line column = tt
labels_naming Mode.Unlabelled Counting.Set line column = tt
labels_naming Mode.Unlabelled Counting.Cyc line column = tt
labels_naming Mode.Labelled c line column = tt

at_naming : (m : Mode) (defined before : List (List ℕ)) (starts : Bool) (t : Token) (line column : ℕ) → IsNamingIf (fault_at m defined before starts t line column)
at_naming m defined before true (Token.Name w) line column = twice_naming (is_among before w) line
at_naming m defined before false (Token.Name w) line column = undefined_naming (is_among defined w) line column
at_naming m defined before true (Token.Counted c) line column = labels_naming m c line column
at_naming m defined before false (Token.Counted c) line column = labels_naming m c line column
at_naming m defined before true _ line column = tt
at_naming m defined before false _ line column = tt

first_naming : (a b : Option SpecFault) → IsNamingIf a → IsNamingIf b → IsNamingIf (earlier_fault a b)
first_naming (Some f) b h k = h
first_naming None b h k = k

faults_naming : (m : Mode) (defined before : List (List ℕ)) (starts : Bool) (ps : List Placed) → IsNamingIf (first_fault m defined before starts ps)
faults_naming m defined before starts [] = tt
faults_naming m defined before starts (p ∷ ps) = first_naming _ _ (at_naming m defined before starts p.token p.line p.column) (faults_naming m defined (with_names before (defined_by starts p.token)) (ends_line p.token) ps)

-- The first fault of tokens is always an undefined name, a name defined twice, or a set or cycle
-- without labels.
pub fault_naming : (m : Mode) (defined before : List (List ℕ)) (starts : Bool) (ps : List Placed) (f : SpecFault) → first_fault m defined before starts ps ≡ Some f → IsNaming f
fault_naming m defined before starts ps f e = subst (λ o. IsNamingIf o) e (faults_naming m defined before starts ps)

at_same : (m : Mode) (defined others before : List (List ℕ)) → ((w : List ℕ) → is_among defined w ≡ is_among others w) → (starts : Bool) (t : Token) (line column : ℕ) → fault_at m defined before starts t line column ≡ fault_at m others before starts t line column
at_same m defined others before same true (Token.Name w) line column = refl
at_same m defined others before same false (Token.Name w) line column = ap (λ b. undefined b line column) (same w)
at_same m defined others before same true _ line column = refl
at_same m defined others before same false _ line column = refl

-- the first fault depends on which names are defined alone
pub fault_same : (m : Mode) (defined others before : List (List ℕ)) → ((w : List ℕ) → is_among defined w ≡ is_among others w) → (starts : Bool) (ps : List Placed) → first_fault m defined before starts ps ≡ first_fault m others before starts ps
fault_same m defined others before same starts [] = refl
fault_same m defined others before same starts (p ∷ ps) = rw (at_same m defined others before same starts p.token p.line p.column, fault_same m defined others (with_names before (defined_by starts p.token)) same (ends_line p.token) ps) refl

-- Where there is no first one of two possible faults, there is neither of them.
pub none_both : (a b : Option SpecFault) → earlier_fault a b ≡ None → (a ≡ None) × (b ≡ None)
none_both (Some f) b e = absurd (cc)
none_both None b e = (refl, e)

not_twice : (b : Bool) (line : ℕ) → twice b line ≡ None → b ≡ false
not_twice true line e = absurd (cc)
not_twice false line e = refl

one_by : (m : Mode) (defined before : List (List ℕ)) (starts : Bool) (t : Token) (line column : ℕ) → fault_at m defined before starts t line column ≡ None → with_names before (defined_by starts t) ≡ before ++ defined_by starts t
one_by m defined before true (Token.Name w) line column e = rw (not_twice (is_among before w) line e) refl
one_by m defined before true _ line column e = sym (append-nil before)
one_by m defined before false t line column e = sym (append-nil before)

names_then : (names ws us : List (List ℕ)) → with_names names (ws ++ us) ≡ with_names (with_names names ws) us
names_then names [] us = refl
names_then names (w ∷ ws) us = names_then (if is_among names w then names else names ++ w ∷ []) ws us

-- without a fault no name begins two lines
pub no_twice : (m : Mode) (defined before : List (List ℕ)) (starts : Bool) (ps : List Placed) → first_fault m defined before starts ps ≡ None → with_names before (line_names starts (plain_tokens ps)) ≡ before ++ line_names starts (plain_tokens ps)
no_twice m defined before starts [] e = sym (append-nil before)
no_twice m defined before starts (p ∷ ps) e =
    let here = defined_by starts p.token in
    let later = line_names (ends_line p.token) (plain_tokens ps) in
    let none = none_both _ _ e in
    let now = one_by m defined before starts p.token p.line p.column none.0 in
    names_then before here later ∙ no_twice m defined (with_names before here) (ends_line p.token) ps none.1 ∙ ap (λ ns. ns ++ later) now ∙ append_assoc before here later

or_false : (a : Bool) → (a || false) ≡ a
or_false true = refl
or_false false = refl

or_assoc : (a b c : Bool) → ((a || b) || c) ≡ (a || (b || c))
or_assoc true b c = refl
or_assoc false b c = refl

or_yes : (a b : Bool) → (true ≡ b → a ≡ true) → (a || b) ≡ a
or_yes a true f = rw (f refl) refl
or_yes a false f = or_false a

among-append : (names : List (List ℕ)) (v w : List ℕ) → is_among (names ++ v ∷ []) w ≡ (is_among names w || is_same v w)
among-append [] v w = or_false (is_same v w)
among-append (n ∷ ns) v w = ap (λ b. is_same n w || b) (among-append ns v w) ∙ sym (or_assoc (is_same n w) (is_among ns w) (is_same v w))

among_one : (names : List (List ℕ)) (v w : List ℕ) (b : Bool) → b ≡ is_among names v → is_among (if b then names else names ++ v ∷ []) w ≡ (is_among names w || is_same v w)
among_one names v w true e = sym (or_yes (is_among names w) (is_same v w) (λ same. ap (λ u. is_among names u) (sym (same_text v w same)) ∙ sym e))
among_one names v w false e = among-append names v w

-- a name is among names and further ones where it is among either
pub among_names : (names ws : List (List ℕ)) (w : List ℕ) → is_among (with_names names ws) w ≡ (is_among names w || is_among ws w)
among_names names [] w = sym (or_false (is_among names w))
among_names names (v ∷ ws) w = among_names (if is_among names v then names else names ++ v ∷ []) ws w ∙ ap (λ b. b || is_among ws w) (among_one names v w (is_among names v) refl) ∙ or_assoc (is_among names w) (is_same v w) (is_among ws w)
