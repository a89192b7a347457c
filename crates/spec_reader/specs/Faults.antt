-- Names without definition, names that are defined twice, and sets and cycles without labels.
use Rattle.std.specs.Prelude.{ℕ, Bool, true, false, if◌then◌else◌, List, [], ◌∷◌, ◌++◌, Option}
use Rattle.std.specs.Prelude.{Some, None}
use Rattle.std.specs.List.{list_any}
use Rattle.bz_model.specs.Spec.{Mode}
use Rattle.spec_reader.specs.declared.tokens.Counting.{Counting}
use Rattle.spec_reader.specs.declared.tokens.Token.{Token}
use Rattle.spec_reader.specs.declared.tokens.Placed.{Placed}
use Rattle.spec_reader.specs.declared.fault.SpecFault.{SpecFault}
use Rattle.spec_reader.specs.Tokens.{is_same}

-- A name is among names.
abbrev pub is_among : List (List ℕ) → List ℕ → Bool
is_among names w = list_any (λ n. is_same n w) names

-- A line begins behind the end of one.
abbrev pub ends_line : Token → Bool
ends_line Token.LineEnd = true
ends_line _ = false

-- The name that a token defines: a name where a line begins.
abbrev pub defined_by : Bool → Token → List (List ℕ)
defined_by true (Token.Name w) = w ∷ []
defined_by starts t = []

-- The names that begin lines.
abbrev pub line_names : Bool → List Token → List (List ℕ)
line_names starts [] = []
line_names starts (t ∷ ts) = defined_by starts t ++ line_names (ends_line t) ts

-- The fault of a name that begins a line: it was defined before.
abbrev pub twice : Bool → ℕ → Option SpecFault
twice true line = Some (SpecFault.Twice line)
twice false line = None

-- The fault of a name in a sum: it is defined nowhere.
abbrev pub undefined : Bool → ℕ → ℕ → Option SpecFault
undefined true line column = None
undefined false line column = Some (SpecFault.Undefined line column)

-- The fault of sets and cycles: the text is unlabelled.
abbrev pub needs_labels : Mode → Counting → ℕ → ℕ → Option SpecFault
needs_labels Mode.Unlabelled Counting.Seq line column = None
needs_labels Mode.Unlabelled Counting.Set line column = Some (SpecFault.NeedsLabels line column)
needs_labels Mode.Unlabelled Counting.Cyc line column = Some (SpecFault.NeedsLabels line column)
needs_labels Mode.Labelled c line column = None

-- The fault of a token, where these names are defined, and these before it.
abbrev pub fault_at : Mode → (defined before : List (List ℕ)) → Bool → Token → (line column : ℕ)
    → Option SpecFault
fault_at m defined before true (Token.Name w) line column = twice (is_among before w) line
fault_at m defined before false (Token.Name w) line column =
    undefined (is_among defined w) line column
fault_at m defined before starts (Token.Counted c) line column = needs_labels m c line column
fault_at m defined before starts t line column = None

-- The first of two faults.
abbrev pub earlier_fault : Option SpecFault → Option SpecFault → Option SpecFault
earlier_fault (Some f) later = Some f
earlier_fault None later = later

-- Names, and further ones where they aren't there.
abbrev pub with_names : List (List ℕ) → List (List ℕ) → List (List ℕ)
with_names names [] = names
with_names names (w ∷ ws) = with_names (if is_among names w then names else names ++ w ∷ []) ws

-- The first fault of tokens by place, where these names are defined, and these before.
abbrev pub first_fault : Mode → (defined before : List (List ℕ)) → Bool → List Placed
    → Option SpecFault
first_fault m defined before starts [] = None
first_fault m defined before starts (p ∷ ps) =
    earlier_fault (fault_at m defined before starts p.token p.line p.column)
    (first_fault m defined (with_names before (defined_by starts p.token)) (ends_line p.token) ps)
