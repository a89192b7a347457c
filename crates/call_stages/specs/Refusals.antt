-- The lines that tell why a command is refused.
use Rattle.std.specs.Prelude.{ℕ, ◌<◌, ◌*◌, List, [], ◌++◌, length, decimal, codes, flat_map, Option}
use Rattle.std.specs.Prelude.{Some, None}
use Rattle.bz_model.specs.Spec.{Spec}
use Rattle.class_system.specs.declared.limits.BuildFault.{BuildFault}
use Rattle.spec_reader.specs.declared.fault.SpecFault.{SpecFault}
use Rattle.well_founded.specs.declared.cause.UnfoundedCause.{UnfoundedCause}
use Rattle.newton_upper.specs.Candidates.{candidate_count}
use Rattle.newton_upper.specs.declared.trials.Trial.{Trial}
use Rattle.command_words.specs.declared.fault.ValueName.{ValueName}
use Rattle.command_words.specs.declared.fault.ValueName.TheVariants as value
use Rattle.command_words.specs.declared.fault.WordsFault.{WordsFault}
use Rattle.call_stages.specs.Lines.{feed, class_name}

-- A value's name.
abbrev pub value_name : ValueName → List ℕ
value_name value.X = codes "x"
value_name value.Seed = codes "seed"
value_name value.Min = codes "min"
value_name value.Max = codes "max"
value_name value.Count = codes "count"
value_name value.Turns = codes "turns"
value_name value.Fraction = codes "fraction"
value_name value.N = codes "n"
value_name value.Rank = codes "rank"

-- Why words stand for no command; nothing is told of want of memory.
abbrev pub words_line : WordsFault → List ℕ
words_line WordsFault.NotACommand = codes "refused words" ++ feed
words_line (WordsFault.BadValue name) = codes "refused value " ++ (value_name name ++ feed)
words_line WordsFault.OutOfMemory = []

-- A file wasn't read.
abbrev pub read_line : List ℕ
read_line = codes "refused read" ++ feed

-- A place in a text.
abbrev pub line_and_column : (line column : ℕ) → List ℕ
line_and_column line column =
    codes " line " ++ (decimal line ++ (codes " column " ++ (decimal column ++ feed)))

-- The limit that is broken, with the number that breaks it, to the end of the line; none is named
-- where memory ran out.
abbrev pub limit_words : BuildFault → List ℕ
limit_words (BuildFault.TooManyClasses count) = codes " too many classes "
    ++ (decimal count ++ feed)
limit_words (BuildFault.TooManyParts count) = codes " too many parts " ++ (decimal count ++ feed)
limit_words (BuildFault.TooDeep depth) = codes " too deep " ++ (decimal depth ++ feed)
limit_words (BuildFault.TooManyNodes count) = codes " too many nodes " ++ (decimal count ++ feed)
limit_words BuildFault.OutOfMemory = feed

-- A specification of one kind, as `spec` or `point`, breaks a limit.
abbrev pub limit_line : (kind : List ℕ) → BuildFault → List ℕ
limit_line kind fault = codes "refused " ++ (kind ++ limit_words fault)

-- Why a text is no specification; nothing is told of want of memory.
abbrev pub spec_fault_line : SpecFault → List ℕ
spec_fault_line (SpecFault.TooLong len) = codes "refused spec too long " ++ (decimal len ++ feed)
spec_fault_line (SpecFault.NotText place) = codes "refused spec not text at "
    ++ (decimal place ++ feed)
spec_fault_line (SpecFault.Syntax line column) = codes "refused spec syntax"
    ++ line_and_column line column
spec_fault_line (SpecFault.Undefined line column) = codes "refused spec undefined"
    ++ line_and_column line column
spec_fault_line (SpecFault.Twice line) = codes "refused spec twice line " ++ (decimal line ++ feed)
spec_fault_line (SpecFault.NeedsLabels line column) = codes "refused spec needs labels"
    ++ line_and_column line column
spec_fault_line (SpecFault.Limit fault) = limit_line (codes "spec") fault
spec_fault_line SpecFault.OutOfMemory = []

-- Why a specification isn't well founded; nothing is told of want of memory.
abbrev pub cause_line : Spec → UnfoundedCause → List ℕ
cause_line s (UnfoundedCause.NoObject c) = codes "refused spec no object "
    ++ (class_name s c.0 ++ feed)
cause_line s (UnfoundedCause.ZeroPart e) = codes "refused spec zero part node "
    ++ (decimal e.0 ++ feed)
cause_line s (UnfoundedCause.ZeroLoop c) = codes "refused spec zero loop "
    ++ (class_name s c.0 ++ feed)
cause_line s UnfoundedCause.OutOfMemory = []

-- The class that a cause tells of is there.
abbrev pub IsClassNamed : Spec → UnfoundedCause → Type 0
IsClassNamed s (UnfoundedCause.NoObject c) = c.0 < length s.names
IsClassNamed s (UnfoundedCause.ZeroLoop c) = c.0 < length s.names
IsClassNamed s cause = Unit {0}

-- A number, after a space.
abbrev pub number_field : ℕ → List ℕ
number_field n = codes " " ++ decimal n

-- A value, or that there is none.
abbrev pub value_text : Option ℕ → List ℕ
value_text (Some n) = decimal n
value_text None = codes "none"

-- A proposal that isn't post-fixed: its entries, the first class that fails, and the upper value of
-- that class's body.
abbrev pub proposal_line : Spec → Trial → List ℕ
proposal_line s t = codes "proposal"
    ++ (flat_map number_field t.values
    ++ (codes " fails "
    ++ (class_name s t.class_id.0 ++ (codes " got " ++ (value_text t.got ++ feed)))))

-- No base was found: how many candidates and proposals there were.
abbrev pub no_upper_line : (candidates proposals : ℕ) → List ℕ
no_upper_line candidates proposals = codes "refused upper candidates "
    ++ (decimal candidates ++ (codes " proposals " ++ (decimal proposals ++ feed)))

-- No base was found: the number of candidates of all six rounds and of proposals, and a line for
-- each proposal.
abbrev pub no_upper_text : Spec → (F : ℕ) → List Trial → List ℕ
no_upper_text s F trials = no_upper_line (6 * candidate_count F) (length trials)
    ++ flat_map (proposal_line s) trials

-- No fast vector was found: how many candidates there were, one for each fraction bit.
abbrev pub no_fast_line : (candidates : ℕ) → List ℕ
no_fast_line candidates = codes "refused fast candidates " ++ (decimal candidates ++ feed)
