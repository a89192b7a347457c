-- What the reader of tokens keeps: the tables so far, and the numbers of the parts that are read.
use Rattle.std.specs.Prelude.{◌≡◌, ◌≢◌, ℕ, ◌+◌, ◌<◌, take, Option, Some, Bool, true, false, List}
use Rattle.std.specs.Prelude.{[], ◌∷◌, ◌++◌, length, map, None}
use Rattle.bz_model.specs.Spec.{Spec, Mode, Node}
use Rattle.class_system.specs.Drafting.{with_node}
use Rattle.class_system.specs.Views.{number, spec_range}
use Rattle.spec_reader.specs.declared.sums.Outer as code_outer
use Rattle.spec_reader.specs.declared.sums.Wrap as code_wrap
use Rattle.spec_reader.specs.declared.sums.Sums as code_sums
use Rattle.spec_reader.specs.declared.sums.Expects.{Expects}
use Rattle.spec_reader.specs.declared.read_spec.Stop.{Stop}
use Rattle.spec_reader.specs.declared.tokens.Token.{Token}
use Rattle.spec_reader.specs.declared.tokens.Placed.{Placed}
use Rattle.spec_reader.specs.Reading.{plain_tokens}
use Rattle.spec_reader.specs.Faults.{with_names, line_names}
use Rattle.spec_reader.specs.Grammar.{Term, listed_terms}
use Rattle.spec_reader.specs.Machine.{Frame, Wrap, bare, over, Outer, LinesBefore, Place}
use Rattle.spec_reader.specs.Machine.{ReaderState, Start}
use Rattle.spec_reader.specs.Machine.{Lines, Named, Want, Counts, Signed, Bounded, Have, Done}
use Rattle.spec_reader.specs.Machine.{Failed, run}
use Rattle.spec_reader.specs.Tables.{Row, with_terms, numbers, bodies_of, class_number}
use Rattle.spec_reader.specs.Tables.{counting_node}

-- What is kept of a sum around the one that is read.
pub record KeptOuter : Type 0 where
  pub products : List ℕ
  pub factors : List ℕ
  pub wrap : Wrap

-- What is kept: the tables so far, the numbers of the products and factors that were read of the
-- sum, and the same of the sums around it, the outermost first.
pub record KeptSoFar : Type 0 where
  pub draft : Spec
  pub products : List ℕ
  pub factors : List ℕ
  pub outers : List KeptOuter

-- What a parenthesis makes, as the code keeps it.
abbrev pub wrap_kept : code_wrap.Wrap → Wrap
wrap_kept code_wrap.Wrap.Bare = bare
wrap_kept (code_wrap.Wrap.Over c r) = over c (spec_range r)

-- A sum around, as the code keeps it.
abbrev pub outer_kept : code_outer.Outer → KeptOuter
outer_kept o = record {
  products = map number o.frame.products;
  factors =
      map number o.frame.factors;
  wrap = wrap_kept o.wrap;
}

-- What the code keeps.
abbrev pub kept_in_sums : code_sums.Sums → KeptSoFar
kept_in_sums s = record {
  draft = s.draft;
  products = map number s.frame.products;
  factors =
      map number s.frame.factors;
  outers = map outer_kept s.outers.items;
}

-- The nodes before, and those of a list of terms.
abbrev pub with_list : List (List ℕ) → List Row → List Term → List Row
with_list names rows ts = with_terms names rows (listed_terms ts)

-- The nodes of whole lines.
abbrev pub line_rows : List (List ℕ) → LinesBefore → List Row
line_rows names b = with_terms names [] (bodies_of b.definitions)

-- The nodes of a frame, behind others.
abbrev pub frame_rows : List (List ℕ) → List Row → Frame → List Row
frame_rows names rows f = with_list names (with_list names rows f.products) f.factors

-- The nodes of whole lines and of the sums around.
abbrev pub around_rows : List (List ℕ) → LinesBefore → List Outer → List Row
around_rows names b [] = line_rows names b
around_rows names b (o ∷ os) = frame_rows names (around_rows names b os) o.frame

-- All nodes that were read.
abbrev pub rows_at : List (List ℕ) → Place → List Row
rows_at names p = frame_rows names (around_rows names p.before p.outers) p.frame

-- The tables of these rows, of which whole lines have bodies.
abbrev pub drafted : List (List ℕ) → LinesBefore → List Row → Spec
drafted names b rows = record {
  mode = b.mode;
  names = names;
  bodies = numbers names [] (bodies_of b.definitions);
  nodes = map (λ r. r.node) rows;
  ranges = map (λ r. r.range) rows;
}

-- The numbers of a frame's products, behind other nodes.
abbrev pub product_numbers : List (List ℕ) → List Row → Frame → List ℕ
product_numbers names rows f = numbers names rows (listed_terms f.products)

-- The numbers of a frame's factors, behind other nodes.
abbrev pub factor_numbers : List (List ℕ) → List Row → Frame → List ℕ
factor_numbers names rows f = numbers names (with_list names rows f.products)
    (listed_terms f.factors)

-- What is kept of the sums around.
abbrev pub stack_of : List (List ℕ) → LinesBefore → List Outer → List KeptOuter
stack_of names b [] = []
stack_of names b (o ∷ os) = stack_of names b os
    ++ record {
      products = product_numbers names (around_rows names b os) o.frame;
      factors =
          factor_numbers names (around_rows names b os) o.frame;
      wrap = o.wrap;
    } ∷ []

-- What is kept is what was read up to a place.
pub record Stands (names : List (List ℕ)) (p : Place) (k : KeptSoFar) : Type 0 where
  pub draft_is : k.draft ≡ drafted names p.before (rows_at names p)
  pub products_are : k.products ≡ product_numbers names (around_rows names p.before p.outers)
      p.frame
  pub factors_are : k.factors ≡ factor_numbers names (around_rows names p.before p.outers) p.frame
  pub outers_are : k.outers ≡ stack_of names p.before p.outers

-- What is kept is what was read in whole lines.
pub record RestsOn (names : List (List ℕ)) (b : LinesBefore) (k : KeptSoFar) : Type 0 where
  pub draft_is : k.draft ≡ drafted names b (line_rows names b)
  pub no_products : k.products ≡ []
  pub no_factors : k.factors ≡ []
  pub no_outers : k.outers ≡ []

-- What the code expects and keeps is what a state of the machine has read.
abbrev pub Represents : List (List ℕ) → ReaderState → Expects → KeptSoFar → Type 0
Represents names s Expects.Line k = (b : LinesBefore) × (s ≡ Lines b) × RestsOn names b k
Represents names s Expects.Equals k = (b : LinesBefore) × (w : List ℕ) × (s ≡ Named b w)
    × RestsOn names b k
Represents names s Expects.Factor k = (p : Place) × (s ≡ Want p) × Stands names p k
Represents names s (Expects.Count c) k = (p : Place) × (s ≡ Counts p c) × Stands names p k
Represents names s (Expects.Number c sign) k = (p : Place) × (s ≡ Signed p c sign)
    × Stands names p k
Represents names s (Expects.Open c r) k = (p : Place) × (s ≡ Bounded p c (spec_range r))
    × Stands names p k
Represents names s Expects.Joint k = (p : Place) × (s ≡ Have p) × Stands names p k
Represents names s Expects.Nothing k = (b : LinesBefore) × (s ≡ Done b) × RestsOn names b k

-- A token that may stand leads to what the code expects and keeps; any other fails the machine.
abbrev pub LeadsOrFails : List (List ℕ) → ReaderState → Bool → Expects → KeptSoFar → Type 0
LeadsOrFails names s true e k = Represents names s e k
LeadsOrFails names s false e k = s ≡ Failed

-- The tables where some parts are joined to a node; one part alone is itself.
abbrev pub joined_in_node : (List ℕ → Node) → Spec → List ℕ → Spec
joined_in_node form s (p ∷ []) = s
joined_in_node form s ps = with_node s (form ps) (record { low = 0; high = None })

-- The number of the node that joins some parts; one part alone is itself.
abbrev pub joined_number : Spec → List ℕ → ℕ
joined_number s (p ∷ []) = p
joined_number s ps = length s.nodes

-- A term is a leaf or a reference, of this node.
pub data IsLeaf (names : List (List ℕ)) : Term → Node → Type 0 where
  empty_is : (w : List ℕ) → IsLeaf names (Term.empty w) (Node.Empty w)
  atom_is : (w : List ℕ) → IsLeaf names (Term.atom w) (Node.Atom w)
  class_is : (w : List ℕ) → IsLeaf names (Term.class w) (Node.Class (class_number names w))

-- The tables where a parenthesis with a sum of this number is closed.
abbrev pub wrapped_draft : Spec → Wrap → ℕ → Spec
wrapped_draft s bare sum = s
wrapped_draft s (over c r) sum = with_node s (counting_node c sum) r

-- The number of what a closed parenthesis stands for.
abbrev pub wrapped_number : Spec → Wrap → ℕ → ℕ
wrapped_number s bare sum = sum
wrapped_number s (over c r) sum = length s.nodes

-- A sum ends: its last product is joined, and then its products.
pub record EndsSum (before : Spec) (products factors : List ℕ) (now : Spec) (sum : ℕ) : Type 0 where
  pub draft_is : now ≡ joined_in_node Node.Union (joined_in_node Node.Product before factors)
      (products
      ++ joined_number before factors ∷ [])
  pub number_is : sum ≡ joined_number (joined_in_node Node.Product before factors) (products
      ++ joined_number before factors ∷ [])

-- The machine has not failed before the token at a place, and has failed behind it.
pub record BreaksAt (s : ReaderState) (ts : List Placed) (place : ℕ) : Type 0 where
  pub within : place < length ts
  pub goes_on : run s (plain_tokens (take place ts)) ≢ Failed
  pub fails : run s (plain_tokens (take (place + 1) ts)) ≡ Failed

-- The machine goes through the tokens up to the first that fails it, or through all of them.
abbrev pub MachineStopsAt : List (List ℕ) → ReaderState → List Placed → Option ℕ → Expects
    → KeptSoFar
    → Type 0
MachineStopsAt names s ts None e k = Represents names (run s (plain_tokens ts)) e k
MachineStopsAt names s ts (Some place) e k = BreaksAt s ts place

-- The last token is the end of the text.
pub record EndsText (ts : List Placed) : Type 0 where
  pub front : List Placed
  pub last : Placed
  pub is : ts ≡ front ++ last ∷ []
  pub ends : last.token ≡ Token.TextEnd

-- The machine reads lines to the end, and these are the tables.
pub record IsParsed (mode : Mode) (ts : List Placed) (draft : Spec) : Type 0 where
  pub names : List (List ℕ)
  pub names_are : names ≡ with_names [] (line_names true (plain_tokens ts))
  pub before : LinesBefore
  pub read : run (Lines (record { mode = mode; definitions = [] })) (plain_tokens ts) ≡ Done before
  pub draft_is : draft ≡ drafted names before (line_rows names before)

-- A draft has the names that begin lines, each once, and nothing else.
abbrev pub IsNamed : Mode → List Placed → Spec → Type 0
IsNamed mode ts draft =
    draft ≡ record {
      mode = mode;
      names =
          with_names [] (line_names true (plain_tokens ts));
      bodies = [];
      nodes = [];
      ranges = [];
    }

-- Why lines give no tables.
abbrev pub IsStop : Mode → List Placed → Stop → Type 0
IsStop mode ts (Stop.At place) = BreaksAt
    (Lines (record { mode = mode; definitions = [] })) ts place
IsStop mode ts Stop.OutOfMemory = Unit {0}

-- Why a text gives no tables, where its lines begin behind two tokens.
abbrev pub IsStopOf : List Placed → Stop → Type 0
IsStopOf ts (Stop.At place) = BreaksAt Start ts (place + 2)
IsStopOf ts Stop.OutOfMemory = Unit {0}
