-- Counted nodes of a sound specification: their ranges suit them, their parts are nodes, and their decision is the choice of their construction.
use Rattle.std.proofs.Common.{◌≡◌, ℕ, ◌<◌, length, arith, refl, sym, ◌∙◌, ap, Option, Some}
use Rattle.bz_model.specs.declared.cell.Cell.{Cell}
use Rattle.bz_model.specs.declared.cell.Bounds.{Bounds}
use Rattle.bz_model.specs.Spec.{Spec, Node, Range, node_at, range_at}
use Rattle.bz_model.specs.Object.{Object, Objects}
use Rattle.bz_model.specs.Making.{IsCounted}
use Rattle.class_system.specs.Sound.{IsSound}
use Rattle.class_system.proofs.Soundness.{part_below, seq_range, set_range, cycle_range}
use Rattle.series_bounds.specs.Series.{Kind}
use Rattle.choice_draw.specs.Decision.{Choice, level_of}
use Rattle.choice_draw.proofs.UnionParts.{within}
use Rattle.count_draw.specs.Kinds.{counted_node, SuitsRange}
use Rattle.count_draw.specs.Decision.{count_choice, choice_ranged, choice_if_ranged, count_decision}

-- the node is this construction of this part, with this range
pub record IsCountedAs (s : Spec) (e part : ℕ) (kind : Kind) (r : Range) : Type 0 where
  pub node : node_at s e ≡ Some (counted_node kind part)
  pub range : range_at s e ≡ Some r
  pub suits : SuitsRange kind r

-- The range of a sequence, set or cycle of a sound specification suits its construction.
pub suits : (s : Spec) (e part : ℕ) (kind : Kind) (r : Range) → IsSound s → node_at s e ≡ Some (counted_node kind part) → range_at s e ≡ Some r → SuitsRange kind r
suits s e part Kind.Seq r sound node range = let u = seq_range s sound e part r node range in record { first = u.from_plain; few = u.low_few; within = u.low_within }
suits s e part Kind.Set r sound node range = let u = set_range s sound e part r node range in record { first = u.from_plain; few = u.low_few; within = u.low_within }
suits s e part Kind.Cyc r sound node range = let u = cycle_range s sound e part r node range in record { first = u.from_plain; few = u.low_few; within = u.low_within }

-- The number of a sequence, set or cycle node is below the number of nodes.
pub node_inside : (s : Spec) (e part : ℕ) (kind : Kind) → node_at s e ≡ Some (counted_node kind part) → e < length s.nodes
node_inside s e part kind node = within s.nodes e (counted_node kind part) node

-- The part of a sequence, set or cycle of a sound specification is the number of a node.
pub part_inside : (s : Spec) (e part : ℕ) (kind : Kind) → IsSound s → node_at s e ≡ Some (counted_node kind part) → part < length s.nodes
part_inside s e part Kind.Seq sound node = let inside = node_inside s e part Kind.Seq node in let before = part_below s sound e part (Node.Seq part) node (record { place = 0; is_there = refl }) in omega arith
part_inside s e part Kind.Set sound node = let inside = node_inside s e part Kind.Set node in let before = part_below s sound e part (Node.Set part) node (record { place = 0; is_there = refl }) in omega arith
part_inside s e part Kind.Cyc sound node = let inside = node_inside s e part Kind.Cyc node in let before = part_below s sound e part (Node.Cyc part) node (record { place = 0; is_there = refl }) in omega arith

-- the form of the objects of a construction
abbrev pub form_of : Kind → Objects → Object
form_of Kind.Seq = Object.SeqOf
form_of Kind.Set = Object.SetOf
form_of Kind.Cyc = Object.CycOf

-- The node of a counted construction with a part is counted over this part, and its objects have
-- the construction's form.
pub is_counted : (kind : Kind) (part : ℕ) → IsCounted (counted_node kind part) part (form_of kind)
is_counted Kind.Seq part = (refl, refl)
is_counted Kind.Set part = (refl, refl)
is_counted Kind.Cyc part = (refl, refl)

ranged-is : (kind : Kind) (f : ℕ) (r : Range) (node : ℕ → Bounds) (e part room : ℕ) (cell : Cell) → choice_ranged f r node e room (Some (counted_node kind part)) cell ≡ count_choice kind f r (node part) (node e) room cell
ranged-is Kind.Seq f r node e part room cell = refl
ranged-is Kind.Set f r node e part room cell = refl
ranged-is Kind.Cyc f r node e part room cell = refl

-- the decision at the node is the choice of its construction
pub decision-is : (s : Spec) (f e part room : ℕ) (kind : Kind) (r : Range) (table : (level node : ℕ) → Bounds) (cell : Cell) → IsCountedAs s e part kind r → count_decision s f table e room cell ≡ count_choice kind f r (table (level_of cell) part) (table (level_of cell) e) room cell
decision-is s f e part room kind r table cell at =
    ap (λ range. choice_if_ranged f (table (level_of cell)) e room (node_at s e) range cell) at.range
    ∙ ap (λ node. choice_ranged f r (table (level_of cell)) e room node cell) at.node
    ∙ ranged-is kind f r (table (level_of cell)) e part room cell

-- a choice by an equal table is the node's decision
pub decision-by : (s : Spec) (f e part room : ℕ) (kind : Kind) (r : Range) (table other : (level node : ℕ) → Bounds) (cell : Cell) (choice : Option Choice) → IsCountedAs s e part kind r → other ≡ table → choice ≡ count_choice kind f r (other (level_of cell) part) (other (level_of cell) e) room cell → count_decision s f table e room cell ≡ choice
decision-by s f e part room kind r table other cell choice at same decided =
    decision-is s f e part room kind r table cell at
    ∙ sym (decided ∙ ap (λ (t : (level node : ℕ) → Bounds). count_choice kind f r (t (level_of cell) part) (t (level_of cell) e) room cell) same)
