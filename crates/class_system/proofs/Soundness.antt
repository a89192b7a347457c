-- What a sound specification has, one fact at a time.
use Rattle.std.proofs.Common.{◌≡◌, ◌⊎◌, ℕ, ◌<◌, ◌≤◌, Option, None, List, map, length, arith, sym, ◌∙◌, ap, Some, None, slice_get, get_or}
use Rattle.std.proofs.lemmas.List.{length-map}
use Rattle.std.proofs.lemmas.Option.{slice_get_within, slice_get-get_or}
use Rattle.bz_model.specs.Spec.{Spec, Node, Range, node_at, range_at, body_of, IsWithinHigh}
use Rattle.class_system.specs.declared.expr.Expr.{Expr}
use Rattle.class_system.specs.declared.ids.ExprId.{ExprId}
use Rattle.class_system.specs.declared.ranges.Range as system
use Rattle.class_system.specs.Views.{spec_node, spec_range, number}
use Rattle.class_system.specs.NodeOrder.{HasPart}
use Rattle.class_system.specs.Sound.{IsSound, IsTextRange}
use Rattle.class_system.specs.Sound.IsTextRange.{plain, at_least, at_most, exactly}
use Rattle.class_system.proofs.Order.{below_in_each, lies_between, IsPlaced, placed_in_each, no_part, once_among, PartPlace, IsOnePlace, one_place_in_each}
use Rattle.class_system.proofs.Results.{mapped-at}

-- Each part stands below its node.
pub part_below : (s : Spec) → IsSound s → (e part : ℕ) (n : Node) → node_at s e ≡ Some n → HasPart n part → part < e
part_below s sound e part n at has = below_in_each s.nodes 0 s.bodies (length s.nodes) sound.order e part n (omega arith) (slice_get_within s.nodes e n at) at has

-- Each body is one of the nodes.
pub body_in_range : (s : Spec) → IsSound s → (c body : ℕ) → body_of s c ≡ Some body → body < length s.nodes
body_in_range s sound c body at = (lies_between s.nodes 0 s.bodies (length s.nodes) sound.order c body at).1

-- Each node has a range.
pub has_range : (s : Spec) → IsSound s → (e : ℕ) (n : Node) → node_at s e ≡ Some n → (r : Range) × (range_at s e ≡ Some r)
has_range s sound e n at =
    let within : e < length s.ranges = omega (arith, slice_get_within s.nodes e n at, sound.ranges.lengths) in
    let none : Range = record { low = 0; high = None } in
    (get_or s.ranges e none, slice_get-get_or s.ranges e none within)

-- Each part is one of the nodes.
pub part_in_range : (s : Spec) → IsSound s → (e part : ℕ) (n : Node) → node_at s e ≡ Some n → HasPart n part → part < length s.nodes
part_in_range s sound e part n at has = omega (arith, part_below s sound e part n at has, slice_get_within s.nodes e n at)

-- There is a node.
pub has_nodes : (s : Spec) → IsSound s → 0 < length s.nodes
has_nodes s sound =
    let within : 0 < length s.bodies = omega (arith, sound.a_class, sound.bodies) in
    omega (arith, body_in_range s sound 0 (get_or s.bodies 0 0) (slice_get-get_or s.bodies 0 0 within))

-- Each class has a body.
pub has_body : (s : Spec) → IsSound s → (c : ℕ) → c < length s.names → (body : ℕ) × (body_of s c ≡ Some body)
has_body s sound c within = (get_or s.bodies c 0, slice_get-get_or s.bodies c 0 (omega (arith, sound.bodies)))

-- A reference is to a class.
pub class_in_range : (s : Spec) → IsSound s → (e c : ℕ) → node_at s e ≡ Some (Node.Class c) → c < length s.names
class_in_range s sound e c at = sound.references.at e (Node.Class c) at

-- A union has two parts or more, and so has a product.
pub union_parts : (s : Spec) → IsSound s → (e : ℕ) (parts : List ℕ) → node_at s e ≡ Some (Node.Union parts) → 2 ≤ length parts
union_parts s sound e parts at = sound.parts.at e (Node.Union parts) at

-- In a sound specification, a product has two parts or more.
pub product_parts : (s : Spec) → IsSound s → (e : ℕ) (parts : List ℕ) → node_at s e ≡ Some (Node.Product parts) → 2 ≤ length parts
product_parts s sound e parts at = sound.parts.at e (Node.Product parts) at

-- Each node is the body of a class or a part of a node.
pub is_placed : (s : Spec) → IsSound s → (e : ℕ) → e < length s.nodes → ((c : ℕ) × (body_of s c ≡ Some e)) ⊎ IsPlaced s.nodes e
is_placed s sound e within = placed_in_each s.nodes 0 s.bodies (length s.nodes) sound.order e (omega arith) within

-- The body of a class is a part of no node.
pub body_no_part : (s : Spec) → IsSound s → (c body e : ℕ) (n : Node) → body_of s c ≡ Some body → node_at s e ≡ Some n → HasPart n body → ⊥
body_no_part s sound c body e n is_body at has = no_part s.nodes 0 s.bodies (length s.nodes) sound.order c body e n is_body (omega arith) (slice_get_within s.nodes e n at) at has

-- No two classes have one body.
pub one_class : (s : Spec) → IsSound s → (c d body : ℕ) → body_of s c ≡ Some body → body_of s d ≡ Some body → c ≡ d
one_class s sound c d body at_c at_d = once_among s.nodes 0 s.bodies (length s.nodes) sound.order c d body at_c at_d

-- A node is a part of at most one node, at one place.
pub one_place : (s : Spec) → IsSound s → (part : ℕ) (a b : PartPlace s.nodes 0 (length s.nodes) part) → IsOnePlace a b
one_place s sound part a b = one_place_in_each s.nodes 0 s.bodies (length s.nodes) sound.order part a b

-- A high, where there is one, is at most 64.
abbrev pub IsFew : Option ℕ → Type 0
IsFew None = Unit {0}
IsFew (Some high) = high ≤ 64

-- What a range of the text has: low and 1 are within the high, which is at most 64, and low is at most 64.
pub record IsUsable (plain : ℕ) (r : Range) : Type 0 where
  pub low_within : IsWithinHigh r.low r.high
  pub one_within : IsWithinHigh 1 r.high
  pub few : IsFew r.high
  pub low_few : r.low ≤ 64
  pub from_plain : plain ≤ r.low

-- A range of the text is usable.
pub usable : (low : ℕ) (r : Range) → low ≤ 1 → IsTextRange low r → IsUsable low r
usable low r small (plain same) = rw same (record { low_within = tt; one_within = tt; few = tt; low_few = omega arith; from_plain = omega arith })
usable low r small (at_least k bound same) = rw same (record { low_within = tt; one_within = tt; few = tt; low_few = bound.to_64; from_plain = omega (arith, bound.from_one) })
usable low r small (at_most k bound same) = rw same (record { low_within = omega (arith, bound.from_one); one_within = bound.from_one; few = bound.to_64; low_few = omega arith; from_plain = omega arith })
usable low r small (exactly k bound same) = rw same (record { low_within = omega arith; one_within = bound.from_one; few = bound.to_64; low_few = bound.to_64; from_plain = omega (arith, bound.from_one) })

-- The ranges of counted nodes.
pub seq_range : (s : Spec) → IsSound s → (e part : ℕ) (r : Range) → node_at s e ≡ Some (Node.Seq part) → range_at s e ≡ Some r → IsUsable 0 r
seq_range s sound e part r at at_r = usable 0 r (omega arith) (sound.ranges.at e (Node.Seq part) r at at_r)

-- In a sound specification, the range of a set has a usable low and high, and its low may be 0.
pub set_range : (s : Spec) → IsSound s → (e part : ℕ) (r : Range) → node_at s e ≡ Some (Node.Set part) → range_at s e ≡ Some r → IsUsable 0 r
set_range s sound e part r at at_r = usable 0 r (omega arith) (sound.ranges.at e (Node.Set part) r at at_r)

-- In a sound specification, the range of a cycle has a usable low and high, and the low is at least
-- 1.
pub cycle_range : (s : Spec) → IsSound s → (e part : ℕ) (r : Range) → node_at s e ≡ Some (Node.Cyc part) → range_at s e ≡ Some r → IsUsable 1 r
cycle_range s sound e part r at at_r = usable 1 r (omega arith) (sound.ranges.at e (Node.Cyc part) r at at_r)

-- The node of a number, from the code's list of nodes.
pub node_listed : (items : List Expr) (nodes : List Node) (i : ℕ) (item : Expr) → map spec_node items ≡ nodes → item ≡ get_or items i item → i < length items → slice_get nodes i ≡ Some (spec_node item)
node_listed items nodes i item same is within = ap (λ ns. slice_get ns i) (sym same) ∙ mapped-at spec_node items i item within ∙ ap (λ x. Some (spec_node x)) (sym is)

-- The range of a number, from the code's list of ranges.
pub range_listed : (s : Spec) → IsSound s → (items : List system.Range) (i : ℕ) (d : system.Range) → map spec_range items ≡ s.ranges → i < length s.nodes → range_at s i ≡ Some (spec_range (get_or items i d))
range_listed s sound items i d same within = ap (λ rs. slice_get rs i) (sym same) ∙ mapped-at spec_range items i d (omega (arith, sound.ranges.lengths, ap length same, length-map items spec_range))

-- The body of a class, from the code's list of bodies.
pub record BodyListed (s : Spec) (items : List ExprId) (c : ℕ) (d : ExprId) : Type 0 where
  pub within : c < length items
  pub is_body : body_of s c ≡ Some (get_or items c d).0
  pub in_range : (get_or items c d).0 < length s.nodes

-- In a sound specification, whose bodies a list of numbers tells, the body of each class stands in
-- that list at the class's place and is one of the nodes.
pub body_listed : (s : Spec) → IsSound s → (items : List ExprId) (c : ℕ) (d : ExprId) → map number items ≡ s.bodies → c < length s.names → BodyListed s items c d
body_listed s sound items c d same in_range =
    let within : c < length items = omega (arith, sound.bodies, ap length same, length-map items number) in
    let is_body : body_of s c ≡ Some (get_or items c d).0 = ap (λ bs. slice_get bs c) (sym same) ∙ mapped-at number items c d within in
    record { within = within; is_body = is_body; in_range = body_in_range s sound c (get_or items c d).0 is_body }
