-- One round of the foundedness rule: what holds of a node, given what holds of its parts and of the
-- classes' bodies.
use Rattle.std.specs.Prelude.{◌≡◌, ◌≢◌, ℕ, ◌≤◌, ◌⊎◌, Some, slice_get}
use Rattle.bz_model.specs.Spec.{Spec, Node, Range, node_at, range_at, body_of}
use Rattle.well_founded.specs.Foundedness.{HasEmpty}

-- The node e gets an object, where P holds of the nodes that have one, and an atom counts if A
-- holds.
abbrev pub Gets : Spec → Type 0 → (ℕ → Type 0) → ℕ → Node → Type 0
Gets s A P e (Node.Empty word) = Unit {0}
Gets s A P e (Node.Atom word) = A
Gets s A P e (Node.Class c) = (body : ℕ) × (body_of s c ≡ Some body) × P body
Gets s A P e (Node.Union parts) = (i : ℕ) × (part : ℕ) × (slice_get parts i ≡ Some part) × P part
Gets s A P e (Node.Product parts) = (i part : ℕ) → slice_get parts i ≡ Some part → P part
Gets s A P e (Node.Seq part) = (r : Range) × (range_at s e ≡ Some r) × ((r.low ≡ 0) ⊎ P part)
Gets s A P e (Node.Set part) = (r : Range) × (range_at s e ≡ Some r) × ((r.low ≡ 0) ⊎ P part)
Gets s A P e (Node.Cyc part) = (r : Range) × (range_at s e ≡ Some r) × ((r.low ≡ 0) ⊎ P part)

-- A property of nodes that no further round widens.
pub record IsClosed (s : Spec) (A : Type 0) (P : ℕ → Type 0) : Type 0 where
  pub round : (e : ℕ) (n : Node) → node_at s e ≡ Some n → Gets s A P e n → P e

-- The node e is or holds a reference to class d with objects of size 0 beside it, where P holds of
-- the parts that do.
abbrev pub PassesToClass : Spec → ℕ → (ℕ → Type 0) → ℕ → Node → Type 0
PassesToClass s d P e (Node.Empty word) = ⊥
PassesToClass s d P e (Node.Atom word) = ⊥
PassesToClass s d P e (Node.Class c) = c ≡ d
PassesToClass s d P e (Node.Union parts) = (i : ℕ) × (part : ℕ) × (slice_get parts i ≡ Some part)
    × P part
PassesToClass s d P e (Node.Product parts) = (i : ℕ) × (part : ℕ) × (slice_get parts i ≡ Some part)
    × ((j q : ℕ) → slice_get parts j ≡ Some q → j ≢ i → HasEmpty s q) × P part
PassesToClass s d P e (Node.Seq part) = (r : Range) × (range_at s e ≡ Some r)
    × ((r.low ≤ 1) ⊎ HasEmpty s part) × P part
PassesToClass s d P e (Node.Set part) = (r : Range) × (range_at s e ≡ Some r)
    × ((r.low ≤ 1) ⊎ HasEmpty s part) × P part
PassesToClass s d P e (Node.Cyc part) = (r : Range) × (range_at s e ≡ Some r)
    × ((r.low ≤ 1) ⊎ HasEmpty s part) × P part

-- The node of this number gets an object.
pub record GetsAt (s : Spec) (A : Type 0) (P : ℕ → Type 0) (e : ℕ) : Type 0 where
  pub node : Node
  pub is_node : node_at s e ≡ Some node
  pub gets : Gets s A P e node

-- The node of this number is or holds a reference to class d with objects of size 0 beside it.
pub record PassesAt (s : Spec) (d : ℕ) (P : ℕ → Type 0) (e : ℕ) : Type 0 where
  pub node : Node
  pub is_node : node_at s e ≡ Some node
  pub passes : PassesToClass s d P e node
