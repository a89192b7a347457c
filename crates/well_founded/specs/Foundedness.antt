-- The foundedness rule: which nodes have an object, and what is refused.
use Rattle.std.specs.Prelude.{◌≡◌, ℕ, ◌≤◌, ◌⊎◌, List, [], ◌∷◌, ◌++◌, Some, None, slice_get}
use Rattle.bz_model.specs.Spec.{Spec, Node, Range, node_at, range_at, body_of}

-- The node is a sequence, set or cycle of this part.
abbrev pub IsCountedOf : Node → ℕ → Type 0
IsCountedOf (Node.Seq p) part = p ≡ part
IsCountedOf (Node.Set p) part = p ≡ part
IsCountedOf (Node.Cyc p) part = p ≡ part
IsCountedOf _ part = ⊥

-- This is a part of the node.
abbrev pub IsPartOfNode : Node → ℕ → Type 0
IsPartOfNode (Node.Union parts) part = (i : ℕ) × (slice_get parts i ≡ Some part)
IsPartOfNode (Node.Product parts) part = (i : ℕ) × (slice_get parts i ≡ Some part)
IsPartOfNode (Node.Seq p) part = p ≡ part
IsPartOfNode (Node.Set p) part = p ≡ part
IsPartOfNode (Node.Cyc p) part = p ≡ part
IsPartOfNode _ part = ⊥

-- The node of this number is a counted one, of this part and with this range.
pub record Counts (s : Spec) (e part : ℕ) (r : Range) : Type 0 where
  pub node : Node
  pub is_node : node_at s e ≡ Some node
  pub of_part : IsCountedOf node part
  pub is_range : range_at s e ≡ Some r

-- The least relation that the rule's cases give, where an atom counts if A holds.
mutual
  pub data Least (s : Spec) (A : Type 0) : ℕ → Type 0 where
    empty : {e : ℕ} (word : List ℕ) → node_at s e ≡ Some (Node.Empty word) → Least s A e
    atom : {e : ℕ} (word : List ℕ) → node_at s e ≡ Some (Node.Atom word) → A → Least s A e
    class : {e : ℕ} (c body : ℕ) → node_at s e ≡ Some (Node.Class c) → body_of s c ≡ Some body
        → Least s A body → Least s A e
    union : {e : ℕ} (parts : List ℕ) (i part : ℕ) → node_at s e ≡ Some (Node.Union parts)
        → slice_get parts i ≡ Some part → Least s A part → Least s A e
    product : {e : ℕ} (parts : List ℕ) → node_at s e ≡ Some (Node.Product parts)
        → LeastEach s A parts → Least s A e
    -- no part will do
    free : {e part : ℕ} {r : Range} → Counts s e part r → r.low ≡ 0 → Least s A e
    counted : {e part : ℕ} {r : Range} → Counts s e part r → Least s A part → Least s A e

  -- the same of every node of a list
  pub data LeastEach (s : Spec) (A : Type 0) : List ℕ → Type 0 where
    done : LeastEach s A []
    first : {e : ℕ} {es : List ℕ} → Least s A e → LeastEach s A es → LeastEach s A (e ∷ es)

-- A node has an object, by the rule.
abbrev pub HasSome : Spec → ℕ → Type 0
HasSome s e = Least s (Unit {0}) e

-- A node has an object of size 0, by the rule.
abbrev pub HasEmpty : Spec → ℕ → Type 0
HasEmpty s e = Least s ⊥ e

-- A node is or holds a reference to class d, and beside the way down to it there can be objects of
-- size 0 alone.
pub data Under (s : Spec) (d : ℕ) : ℕ → Type 0 where
  here : {e : ℕ} → node_at s e ≡ Some (Node.Class d) → Under s d e
  in_union : {e : ℕ} (parts : List ℕ) (i part : ℕ) → node_at s e ≡ Some (Node.Union parts)
      → slice_get parts i ≡ Some part → Under s d part → Under s d e
  in_product : {e : ℕ} (before : List ℕ) (part : ℕ) (after : List ℕ)
      → node_at s e ≡ Some (Node.Product (before ++ (part ∷ after))) → LeastEach s ⊥ before
      → LeastEach s ⊥ after → Under s d part → Under s d e
  in_counted : {e part : ℕ} {r : Range} → Counts s e part r → (r.low ≤ 1) ⊎ Least s ⊥ part
      → Under s d part → Under s d e

-- Class c steps to class d.
pub record StepsTo (s : Spec) (c d : ℕ) : Type 0 where
  pub body : ℕ
  pub is_body : body_of s c ≡ Some body
  pub under : Under s d body

-- One or more steps lead from class c to class d.
pub data Leads (s : Spec) (c : ℕ) : ℕ → Type 0 where
  one : {d : ℕ} → StepsTo s c d → Leads s c d
  further : {d e : ℕ} → Leads s c d → StepsTo s d e → Leads s c e

-- Class c has no object.
pub record LacksObject (s : Spec) (c : ℕ) : Type 0 where
  pub body : ℕ
  pub is_body : body_of s c ≡ Some body
  pub without : ¬ (HasSome s body)

-- A counted node without high has a part with an object of size 0.
pub record RepeatsZero (s : Spec) (e : ℕ) : Type 0 where
  pub part : ℕ
  pub range : Range
  pub counts : Counts s e part range
  pub endless : range.high ≡ None
  pub zero : HasEmpty s part

-- One or more steps lead from a class to itself.
pub record LeadsRound (s : Spec) (c : ℕ) : Type 0 where
  pub leads : Leads s c c
