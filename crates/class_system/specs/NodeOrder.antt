-- The order of nodes: class after class, each node after all its parts, parts from left to right.
use Rattle.std.specs.Prelude.{◌≡◌, ℕ, suc, List, [], ◌∷◌, Some, slice_get}
use Rattle.bz_model.specs.Spec.{Node}

-- The numbers of a node's parts, from left to right.
abbrev pub parts_of : Node → List ℕ
parts_of (Node.Empty word) = []
parts_of (Node.Atom word) = []
parts_of (Node.Class c) = []
parts_of (Node.Union parts) = parts
parts_of (Node.Product parts) = parts
parts_of (Node.Seq part) = part ∷ []
parts_of (Node.Set part) = part ∷ []
parts_of (Node.Cyc part) = part ∷ []

-- A node has a part of this number.
pub record HasPart (n : Node) (part : ℕ) : Type 0 where
  pub place : ℕ
  pub is_there : slice_get (parts_of n) place ≡ Some part

-- The nodes from a first number up to `e` are exactly those of the tree below node `e`, in
-- post-order: the trees of its parts stand before it, from left to right, with nothing between.
mutual
  pub data Spans (nodes : List Node) : ℕ → ℕ → Type 0 where
    tree : {first e : ℕ} (n : Node) → slice_get nodes e ≡ Some n
        → SpanEach nodes first (parts_of n) e → Spans nodes first e

  -- The nodes from a first number on and before an end are exactly those of these trees, one after
  -- another.
  pub data SpanEach (nodes : List Node) : ℕ → List ℕ → ℕ → Type 0 where
    done : {first end : ℕ} → first ≡ end → SpanEach nodes first [] end
    next : {first part end : ℕ} {parts : List ℕ} → Spans nodes first part
        → SpanEach nodes (suc part) parts end → SpanEach nodes first (part ∷ parts) end
