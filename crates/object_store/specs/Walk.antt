-- Nodes with a token and nodes without one.
use Rattle.std.specs.Prelude.{◌≡◌, ℕ, ◌<◌, List, ◌∷◌, ◌++◌, Some}
use Rattle.std.specs.List.{AllByRecursion}
use Rattle.bz_model.specs.Spec.{Spec, Node, node_at, body_of}

-- All of these nodes are among the first n.
abbrev pub AllBelow : ℕ → List ℕ → Type 0
AllBelow n es = AllByRecursion (λ e. e < n) es

-- The objects of a node of this form have a token of their own: it is no class and no product.
abbrev pub IsTokenNode : Node → Type 0
IsTokenNode (Node.Class c) = ⊥
IsTokenNode (Node.Product parts) = ⊥
IsTokenNode _ = Unit {0}

-- The node of this number is no class and no product.
pub record HasToken (s : Spec) (e : ℕ) : Type 0 where
  pub node : Node
  pub is_node : node_at s e ≡ Some node
  pub has_token : IsTokenNode node

-- A class's body, or a product's parts, are put before the nodes that wait.
pub data Expands (s : Spec) (e : ℕ) (es now : List ℕ) : Type 0 where
  class : (c body : ℕ) → node_at s e ≡ Some (Node.Class c) → body_of s c ≡ Some body
      → now ≡ body ∷ es → Expands s e es now
  product : (parts : List ℕ) → node_at s e ≡ Some (Node.Product parts) → now ≡ parts ++ es
      → Expands s e es now
