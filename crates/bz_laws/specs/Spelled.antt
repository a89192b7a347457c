-- What the law on texts needs of a sound specification.
use Rattle.std.specs.Prelude.{◌≡◌, ℕ, ◌^◌, ◌≤◌, ◌⊎◌, length, Some}
use Rattle.std.specs.List.{AllByRecursion}
use Rattle.bz_model.specs.Spec.{Spec, Node, node_at}

-- A byte of a word is a digit, a capital or small letter, or the low line.
abbrev pub IsWordByte : ℕ → Type 0
IsWordByte b = ((48 ≤ b) × (b ≤ 57)) ⊎ ((65 ≤ b) × (b ≤ 90)) ⊎ (b ≡ 95) ⊎ ((97 ≤ b) × (b ≤ 122))

-- A leaf's word has bytes of words alone, and a union has at most 2^32 parts.
abbrev pub IsPlainNode : Node → Type 0
IsPlainNode (Node.Empty word) = AllByRecursion IsWordByte word
IsPlainNode (Node.Atom word) = AllByRecursion IsWordByte word
IsPlainNode (Node.Union parts) = length parts ≤ 2 ^ 32
IsPlainNode _ = Unit {0}

-- Each node of the specification is such a node.
pub record IsPlain (s : Spec) : Type 0 where
  pub node : (e : ℕ) (node : Node) → node_at s e ≡ Some node → IsPlainNode node
