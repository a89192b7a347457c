-- What the laws need of a sound specification.
use Rattle.std.specs.Prelude.{◌≡◌, ℕ, ◌<◌, length, Option, Some}
use Rattle.std.specs.List.{AllByRecursion}
use Rattle.bz_model.specs.Spec.{Spec, Node, Range, node_at, range_at, body_of, IsWithinHigh}

-- Each part of the node, if it has parts, has the property.
abbrev pub EachPart : (ℕ → Type 0) → Node → Type 0
EachPart P (Node.Union parts) = AllByRecursion P parts
EachPart P (Node.Product parts) = AllByRecursion P parts
EachPart P (Node.Seq part) = P part
EachPart P (Node.Set part) = P part
EachPart P (Node.Cyc part) = P part
EachPart P _ = Unit {0}

-- A union has a part.
abbrev pub HasSomePart : Node → Type 0
HasSomePart (Node.Union parts) = 0 < length parts
HasSomePart _ = Unit {0}

-- A range lets its low through.
pub record LetsItsLow (r : Option Range) : Type 0 where
  pub range : Range
  pub is_there : r ≡ Some range
  pub within : IsWithinHigh range.low range.high

-- A sequence, set or cycle has a range, whose low is within its high.
abbrev pub HasSoundRange : Node → Option Range → Type 0
HasSoundRange (Node.Seq part) r = LetsItsLow r
HasSoundRange (Node.Set part) r = LetsItsLow r
HasSoundRange (Node.Cyc part) r = LetsItsLow r
HasSoundRange _ r = Unit {0}

-- The laws need of a specification that each node's parts stand below it, that a union has a part,
-- that a counted node has a range with its low within its high, that a reference's class has a
-- body, and that each body is a node.
pub record IsLaidOut (s : Spec) : Type 0 where
  pub below : (e : ℕ) (node : Node) → node_at s e ≡ Some node → EachPart (λ part. part < e) node
  pub unions : (e : ℕ) (node : Node) → node_at s e ≡ Some node → HasSomePart node
  pub ranges : (e : ℕ) (node : Node) → node_at s e ≡ Some node → HasSoundRange node (range_at s e)
  pub classes : (e c : ℕ) → node_at s e ≡ Some (Node.Class c)
      → (body : ℕ) × (body_of s c ≡ Some body)
  pub bodies : (c body : ℕ) → body_of s c ≡ Some body → body < length s.nodes
