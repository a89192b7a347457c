-- When a specification is sound: what a reader of text guarantees of the tables that it builds.
use Rattle.std.specs.Prelude.{◌≡◌, ℕ, ◌<◌, ◌≤◌, length, Some, None}
use Rattle.bz_model.specs.Spec.{Spec, Mode, Node, Range}
use Rattle.class_system.specs.Each.{Each, EachPair}
use Rattle.class_system.specs.NodeOrder.{SpanEach}
use Rattle.class_system.specs.Words.{IsName, IsLeafWord}

-- A union or a product has two parts or more.
abbrev pub HasTwoParts : Node → Type 0
HasTwoParts (Node.Union parts) = 2 ≤ length parts
HasTwoParts (Node.Product parts) = 2 ≤ length parts
HasTwoParts _ = Unit {0}

-- A reference is to one of the classes, of which there are so many.
abbrev pub RefersBelow : ℕ → Node → Type 0
RefersBelow classes (Node.Class c) = c < classes
RefersBelow classes _ = Unit {0}

-- A leaf's word is empty or a leaf's word of the text.
abbrev pub HasLeafWord : Node → Type 0
HasLeafWord (Node.Empty word) = IsLeafWord word
HasLeafWord (Node.Atom word) = IsLeafWord word
HasLeafWord _ = Unit {0}

-- A set or a cycle stands in a labelled specification.
abbrev pub SuitsMode : Mode → Node → Type 0
SuitsMode mode (Node.Set part) = mode ≡ Mode.Labelled
SuitsMode mode (Node.Cyc part) = mode ≡ Mode.Labelled
SuitsMode mode _ = Unit {0}

-- A bound on a number of parts is from 1 to 64.
pub record IsBound (k : ℕ) : Type 0 where
  pub from_one : 1 ≤ k
  pub to_64 : k ≤ 64

-- A range is one that the text gives where the plain low is `low`: the plain one, or that of >=k,
-- <=k or =k.
pub data IsTextRange (low : ℕ) (r : Range) : Type 0 where
  plain : r ≡ record { low = low; high = None } → IsTextRange low r
  at_least : (k : ℕ) → IsBound k → r ≡ record { low = k; high = None } → IsTextRange low r
  at_most : (k : ℕ) → IsBound k → r ≡ record { low = low; high = Some k } → IsTextRange low r
  exactly : (k : ℕ) → IsBound k → r ≡ record { low = k; high = Some k } → IsTextRange low r

-- A counted node has a range that the text gives, and any other node has low 0 and no high.
abbrev pub HasTextRange : Node → Range → Type 0
HasTextRange (Node.Seq part) r = IsTextRange 0 r
HasTextRange (Node.Set part) r = IsTextRange 0 r
HasTextRange (Node.Cyc part) r = IsTextRange 1 r
HasTextRange _ r = r ≡ record { low = 0; high = None }

-- A specification is sound where it has a class, a body for each class, two parts or more in each
-- union and product, references to its classes alone, nodes in order, names and leaves' words of
-- the text, sets and cycles only if it is labelled, and for each node a range of the text. That the
-- nodes are in order says that each class's nodes stand together with the body last, that each part
-- stands before its node, and that each other node is a part of exactly one node.
pub record IsSound (s : Spec) : Type 0 where
  pub a_class : 0 < length s.names
  pub bodies : length s.bodies ≡ length s.names
  pub parts : Each HasTwoParts s.nodes
  pub references : Each (RefersBelow (length s.names)) s.nodes
  pub order : SpanEach s.nodes 0 s.bodies (length s.nodes)
  pub names : Each IsName s.names
  pub leaves : Each HasLeafWord s.nodes
  pub modes : Each (SuitsMode s.mode) s.nodes
  pub ranges : EachPair HasTextRange s.nodes s.ranges
