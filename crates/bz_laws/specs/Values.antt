-- Numbers for the nodes, one for each, that cover or are reached by what the parts' numbers give.
use Rattle.std.specs.Prelude.{◌≡◌, ℕ, suc, ◌-◌, max, Bool, IsTrue, Option, Some, None}
use Rattle.bz_model.specs.Fraction.{Fraction, AtMost, whole, units, sum_from}
use Rattle.bz_model.specs.Spec.{Spec, Node, Range, node_at, range_at, body_of}
use Rattle.bz_model.specs.Totals.{total_by}
use Rattle.bz_laws.specs.Terms.{term_of, product_by}
use Rattle.bz_laws.specs.Sound.{EachPart}

-- A number covers the terms of a node from low on: without a high it is at least each sum of them,
-- with a high at least the sum up to it.
abbrev pub CoversTerms : Node → Fraction → (low : ℕ) → Option ℕ → Fraction → Type 0
CoversTerms node a low None v = (n : ℕ) → AtMost (sum_from (term_of node a) low n) v
CoversTerms node a low (Some high) v = AtMost (sum_from (term_of node a) low (suc high - low)) v

-- A number is reached by the terms of a node from low on: without a high it is at most some sum of
-- them, with a high at most the sum up to it.
abbrev pub IsReachedByTerms : Node → Fraction → (low : ℕ) → Option ℕ → Fraction → Type 0
IsReachedByTerms node a low None v = (n : ℕ) × AtMost v (sum_from (term_of node a) low n)
IsReachedByTerms node a low (Some high) v = AtMost v (sum_from (term_of node a) low (suc high - low))

-- The same where the range may be missing, in which case the node has nothing.
abbrev pub CoversRange : Node → Fraction → Option Range → Fraction → Type 0
CoversRange node a None v = Unit {0}
CoversRange node a (Some r) v = CoversTerms node a r.low r.high v

abbrev pub IsReachedInRange : Node → Fraction → Option Range → Fraction → Type 0
IsReachedInRange node a None v = AtMost v (whole 0)
IsReachedInRange node a (Some r) v = IsReachedByTerms node a r.low r.high v

-- A number covers a node, where class c has the number `entry c` and each part the number that
-- `value` gives: it is at least 1 at a neutral leaf, x at an atom, the class's number at a
-- reference, the sum at a union, the product at a product, and each sum of terms at a sequence, set
-- or cycle.
abbrev pub CoversNode : Fraction → (entry value : ℕ → Fraction) → Node → Option Range → Fraction
    → Type 0
CoversNode x entry value (Node.Empty word) r v = AtMost (whole 1) v
CoversNode x entry value (Node.Atom word) r v = AtMost x v
CoversNode x entry value (Node.Class c) r v = AtMost (entry c) v
CoversNode x entry value (Node.Union parts) r v = AtMost (total_by value parts) v
CoversNode x entry value (Node.Product parts) r v = AtMost (product_by value parts) v
CoversNode x entry value (Node.Seq part) r v = CoversRange (Node.Seq part) (value part) r v
CoversNode x entry value (Node.Set part) r v = CoversRange (Node.Set part) (value part) r v
CoversNode x entry value (Node.Cyc part) r v = CoversRange (Node.Cyc part) (value part) r v

-- A number is reached by a node: it is at most 1, x, the class's number, the sum, the product, or
-- some sum of terms.
abbrev pub IsReachedByNode : Fraction → (entry value : ℕ → Fraction) → Node → Option Range
    → Fraction → Type 0
IsReachedByNode x entry value (Node.Empty word) r v = AtMost v (whole 1)
IsReachedByNode x entry value (Node.Atom word) r v = AtMost v x
IsReachedByNode x entry value (Node.Class c) r v = AtMost v (entry c)
IsReachedByNode x entry value (Node.Union parts) r v = AtMost v (total_by value parts)
IsReachedByNode x entry value (Node.Product parts) r v = AtMost v (product_by value parts)
IsReachedByNode x entry value (Node.Seq part) r v =
    IsReachedInRange (Node.Seq part) (value part) r v
IsReachedByNode x entry value (Node.Set part) r v =
    IsReachedInRange (Node.Set part) (value part) r v
IsReachedByNode x entry value (Node.Cyc part) r v =
    IsReachedInRange (Node.Cyc part) (value part) r v

-- The numbers that are told of some nodes cover these: with a node each of its parts has one, and
-- the node's covers it.
pub record Covers (s : Spec) (x : Fraction) (told : ℕ → Bool) (entry value : ℕ
    → Fraction) : Type 0 where
  pub parts : (e : ℕ) (node : Node) → IsTrue (told e) → node_at s e ≡ Some node
      → EachPart (λ part. IsTrue (told part)) node
  pub node : (e : ℕ) (node : Node) → IsTrue (told e) → node_at s e ≡ Some node
      → CoversNode x entry value node (range_at s e) (value e)

-- The numbers of the nodes are all reached.
pub record AreReached (s : Spec) (x : Fraction) (entry value : ℕ → Fraction) : Type 0 where
  pub node : (e : ℕ) (node : Node) → node_at s e ≡ Some node
      → IsReachedByNode x entry value node (range_at s e) (value e)

-- Lower sweeps from zero, of entries and of the nodes' numbers in units: each entry is 0 at first,
-- the numbers of each sweep are reached by the nodes, and each class gets the greater of its entry
-- and its body's number.
pub record AreLowerSweeps (s : Spec) (x : Fraction) (F : ℕ) (entry value : (sweep number : ℕ)
    → ℕ) : Type 0 where
  pub zero : (c : ℕ) → entry 0 c ≡ 0
  pub reached : (n : ℕ) → AreReached s x (λ c. units F (entry n c)) (λ e. units F (value n e))
  pub greater : (n c body : ℕ) → body_of s c ≡ Some body
      → entry (suc n) c ≡ max (entry n c) (value n body)
