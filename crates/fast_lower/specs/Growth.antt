-- How fast the numbers of nodes grow with their parts' numbers: exact derivatives, and what covers
-- them.
use Rattle.std.specs.Prelude.{◌≡◌, ℕ, zero, suc, ◌-◌, List, [], ◌∷◌, Bool, IsTrue, Option, Some}
use Rattle.std.specs.Prelude.{None}
use Rattle.bz_model.specs.Fraction.{Fraction, AtMost, plus, times, whole, power, sum_from}
use Rattle.bz_model.specs.Spec.{Spec, Node, Range, node_at, range_at}
use Rattle.bz_model.specs.Measures.{share_of}
use Rattle.bz_model.specs.Totals.{total_by}
use Rattle.bz_laws.specs.Terms.{product_by}
use Rattle.bz_laws.specs.Sound.{EachPart}

-- The growth of the term of k parts at a number c, its derivative: the share of k parts, times k,
-- times the power of c before the k-th.
abbrev pub term_growth : Node → Fraction → ℕ → Fraction
term_growth node c zero = whole 0
term_growth node c (suc k) = times (share_of node (suc k)) (times (whole (suc k)) (power c k))

-- The growth of a product, after factors whose product is `before`: the sum, over the parts, of the
-- product in which this one part's number is replaced by its growth.
abbrev pub product_growth : (value growth : ℕ → Fraction) → (before : Fraction) → List ℕ → Fraction
product_growth value growth before [] = whole 0
product_growth value growth before (part ∷ parts) =
    plus (times before (times (growth part) (product_by value parts)))
    (product_growth value growth (times before (value part)) parts)

-- A number covers the growth of a node's terms from low on: without a high it is at least each sum
-- of them, with a high at least the sum up to it.
abbrev pub CoversTermGrowth : Node → Fraction → (low : ℕ) → Option ℕ → Fraction → Type 0
CoversTermGrowth node c low None v = (n : ℕ) → AtMost (sum_from (term_growth node c) low n) v
CoversTermGrowth node c low (Some high) v =
    AtMost (sum_from (term_growth node c) low (suc high - low)) v

-- A number covers the growth of a counted node whose part has the number c and the growth d: some
-- slope covers the growth of its terms, and the number is at least the slope times d.
pub record HasSlope (node : Node) (c d : Fraction) (low : ℕ) (high : Option ℕ) (v : Fraction) : Type
    0 where
  pub slope : Fraction
  pub covers : CoversTermGrowth node c low high slope
  pub along : AtMost (times slope d) v

-- The same where the range may be missing, in which case the node has nothing.
abbrev pub CoversRangeGrowth : Node → (c d : Fraction) → Option Range → Fraction → Type 0
CoversRangeGrowth node c d None v = Unit {0}
CoversRangeGrowth node c d (Some r) v = HasSlope node c d r.low r.high v

-- A number covers the growth of a node, where class c grows by `along c`, and each part has the
-- number that `value` gives and grows by what `growth` gives: a leaf doesn't grow, a reference
-- grows by its class's growth, a union by the sum, a product by the sum of its products with one
-- part's number replaced, and a counted node by its slope times the part's growth.
abbrev pub CoversNodeGrowth : (along value growth : ℕ → Fraction) → Node → Option Range → Fraction
    → Type 0
CoversNodeGrowth along value growth (Node.Empty word) r v = Unit {0}
CoversNodeGrowth along value growth (Node.Atom word) r v = Unit {0}
CoversNodeGrowth along value growth (Node.Class c) r v = AtMost (along c) v
CoversNodeGrowth along value growth (Node.Union parts) r v = AtMost (total_by growth parts) v
CoversNodeGrowth along value growth (Node.Product parts) r v =
    AtMost (product_growth value growth (whole 1) parts) v
CoversNodeGrowth along value growth (Node.Seq part) r v =
    CoversRangeGrowth (Node.Seq part) (value part) (growth part) r v
CoversNodeGrowth along value growth (Node.Set part) r v =
    CoversRangeGrowth (Node.Set part) (value part) (growth part) r v
CoversNodeGrowth along value growth (Node.Cyc part) r v =
    CoversRangeGrowth (Node.Cyc part) (value part) (growth part) r v

-- The numbers of some nodes cover their growths: with a node each of its parts has one, and the
-- node's covers its growth.
pub record CoversGrowth (s : Spec) (told : ℕ → Bool) (along value growth : ℕ
    → Fraction) : Type 0 where
  pub parts : (e : ℕ) (node : Node) → IsTrue (told e) → node_at s e ≡ Some node
      → EachPart (λ part. IsTrue (told part)) node
  pub node : (e : ℕ) (node : Node) → IsTrue (told e) → node_at s e ≡ Some node
      → CoversNodeGrowth along value growth node (range_at s e) (growth e)
