-- The exact terms of sequences, sets and cycles, and products of fractions.
use Rattle.std.specs.Prelude.{ℕ, List, [], ◌∷◌}
use Rattle.bz_model.specs.Fraction.{Fraction, AtMost, times, whole, power}
use Rattle.bz_model.specs.Spec.{Node}
use Rattle.bz_model.specs.Measures.{share_of}

-- Two fractions are equal where each is at most the other.
pub record AreEqual (a b : Fraction) : Type 0 where
  pub at_most : AtMost a b
  pub at_least : AtMost b a

-- The term of k parts at a node: the k-th power of the part's value, times the share of k parts.
abbrev pub term_of : Node → Fraction → ℕ → Fraction
term_of node a k = times (share_of node k) (power a k)

-- The product, over a list of parts, of what the function says of each part.
abbrev pub product_by : (ℕ → Fraction) → List ℕ → Fraction
product_by g [] = whole 1
product_by g (part ∷ parts) = times (g part) (product_by g parts)
