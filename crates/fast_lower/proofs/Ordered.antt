-- Lower numbers of nodes are at most upper ones, where the entries are.
use Rattle.std.proofs.Common.{◌≡◌, ℕ, suc, ◌-◌, ◌<◌, List, [], ◌∷◌, length, arith, Option, Some, None}
use Rattle.std.specs.Prelude.{Bool, IsTrue}
use Rattle.std.specs.List.{AllByRecursion}
use Rattle.bz_model.specs.Fraction.{Fraction, AtMost, whole}
use Rattle.bz_model.specs.Spec.{Spec, Node, Range, node_at, range_at}
use Rattle.bz_model.specs.Totals.{total_by}
use Rattle.bz_laws.specs.Terms.{product_by}
use Rattle.bz_laws.specs.Sound.{EachPart}
use Rattle.bz_laws.specs.Values.{CoversTerms, CoversRange, CoversNode, Covers, IsReachedByTerms, IsReachedInRange, IsReachedByNode, AreReached}
use Rattle.bz_laws.proofs.Fractions.{AtMost-trans, AtMost-refl, plus-mono, times-mono}
use Rattle.bz_laws.proofs.Values.{each_part-both, each-node}
use Rattle.fast_lower.proofs.Growing.{sum-mono}

zero-least : (a : Fraction) → AtMost (whole 0) a
zero-least a = omega arith

module _ (low_value high_value : ℕ → Fraction) where
  total-most : (parts : List ℕ) → AllByRecursion (λ p. AtMost (low_value p) (high_value p)) parts → AtMost (total_by low_value parts) (total_by high_value parts)
  total-most [] h = AtMost-refl (whole 0)
  total-most (p ∷ ps) h = plus-mono h.0 (total-most ps h.1)

  product-most : (parts : List ℕ) → AllByRecursion (λ p. AtMost (low_value p) (high_value p)) parts → AtMost (product_by low_value parts) (product_by high_value parts)
  product-most [] h = AtMost-refl (whole 1)
  product-most (p ∷ ps) h = times-mono h.0 (product-most ps h.1)

terms-most : (node : Node) (a c b v : Fraction) (low : ℕ) (high : Option ℕ) → AtMost a c → IsReachedByTerms node a low high b → CoversTerms node c low high v → AtMost b v
terms-most node a c b v low None h reached covers = AtMost-trans reached.1 (AtMost-trans (sum-mono node h low reached.0) (covers reached.0))
terms-most node a c b v low (Some high) h reached covers = AtMost-trans reached (AtMost-trans (sum-mono node h low (suc high - low)) covers)

range-most : (node : Node) (a c b v : Fraction) (r : Option Range) → AtMost a c → IsReachedInRange node a r b → CoversRange node c r v → AtMost b v
range-most node a c b v None h reached covers = AtMost-trans reached (zero-least v)
range-most node a c b v (Some r) h reached covers = terms-most node a c b v r.low r.high h reached covers

node-most : (x : Fraction) (low_entry high_entry low_value high_value : ℕ → Fraction) (b v : Fraction) (node : Node) (r : Option Range) → ((c : ℕ) → AtMost (low_entry c) (high_entry c)) → EachPart (λ p. AtMost (low_value p) (high_value p)) node → IsReachedByNode x low_entry low_value node r b → CoversNode x high_entry high_value node r v → AtMost b v
node-most x le he lv hv b v (Node.Empty word) r entries parts reached covers = AtMost-trans reached covers
node-most x le he lv hv b v (Node.Atom word) r entries parts reached covers = AtMost-trans reached covers
node-most x le he lv hv b v (Node.Class c) r entries parts reached covers = AtMost-trans reached (AtMost-trans (entries c) covers)
node-most x le he lv hv b v (Node.Union ps) r entries parts reached covers = AtMost-trans reached (AtMost-trans (total-most lv hv ps parts) covers)
node-most x le he lv hv b v (Node.Product ps) r entries parts reached covers = AtMost-trans reached (AtMost-trans (product-most lv hv ps parts) covers)
node-most x le he lv hv b v (Node.Seq part) r entries parts reached covers = range-most (Node.Seq part) (lv part) (hv part) b v r parts reached covers
node-most x le he lv hv b v (Node.Set part) r entries parts reached covers = range-most (Node.Set part) (lv part) (hv part) b v r parts reached covers
node-most x le he lv hv b v (Node.Cyc part) r entries parts reached covers = range-most (Node.Cyc part) (lv part) (hv part) b v r parts reached covers

-- Each node's lower number is at most its upper one.
pub values-ordered : (s : Spec) (below : (e : ℕ) (node : Node) → node_at s e ≡ Some node → EachPart (λ part. part < e) node) (x : Fraction) (low_entry high_entry low_value high_value : ℕ → Fraction) (told : ℕ → Bool) → AreReached s x low_entry low_value → Covers s x told high_entry high_value → ((c : ℕ) → AtMost (low_entry c) (high_entry c)) → (e : ℕ) → e < length s.nodes → IsTrue (told e) → AtMost (low_value e) (high_value e)
values-ordered s below x le he lv hv told reach cover entries e within =
    each-node s below (λ d. IsTrue (told d) → AtMost (lv d) (hv d))
    (λ d node at parts is_told. node-most x le he lv hv (lv d) (hv d) node (range_at s d) entries (each_part-both (λ p h k. h k) node parts (cover.parts d node is_told at)) (reach.node d node at) (cover.node d node is_told at))
    e within
