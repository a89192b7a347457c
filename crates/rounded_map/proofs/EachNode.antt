-- Going through the nodes, one value after another.
use Rattle.std.proofs.Common.{◌≡◌, ℕ, ◌+◌, ◌<◌, ◌≤◌, List, [], length, map, take, set, get_or, arith, sym, ap, subst, ◌∙◌, add-one, Some, slice_get}
use Rattle.std.proofs.Math.Seq.{take-suc-set}
use Rattle.std.proofs.lemmas.List.{take_all, length-map}
use Rattle.bz_model.specs.Spec.{Spec, Node, Range, node_at, range_at}
use Rattle.class_system.specs.Each.{Each}
use Rattle.class_system.specs.NodeOrder.{parts_of}
use Rattle.class_system.specs.NodeResults.{node_results, ranged_nodes}
use Rattle.class_system.specs.Sound.{IsSound, RefersBelow, HasTextRange}
use Rattle.class_system.proofs.Results.{results-more, results-all}
use Rattle.class_system.proofs.Soundness.{part_below, node_listed, range_listed, body_in_range}
use Rattle.class_system.specs.Views.{spec_node, spec_range}
use Rattle.class_system.specs.declared.expr.Expr.{Expr}
use Rattle.class_system.specs.declared.ranges.Range as system

-- A node of the code's lists of nodes and ranges, with what it has in a sound specification.
pub record IsListed (s : Spec) (e : ℕ) (n : Node) (r : Range) : Type 0 where
  pub at : node_at s e ≡ Some n
  pub ranged : range_at s e ≡ Some r
  pub class : (entries : ℕ) → entries ≡ length s.bodies → RefersBelow entries n
  pub parts : (before : ℕ) → before ≡ e → Each (λ p. p < before) (parts_of n)
  pub range : HasTextRange n r

-- The parts of a node stand before it.
pub parts_before : (s : Spec) → IsSound s → (e before : ℕ) (n : Node) → node_at s e ≡ Some n → before ≡ e → Each (λ p. p < before) (parts_of n)
parts_before s sound e before n at same = record {
  at = λ i p is_part. omega (arith, part_below s sound e p n at (record { place = i; is_there = is_part }));
}

-- Each class's body is one of the nodes.
pub bodies_inside : (s : Spec) → IsSound s → (bodies : List ℕ) (n : ℕ) → bodies ≡ s.bodies → n ≡ length s.nodes → Each (λ b. b < n) bodies
bodies_inside s sound bodies n are same = record {
  at = λ c b at. omega (arith, body_in_range s sound c b (ap (λ bs. slice_get bs c) (sym are) ∙ at));
}

-- A node refers to a class that has an entry.
pub refers_below : (s : Spec) → IsSound s → (e entries : ℕ) (n : Node) → node_at s e ≡ Some n → entries ≡ length s.bodies → RefersBelow entries n
refers_below s sound e entries n at same = subst (λ m. RefersBelow m n) (sym (same ∙ sound.bodies)) (sound.references.at e n at)

-- One value more is written.
pub written-more : {V : Type 0} (result : List V → Node → Range → V) (s : Spec) (e : ℕ) (n : Node) (r : Range) (values : List V) (v : V) → node_at s e ≡ Some n → range_at s e ≡ Some r → e < length values → take e values ≡ node_results result [] (take e (ranged_nodes s)) → v ≡ result (take e values) n r → take (e + 1) (set values e v) ≡ node_results result [] (take (e + 1) (ranged_nodes s))
written-more result s e n r values v at_n at_r within found is_value =
    results-more result s e n r (take e values) (take (e + 1) (set values e v)) v at_n at_r found is_value
    (ap (λ k. take k (set values e v)) (add-one e) ∙ take-suc-set values e v within)

-- All values are written.
pub written-all : {V : Type 0} (result : List V → Node → Range → V) (s : Spec) (e : ℕ) (values : List V) → take e values ≡ node_results result [] (take e (ranged_nodes s)) → length values ≤ e → length values ≡ length s.nodes → values ≡ node_results result [] (ranged_nodes s)
written-all result s e values found all same =
    sym (take_all e values all) ∙ results-all result s e (take e values) found (omega arith)

-- In a sound specification, each listed node has its range, refers to a class that is there, and
-- has its parts before it.
pub listed : (s : Spec) → IsSound s → (items : List Expr) (ranges : List system.Range) (e : ℕ) (item : Expr) (d : system.Range) → map spec_node items ≡ s.nodes → map spec_range ranges ≡ s.ranges → item ≡ get_or items e item → e < length s.nodes → IsListed s e (spec_node item) (spec_range (get_or ranges e d))
listed s sound items ranges e item d nodes_are ranges_are is within =
    let n = spec_node item in
    let r = spec_range (get_or ranges e d) in
    let inside : e < length items = omega (arith, ap length nodes_are, length-map items spec_node) in
    let at_n : node_at s e ≡ Some n = node_listed items s.nodes e item nodes_are is inside in
    let at_r : range_at s e ≡ Some r = range_listed s sound ranges e d ranges_are within in
    record {
      at = at_n;
      ranged = at_r;
      class = λ entries same. refers_below s sound e entries n at_n same;
      parts = λ before same. parts_before s sound e before n at_n same;
      range = sound.ranges.at e n r at_n at_r;
    }
