-- The tables are sound.
use Rattle.std.proofs.Common.{◌≡◌, ℕ, zero, suc, ◌+◌, ◌*◌, ◌<◌, ◌≤◌, List, [], ◌∷◌, ◌++◌, length, map, refl, rules, sym, ◌∙◌, ap, subst, arith, Some, slice_get}
use Rattle.std.specs.Prelude.{flat_map, option_map}
use Rattle.std.specs.List.{range_with_len}
use Rattle.std.proofs.lemmas.List.FromFn.{length-map-range_with_len}
use Rattle.std.proofs.lemmas.List.{length-map}
use Rattle.std.proofs.lemmas.Option.{same_Some, slice_get-map}
use Rattle.bz_model.specs.Spec.{Mode, Node, plain_range}
use Rattle.class_system.specs.Each.{Each, EachPair}
use Rattle.class_system.specs.NodeOrder.{Spans, SpanEach}
use Rattle.class_system.specs.NodeOrder.Spans.{tree}
use Rattle.class_system.specs.NodeOrder.SpanEach.{done, next}
use Rattle.class_system.specs.Sound.{HasTwoParts, RefersBelow, HasLeafWord, SuitsMode, HasTextRange, IsSound}
use Rattle.class_system.specs.Words.{IsName}
use Rattle.class_system.proofs.Growth.{SpanEach-append, SpanEach-more}
use Rattle.bulk_command.specs.BulkTables.{class_nodes, tables_of}
use Rattle.bulk_command.specs.BulkText.{numbered_name, next_class}
use Rattle.bulk_command.proofs.Blocks.{blocks-more, blocks-length, mapped-more, at-behind, each-blocks, each-mapped, each-six}
use Rattle.bulk_command.proofs.Names.{is-name}

-- the nodes of the first classes
abbrev first_nodes : (m k : ℕ) → List Node
first_nodes m k = flat_map (class_nodes m) (range_with_len 0 k)

abbrev first_bodies : (k : ℕ) → List ℕ
first_bodies k = map (λ class. 6 * class + 5) (range_with_len 0 k)

-- the tree of a class's body stands behind the nodes of the classes before it
body-tree : (nodes : List Node) (m k : ℕ) → length nodes ≡ 6 * k → Spans (nodes ++ class_nodes m k) (6 * k) (6 * k + 5)
body-tree nodes m k long =
    let at = λ (j : ℕ). at-behind nodes (class_nodes m k) (6 * k + j) j (omega (arith, long)) in
    let e0 : slice_get (nodes ++ class_nodes m k) (6 * k) ≡ Some (Node.Empty []) = at-behind nodes (class_nodes m k) (6 * k) 0 (omega (arith, long)) in
    let product : Spans (nodes ++ class_nodes m k) (suc (6 * k)) (6 * k + 4) =
    tree (Node.Product ((6 * k + 1) ∷ (6 * k + 2) ∷ (6 * k + 3) ∷ [])) (at 4)
    (next (tree (Node.Atom []) (at 1) (done (omega arith)))
    (next (tree (Node.Class k) (at 2) (done (omega arith)))
    (next (tree (Node.Class (next_class m k)) (at 3) (done (omega arith)))
    (done (omega arith))))) in
    tree (Node.Union ((6 * k) ∷ (6 * k + 4) ∷ [])) (at 5)
    (next (tree (Node.Empty []) e0 (done refl))
    (next product
    (done (omega arith))))

in-order : (m k : ℕ) → SpanEach (first_nodes m k) 0 (first_bodies k) (6 * k)
in-order m zero = done refl
in-order m (suc k) =
    let before = in-order m k in
    let long = blocks-length (class_nodes m) (λ i. refl) k in
    let tree_here = body-tree (first_nodes m k) m k long in
    let both = SpanEach-more (first_nodes m k ++ class_nodes m k) 0 (first_bodies k) (6 * k) (6 * k + 5) (SpanEach-append (first_nodes m k) (class_nodes m k) 0 (first_bodies k) (6 * k) before) tree_here in
    let end : suc (6 * k + 5) ≡ 6 * suc k = omega arith in
    subst (SpanEach (first_nodes m (suc k)) 0 (first_bodies (suc k))) end
    (subst (λ bodies. SpanEach (first_nodes m (suc k)) 0 bodies (suc (6 * k + 5))) (sym (mapped-more (λ class. 6 * class + 5) k))
    (subst (λ nodes. SpanEach nodes 0 (first_bodies k ++ (6 * k + 5) ∷ []) (suc (6 * k + 5))) (sym (blocks-more (class_nodes m) k)) both))

-- The class after any class, taken modulo m, is one of the m classes, where m is at least 2.
pub next-below : (m class : ℕ) → 2 ≤ m → next_class m class < m
next-below m class some = omega (arith, some)

-- the range of a node that isn't counted is plain
plain-ranges : (nodes : List Node) → Each (λ n. HasTextRange n (plain_range n)) nodes → EachPair HasTextRange nodes (map plain_range nodes)
plain-ranges nodes each = record {
  lengths = length-map nodes plain_range;
  at = λ i n r at_n at_r. subst (HasTextRange n) (same_Some (plain_range n) r (sym (slice_get-map plain_range nodes i ∙ ap (option_map plain_range) at_n) ∙ at_r)) (each.at i n at_n);
}

-- The tables of 2 to 41 classes are sound.
pub is-sound : (m : ℕ) → 2 ≤ m → m ≤ 41 → IsSound (tables_of m)
is-sound m some few =
    let named : length (map numbered_name (range_with_len 0 m)) ≡ m = length-map-range_with_len numbered_name 0 m in
    let bodied : length (first_bodies m) ≡ m = length-map-range_with_len (λ class. 6 * class + 5) 0 m in
    let long : length (first_nodes m m) ≡ 6 * m = blocks-length (class_nodes m) (λ i. refl) m in
    record {
      a_class = omega (arith, named, some);
      bodies = bodied ∙ sym named;
      parts = each-blocks HasTwoParts (class_nodes m) m (λ i less. each-six HasTwoParts _ _ _ _ _ _ tt tt tt tt (omega arith) (omega arith));
      references = each-blocks (RefersBelow (length (map numbered_name (range_with_len 0 m)))) (class_nodes m) m (λ i less. each-six (RefersBelow (length (map numbered_name (range_with_len 0 m)))) _ _ _ _ _ _ tt tt (omega (arith, named, less)) (let h = next-below m i some in omega (arith, named, h)) tt tt);
      order = subst (SpanEach (first_nodes m m) 0 (first_bodies m)) (sym long) (in-order m m);
      names = each-mapped IsName numbered_name m (λ i less. is-name i (omega (arith, less, few)));
      leaves = each-blocks HasLeafWord (class_nodes m) m (λ i less. each-six HasLeafWord _ _ _ _ _ _ (search rules) (search rules) tt tt tt tt);
      modes = each-blocks (SuitsMode Mode.Unlabelled) (class_nodes m) m (λ i less. each-six (SuitsMode Mode.Unlabelled) _ _ _ _ _ _ tt tt tt tt tt tt);
      ranges = plain-ranges (first_nodes m m) (each-blocks (λ n. HasTextRange n (plain_range n)) (class_nodes m) m (λ i less. each-six (λ n. HasTextRange n (plain_range n)) _ _ _ _ _ _ refl refl refl refl refl refl));
    }
