-- The tables are within the limits.
use Rattle.std.proofs.Common.{◌≡◌, ℕ, zero, suc, ◌+◌, ◌*◌, ◌≤◌, List, [], ◌∷◌, ◌++◌, length, map, refl, sym, ◌∙◌, ap, subst, arith, Some, slice_get}
use Rattle.std.specs.Prelude.{flat_map, slice_index}
use Rattle.std.specs.List.{range_with_len}
use Rattle.std.proofs.lemmas.List.FromFn.{length-map-range_with_len}
use Rattle.std.proofs.lemmas.Option.{get_or_from_slice_get}
use Rattle.bz_model.specs.Spec.{Node}
use Rattle.class_system.specs.NodeResults.{node_results}
use Rattle.class_system.specs.NodeOrder.{parts_of}
use Rattle.class_system.specs.Limits.{greatest_of, node_depth, depths, HasFewParts, IsWithinLimits}
use Rattle.bulk_command.specs.BulkTables.{class_nodes, all_nodes, tables_of}
use Rattle.bulk_command.specs.BulkText.{numbered_name, next_class}
use Rattle.bulk_command.proofs.Blocks.{blocks-more, blocks-length, at-behind, each-blocks, each-six}
use Rattle.bulk_command.proofs.Results.{with_range, zip-plain, six-on, blocks-on}

-- the depths of the nodes of a class
abbrev class_depths : (class : ℕ) → List ℕ
class_depths class = 1 ∷ 1 ∷ 1 ∷ 1 ∷ 2 ∷ 3 ∷ []

depth-at : (before all : List ℕ) (i j d : ℕ) → i ≡ length before + j → slice_get all j ≡ Some d → slice_index (before ++ all) i ≡ d
depth-at before all i j d e at = get_or_from_slice_get (before ++ all) i d 0 (at-behind before all i j e ∙ at)

class-on : (m class : ℕ) (before : List ℕ) → length before ≡ 6 * class → node_results node_depth before (map with_range (class_nodes m class)) ≡ before ++ class_depths class
class-on m class before long =
    let four = 1 ∷ 1 ∷ 1 ∷ 1 ∷ [] in
    let five = 1 ∷ 1 ∷ 1 ∷ 1 ∷ 2 ∷ [] in
    let z = depth-at before four (6 * class + 1) 1 1 (omega (arith, long)) refl in
    let a = depth-at before four (6 * class + 2) 2 1 (omega (arith, long)) refl in
    let b = depth-at before four (6 * class + 3) 3 1 (omega (arith, long)) refl in
    let e = depth-at before five (6 * class) 0 1 (omega (arith, long)) refl in
    let p = depth-at before five (6 * class + 4) 4 2 (omega (arith, long)) refl in
    six-on node_depth before (Node.Empty []) (Node.Atom []) (Node.Class class) (Node.Class (next_class m class)) (Node.Product ((6 * class + 1) ∷ (6 * class + 2) ∷ (6 * class + 3) ∷ [])) (Node.Union ((6 * class) ∷ (6 * class + 4) ∷ [])) 1 1 1 1 2 3
    refl refl refl refl (omega (arith, z, a, b)) (omega (arith, e, p))

depths-are : (m : ℕ) → depths (tables_of m) ≡ flat_map class_depths (range_with_len 0 m)
depths-are m =
    ap (node_results node_depth []) (zip-plain (all_nodes m))
    ∙ blocks-on node_depth (class_nodes m) class_depths m (λ i less. class-on m i (flat_map class_depths (range_with_len 0 i)) (blocks-length class_depths (λ j. refl) i))

greatest-both : (xs ys : List ℕ) → greatest_of xs ≤ 3 → greatest_of ys ≤ 3 → greatest_of (xs ++ ys) ≤ 3
greatest-both [] ys a b = b
greatest-both (x ∷ xs) ys a b = let rest = greatest-both xs ys (omega (arith, a)) b in omega (arith, a, rest)

three-deep : (n : ℕ) → greatest_of (flat_map class_depths (range_with_len 0 n)) ≤ 3
three-deep zero = omega arith
three-deep (suc n) = subst (λ z. greatest_of z ≤ 3) (sym (blocks-more class_depths n)) (greatest-both (flat_map class_depths (range_with_len 0 n)) (class_depths n) (three-deep n) (omega arith))

few-parts : (n : Node) → length (parts_of n) ≤ 64 → HasFewParts n
few-parts n few = record { few = few }

-- The tables of at most 41 classes are within the limits on classes, parts, depth and nodes.
pub is-within : (m : ℕ) → m ≤ 41 → IsWithinLimits (tables_of m)
is-within m few =
    let named = length-map-range_with_len numbered_name 0 m in
    let long = blocks-length (class_nodes m) (λ i. refl) m in
    record {
      classes = omega (arith, named, few);
      parts = each-blocks HasFewParts (class_nodes m) m (λ i less. each-six HasFewParts _ _ _ _ _ _ (few-parts _ (omega arith)) (few-parts _ (omega arith)) (few-parts _ (omega arith)) (few-parts _ (omega arith)) (few-parts _ (omega arith)) (few-parts _ (omega arith)));
      depth = subst (λ z. greatest_of z ≤ 64) (sym (depths-are m)) (let h = three-deep m in omega (arith, h));
      nodes = omega (arith, long, few);
    }
