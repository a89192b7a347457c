-- The canonical text of the tables.
use Rattle.std.proofs.Common.{◌≡◌, ℕ, ◌+◌, ◌*◌, ◌<◌, ◌≤◌, List, [], ◌∷◌, ◌++◌, length, map, refl, ◌∙◌, ap, arith, append_assoc, Some, slice_get}
use Rattle.std.specs.Prelude.{flat_map, zip, codes, unwrap_or}
use Rattle.std.specs.List.{range_with_len}
use Rattle.std.proofs.lemmas.List.Folds.{flat_map-map}
use Rattle.bz_model.specs.Spec.{Node}
use Rattle.class_system.specs.NodeResults.{node_results}
use Rattle.class_system.specs.CanonicalText.{Shown, single, shown_at, part_text, separated, node_shown, canonical_class_line, class_line, all_shown, canonical_text}
use Rattle.class_system.specs.declared.canonical.Form.TheVariants as form
use Rattle.bulk_command.specs.BulkTables.{class_nodes, all_nodes, tables_of}
use Rattle.bulk_command.specs.BulkText.{numbered_name, next_class, rule_line}
use Rattle.bulk_command.proofs.Blocks.{blocks-length, blocks-same, at-behind, at-block, at-mapped}
use Rattle.bulk_command.proofs.Results.{with_range, zip-plain, six-on, blocks-on}
use Rattle.bulk_command.proofs.Sounds.{next-below}

-- the product of a class, and its union
abbrev product_text : (m class : ℕ) → List ℕ
product_text m class = codes "Z*" ++ (numbered_name class ++ (codes "*" ++ numbered_name (next_class m class)))

-- a product and a union are shown with their texts
abbrev as_product : (text : List ℕ) → Shown
as_product text = record { form = form.Multiplied; text = text }

abbrev as_union : (text : List ℕ) → Shown
as_union text = record { form = form.Summed; text = text }

-- what is shown of the nodes of a class
abbrev class_shown : (m class : ℕ) → List Shown
class_shown m class =
    single (codes "E")
    ∷ single (codes "Z")
    ∷ single (numbered_name class)
    ∷ single (numbered_name (next_class m class))
    ∷ as_product (product_text m class)
    ∷ as_union (codes "E + " ++ product_text m class)
    ∷ []

abbrev names : (m : ℕ) → List (List ℕ)
names m = map numbered_name (range_with_len 0 m)

-- what is shown at a place
is-shown : (shown : List Shown) (i : ℕ) (v : Shown) → slice_get shown i ≡ Some v → shown_at shown i ≡ v
is-shown shown i v at = ap (λ o. unwrap_or o (single [])) at

is-named : (m class : ℕ) → class < m → single (unwrap_or (slice_get (names m) class) []) ≡ single (numbered_name class)
is-named m class less = ap (λ o. single (unwrap_or o [])) (at-mapped numbered_name m class less)

-- three parts of a product, and two of a union
three-parts : (a b c u v w : Shown) → a ≡ u → b ≡ v → c ≡ w → as_product (separated (codes "*") (part_text form.Multiplied a ∷ part_text form.Multiplied b ∷ part_text form.Multiplied c ∷ [])) ≡ as_product (separated (codes "*") (part_text form.Multiplied u ∷ part_text form.Multiplied v ∷ part_text form.Multiplied w ∷ []))
three-parts a b c u v w e f g = cc

two-parts : (a b u v : Shown) → a ≡ u → b ≡ v → as_union (separated (codes " + ") (part_text form.Summed a ∷ part_text form.Summed b ∷ [])) ≡ as_union (separated (codes " + ") (part_text form.Summed u ∷ part_text form.Summed v ∷ []))
two-parts a b u v e f = cc

-- the nodes of a class are shown after those of the classes before it
class-on : (m class : ℕ) → 2 ≤ m → class < m → (before : List Shown) → length before ≡ 6 * class → node_results (node_shown (names m)) before (map with_range (class_nodes m class)) ≡ before ++ class_shown m class
class-on m class some less before long =
    let e = single (codes "E") in
    let z = single (codes "Z") in
    let a = single (numbered_name class) in
    let b = single (numbered_name (next_class m class)) in
    let p : Shown = as_product (product_text m class) in
    let u : Shown = as_union (codes "E + " ++ product_text m class) in
    let four = e ∷ z ∷ a ∷ b ∷ [] in
    let five = e ∷ z ∷ a ∷ b ∷ p ∷ [] in
    six-on (node_shown (names m)) before (Node.Empty []) (Node.Atom []) (Node.Class class) (Node.Class (next_class m class)) (Node.Product ((6 * class + 1) ∷ (6 * class + 2) ∷ (6 * class + 3) ∷ [])) (Node.Union ((6 * class) ∷ (6 * class + 4) ∷ [])) e z a b p u
    refl
    refl
    (is-named m class less)
    (is-named m (next_class m class) (next-below m class some))
    (three-parts (shown_at (before ++ four) (6 * class + 1)) (shown_at (before ++ four) (6 * class + 2)) (shown_at (before ++ four) (6 * class + 3)) z a b
    (is-shown (before ++ four) (6 * class + 1) z (at-behind before four (6 * class + 1) 1 (omega (arith, long))))
    (is-shown (before ++ four) (6 * class + 2) a (at-behind before four (6 * class + 2) 2 (omega (arith, long))))
    (is-shown (before ++ four) (6 * class + 3) b (at-behind before four (6 * class + 3) 3 (omega (arith, long))))
    ∙ ap (λ t. as_product (codes "Z*" ++ t)) (append_assoc (numbered_name class) (codes "*") (numbered_name (next_class m class))))
    (two-parts (shown_at (before ++ five) (6 * class)) (shown_at (before ++ five) (6 * class + 4)) e p
    (is-shown (before ++ five) (6 * class) e (at-behind before five (6 * class) 0 (omega (arith, long))))
    (is-shown (before ++ five) (6 * class + 4) p (at-behind before five (6 * class + 4) 4 (omega (arith, long)))))

all-on : (m : ℕ) → 2 ≤ m → all_shown (tables_of m) ≡ flat_map (class_shown m) (range_with_len 0 m)
all-on m some =
    ap (node_results (node_shown (names m)) []) (zip-plain (all_nodes m))
    ∙ blocks-on (node_shown (names m)) (class_nodes m) (class_shown m) m (λ i less. class-on m i some less (flat_map (class_shown m) (range_with_len 0 i)) (blocks-length (class_shown m) (λ j. refl) i))

-- the names with their bodies
zip-mapped : {X Y Z : Type 0} (f : X → Y) (g : X → Z) (xs : List X) → zip (map f xs) (map g xs) ≡ map (λ x. (f x, g x)) xs
zip-mapped f g [] = refl
zip-mapped f g (x ∷ xs) = ap (λ z. (f x, g x) ∷ z) (zip-mapped f g xs)

-- the line of a class
line-is : (name other : List ℕ) (v : Shown) → v ≡ as_union (codes "E + Z*" ++ (name ++ (codes "*" ++ other))) → canonical_class_line name v ≡ name ++ (codes " = E + Z*" ++ (name ++ (codes "*" ++ (other ++ 10 ∷ []))))
line-is name other v e =
    let text = codes "E + Z*" ++ (name ++ (codes "*" ++ other)) in
    ap (canonical_class_line name) e
    ∙ append_assoc (name ++ codes " = ") text (10 ∷ [])
    ∙ append_assoc name (codes " = ") (text ++ 10 ∷ [])
    ∙ ap (λ z. name ++ (codes " = E + Z*" ++ z)) (append_assoc name (codes "*" ++ other) (10 ∷ []))

-- The canonical text of the tables of m classes, at least two, is the line of the mode followed by
-- the rule of each class in order.
pub canonical-is : (m : ℕ) → 2 ≤ m → canonical_text (tables_of m) ≡ codes "unlabelled" ++ (10 ∷ [] ++ flat_map (rule_line m) (range_with_len 0 m))
canonical-is m some =
    let shown = all_shown (tables_of m) in
    ap (λ t. codes "unlabelled" ++ (10 ∷ [] ++ t))
    (ap (flat_map (class_line shown)) (zip-mapped numbered_name (λ class. 6 * class + 5) (range_with_len 0 m))
    ∙ flat_map-map (class_line shown) (λ class. (numbered_name class, 6 * class + 5)) (range_with_len 0 m)
    ∙ blocks-same (λ class. class_line shown (numbered_name class, 6 * class + 5)) (rule_line m) m (λ i less. line-is (numbered_name i) (numbered_name (next_class m i)) (shown_at shown (6 * i + 5)) (is-shown shown (6 * i + 5) _ (ap (λ z. slice_get z (6 * i + 5)) (all-on m some) ∙ at-block (class_shown m) (λ j. refl) m i 5 _ less refl))))
