use Rattle.std.proofs.Common.{◌≡◌, ◌<◌, length, map, get_or, arith, sym, ◌∙◌, ap, subst, None, Some, inl, inr}
use Rattle.std.specs.Prelude.{unwrap_or}
use Rattle.std.specs.List.{AllByRecursion}
use Rattle.std.proofs.lemmas.Option.{slice_get-get_or}
use Rattle.bz_model.specs.Spec.{Node}
use Rattle.bz_model.specs.Totals.{IsDistinct}
use Rattle.class_system.specs.Views.{number}
use Rattle.class_system.proofs.Soundness.{class_in_range, product_parts}
use Rattle.rank_tables.specs.Capped.{Tells}
use Rattle.rank_tables.specs.Filling.{count_of_class}
use Rattle.rank_tables.specs.Grids.{number_at, number_of}
use Rattle.rank_tables.specs.Visits as visits
use Rattle.rank_tables.specs.TableRule.{tuples}
use Rattle.rank_tables.proofs.Apart.{distinct-parts}
use Rattle.rank_tables.proofs.Cells.{part-small, tells-itself}
use Rattle.rank_tables.proofs.NodeParts.{node-is, parts-inside, tells-kind, first-tail}
use Rattle.rank_tables.proofs.Rankable.{two-modes}
use Rattle.rank_tables.proofs.Suffixes.{mapped-length}
use Rattle.rank_tables.proofs.filling.number_of_node.Goals as goal

pub bounds-classes-c : goal.bounds-classes-c
bounds-classes-c c = let k = class_in_range c.args.system.now c.known.ensures.sound c.args.e.0 c.in-Class.c.0 (node-is c.args.system.now c.args.e.0 c.node.result.now _ c.node.ensures.node c.in-Class.is) in omega arith

pub sum_of_parts-requires-clause-nodes : goal.sum_of_parts-requires-clause-nodes
sum_of_parts-requires-clause-nodes c =
    subst (λ ps. AllByRecursion (λ p. p < c.args.rows.now.nodes) (map number ps)) (sym c.items.ensures.items)
    (parts-inside c.args.system.now c.known.ensures.sound c.args.e.0 c.args.rows.now.nodes _ (node-is c.args.system.now c.args.e.0 c.node.result.now _ c.node.ensures.node c.in-Union.is) c.requires.rows.each_node)

pub set_suffixes-requires-clause-parts : goal.set_suffixes-requires-clause-parts
set_suffixes-requires-clause-parts c =
    subst (λ ps. AllByRecursion (λ p. p < c.args.rows.now.nodes) (map number ps)) (sym c.items-items.ensures.items)
    (parts-inside c.args.system.now c.known.ensures.sound c.args.e.0 c.args.rows.now.nodes _ (node-is c.args.system.now c.args.e.0 c.node.result.now _ c.node.ensures.node c.in-Product.is) c.requires.rows.each_node)

pub set_suffixes-requires-clause-apart : goal.set_suffixes-requires-clause-apart
set_suffixes-requires-clause-apart c =
    subst (λ ps. IsDistinct (map number ps)) (sym c.items-items.ensures.items)
    (subst IsDistinct (ap visits.product_parts (node-is c.args.system.now c.args.e.0 c.node.result.now _ c.node.ensures.node c.in-Product.is)) (distinct-parts c.args.system.now c.known.ensures.sound c.args.e.0))

pub bounds-items-0 : goal.bounds-items-0
bounds-items-0 c =
    let at = node-is c.args.system.now c.args.e.0 c.node.result.now _ c.node.ensures.node c.in-Product.is in
    let two = product_parts c.args.system.now c.known.ensures.sound c.args.e.0 _ at in
    let same = mapped-length c.in-Product.parts in
    let items : length c.items-items.result.now ≡ length c.in-Product.parts = ap length c.items-items.ensures.items in
    omega arith

pub at-requires-clause-node : goal.at-requires-clause-node
at-requires-clause-node c =
    let at = node-is c.args.system.now c.args.e.0 c.node.result.now _ c.node.ensures.node c.in-Product.is in
    let two = product_parts c.args.system.now c.known.ensures.sound c.args.e.0 _ at in
    let same = mapped-length c.in-Product.parts in
    let items : length c.items-items.result.now ≡ length c.in-Product.parts = ap length c.items-items.ensures.items in
    let k = part-small c.args.rows.now.nodes 0 (record { 0 = 0 }) c.items-items.result.now (omega arith)
    (subst (λ ps. AllByRecursion (λ p. p < c.args.rows.now.nodes) (map number ps)) (sym c.items-items.ensures.items) (parts-inside c.args.system.now c.known.ensures.sound c.args.e.0 c.args.rows.now.nodes _ at c.requires.rows.each_node)) in
    let tails = c.requires.tails.each_node in
    let rows = c.requires.rows.each_node in
    let kept = c.set_suffixes.ensures.nodes in
    omega arith

pub sequence-requires-clause-part : goal.sequence-requires-clause-part
sequence-requires-clause-part c = parts-inside c.args.system.now c.known.ensures.sound c.args.e.0 c.args.rows.now.nodes _ (node-is c.args.system.now c.args.e.0 c.node.result.now _ c.node.ensures.node c.in-Seq.is) c.requires.rows.each_node

pub unreachable-requires : goal.unreachable-requires
unreachable-requires c = two-modes (sym c.requires.unlabelled ∙ elim c.in-Set.is [
  | inl k ↦ c.known.ensures.sound.modes.at c.args.e.0 (Node.Set (k.0).0) (node-is c.args.system.now c.args.e.0 c.node.result.now _ c.node.ensures.node k.1)
  | inr k ↦ c.known.ensures.sound.modes.at c.args.e.0 (Node.Cyc (k.0).0) (node-is c.args.system.now c.args.e.0 c.node.result.now _ c.node.ensures.node k.1)
])

pub returns-in-Class-clause-number : goal.returns-in-Class-clause-number
returns-in-Class-clause-number c =
    tells-kind c.args.system.now (λ k m. count_of_class c.args.classes.now k) (number_at c.args.rows.now) c.args.e.0 c.args.n _ _ (node-is c.args.system.now c.args.e.0 c.node.result.now _ c.node.ensures.node c.in-Class.is)
    (subst (λ o. Tells (get_or c.args.classes.now c.in-Class.c.0 None) (number_of (unwrap_or o (Some 0)))) (sym (slice_get-get_or c.args.classes.now c.in-Class.c.0 None (let k = class_in_range c.args.system.now c.known.ensures.sound c.args.e.0 c.in-Class.c.0 (node-is c.args.system.now c.args.e.0 c.node.result.now _ c.node.ensures.node c.in-Class.is) in omega arith))) (tells-itself (get_or c.args.classes.now c.in-Class.c.0 None)))

pub returns-in-Product-clause-number : goal.returns-in-Product-clause-number
returns-in-Product-clause-number c =
    let at = node-is c.args.system.now c.args.e.0 c.node.result.now _ c.node.ensures.node c.in-Product.is in
    let two = product_parts c.args.system.now c.known.ensures.sound c.args.e.0 _ at in
    let same = mapped-length c.in-Product.parts in
    let items : length c.items-items.result.now ≡ length c.in-Product.parts = ap length c.items-items.ensures.items in
    tells-kind c.args.system.now (λ k m. count_of_class c.args.classes.now k) (number_at c.args.rows.now) c.args.e.0 c.args.n _ _ at
    (subst (λ ps. Tells c.at.result (tuples (number_at c.args.rows.now) (map number ps) c.args.n)) c.items-items.ensures.items
    (subst (λ v. Tells v (tuples (number_at c.args.rows.now) (map number c.items-items.result.now) c.args.n)) (sym c.at.ensures.exact)
    (first-tail (number_at c.args.rows.now) c.set_suffixes.new.self c.items-items.result.now (record { 0 = 0 }) c.args.n (omega arith) c.set_suffixes.ensures.suffixes)))
