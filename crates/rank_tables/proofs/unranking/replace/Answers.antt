use Rattle.std.proofs.Common.{◌≡◌, ◌∙◌, ◌<◌, [], ◌∷◌, ◌++◌, Some, map, length, get_or, arith, refl, sym, ap, subst, inl, inr}
use Rattle.std.specs.List.{AllByRecursion}
use Rattle.std.specs.Prelude.{slice_get}
use Rattle.bz_model.specs.Spec.{Node}
use Rattle.class_system.specs.Views.{number}
use Rattle.class_system.proofs.Soundness.{class_in_range, body_in_range, product_parts}
use Rattle.class_system.proofs.Results.{mapped-at}
use Rattle.object_store.specs.declared.token.Token.TheVariants as token
use Rattle.rank_tables.specs.Grids.{number_at, AreSuffixes}
use Rattle.rank_tables.specs.TableRule.{tuples, entry_of_body}
use Rattle.rank_tables.specs.Unranking.{AreTupleTasks}
use Rattle.rank_tables.proofs.Cells.{part-small}
use Rattle.rank_tables.specs.Visits as visits
use Rattle.rank_tables.proofs.NodeParts.{node-is, parts-inside}
use Rattle.rank_tables.proofs.Rankable.{two-modes}
use Rattle.rank_tables.proofs.Replaced.{union-found, found-inside, empty-replaced, atom-replaced, class-replaced, union-replaced, tuple-replaced, list-replaced}
use Rattle.rank_tables.proofs.Suffixes.{mapped-length}
use Rattle.rank_tables.proofs.unranking.replace.Goals as goal

pub body-requires : goal.body-requires
body-requires c = record { in_range = class_in_range c.args.system.now c.known.ensures.sound c.args.task.node.0 c.in-Class.c.0 (node-is c.args.system.now c.args.task.node.0 c.node.result.now _ c.node.ensures.node c.in-Class.is) }

pub find_part-found-requires-clause-nodes : goal.find_part-found-requires-clause-nodes
find_part-found-requires-clause-nodes c =
    subst (λ ps. AllByRecursion (λ p. p < c.args.counts.now.nodes) (map number ps)) (sym c.items-options.ensures.items)
    (parts-inside c.args.system.now c.known.ensures.sound c.args.task.node.0 c.args.counts.now.nodes _ (node-is c.args.system.now c.args.task.node.0 c.node.result.now _ c.node.ensures.node c.in-Union.is) c.requires.counted.each_node)

pub overflow_cast-found : goal.overflow_cast-found
overflow_cast-found c =
    let k = union-found c.args.system.now c.args.counts.now c.args.tails.now c.args.task c.in-Union.parts c.items-options.result.now c.find_part-found.result c.requires.counted c.requires.task (node-is c.args.system.now c.args.task.node.0 c.node.result.now _ c.node.ensures.node c.in-Union.is) c.items-options.ensures.items c.find_part-found.ensures in
    let inside = found-inside _ c.in-Union.parts c.items-options.result.now _ c.find_part-found.result c.items-options.ensures.items k in
    let few = (c.known.ensures.limits.parts.at c.args.task.node.0 _ (node-is c.args.system.now c.args.task.node.0 c.node.result.now _ c.node.ensures.node c.in-Union.is)).few in
    let long = mapped-length c.in-Union.parts in
    let as_long : length c.items-options.result.now ≡ length c.in-Union.parts = ap length c.items-options.ensures.items in
    omega arith

pub offset_bounds-options-found : goal.offset_bounds-options-found
offset_bounds-options-found c =
    let k = union-found c.args.system.now c.args.counts.now c.args.tails.now c.args.task c.in-Union.parts c.items-options.result.now c.find_part-found.result c.requires.counted c.requires.task (node-is c.args.system.now c.args.task.node.0 c.node.result.now _ c.node.ensures.node c.in-Union.is) c.items-options.ensures.items c.find_part-found.ensures in
    let inside = found-inside _ c.in-Union.parts c.items-options.result.now _ c.find_part-found.result c.items-options.ensures.items k in
    let few = (c.known.ensures.limits.parts.at c.args.task.node.0 _ (node-is c.args.system.now c.args.task.node.0 c.node.result.now _ c.node.ensures.node c.in-Union.is)).few in
    let long = mapped-length c.in-Union.parts in
    let as_long : length c.items-options.result.now ≡ length c.in-Union.parts = ap length c.items-options.ensures.items in
    omega arith

pub bounds-options-found : goal.bounds-options-found
bounds-options-found c =
    let k = union-found c.args.system.now c.args.counts.now c.args.tails.now c.args.task c.in-Union.parts c.items-options.result.now c.find_part-found.result c.requires.counted c.requires.task (node-is c.args.system.now c.args.task.node.0 c.node.result.now _ c.node.ensures.node c.in-Union.is) c.items-options.ensures.items c.find_part-found.ensures in
    found-inside _ c.in-Union.parts c.items-options.result.now _ c.find_part-found.result c.items-options.ensures.items k

pub tuple_tasks-requires-clause-some : goal.tuple_tasks-requires-clause-some
tuple_tasks-requires-clause-some c =
    let two = product_parts c.args.system.now c.known.ensures.sound c.args.task.node.0 _ (node-is c.args.system.now c.args.task.node.0 c.node.result.now _ c.node.ensures.node c.in-Product.is) in
    let long = mapped-length c.in-Product.parts in
    let as_long : length c.items.result.now ≡ length c.in-Product.parts = ap length c.items.ensures.items in
    omega arith

pub tuple_tasks-requires-clause-nodes : goal.tuple_tasks-requires-clause-nodes
tuple_tasks-requires-clause-nodes c =
    subst (λ ps. AllByRecursion (λ p. p < c.args.counts.now.nodes) (map number ps)) (sym c.items.ensures.items)
    (parts-inside c.args.system.now c.known.ensures.sound c.args.task.node.0 c.args.counts.now.nodes _ (node-is c.args.system.now c.args.task.node.0 c.node.result.now _ c.node.ensures.node c.in-Product.is) c.requires.counted.each_node)

pub tuple_tasks-requires-clause-tails : goal.tuple_tasks-requires-clause-tails
tuple_tasks-requires-clause-tails c =
    let fits = c.requires.task.fits in
    λ m le. subst (λ ps. AreSuffixes (number_at c.args.counts.now) c.args.tails.now (map number ps) m) (sym c.items.ensures.items)
    (subst (λ ps. AreSuffixes (number_at c.args.counts.now) c.args.tails.now ps m) (ap visits.product_parts (node-is c.args.system.now c.args.task.node.0 c.node.result.now _ c.node.ensures.node c.in-Product.is)) (c.requires.counted.each_tail m (omega arith) c.args.task.node.0))

pub tuple_tasks-requires-clause-small : goal.tuple_tasks-requires-clause-small
tuple_tasks-requires-clause-small c =
    let row = c.requires.counted.rows c.args.task.node.0 c.args.task.size _ c.requires.task.fits (node-is c.args.system.now c.args.task.node.0 c.node.result.now _ c.node.ensures.node c.in-Product.is) in
    let small = c.requires.task.small in
    subst (λ ps. c.args.task.number < tuples (number_at c.args.counts.now) (map number ps) c.args.task.size) (sym c.items.ensures.items) (omega arith)

pub list_tasks-requires-clause-part : goal.list_tasks-requires-clause-part
list_tasks-requires-clause-part c = parts-inside c.args.system.now c.known.ensures.sound c.args.task.node.0 c.args.counts.now.nodes _ (node-is c.args.system.now c.args.task.node.0 c.node.result.now _ c.node.ensures.node c.in-Seq.is) c.requires.counted.each_node

pub list_tasks-requires-clause-row : goal.list_tasks-requires-clause-row
list_tasks-requires-clause-row c =
    let fits = c.requires.task.fits in
    λ m le. c.requires.counted.rows c.args.task.node.0 m _ (omega arith) (node-is c.args.system.now c.args.task.node.0 c.node.result.now _ c.node.ensures.node c.in-Seq.is)

pub unreachable-requires : goal.unreachable-requires
unreachable-requires c = two-modes (sym c.requires.unlabelled ∙ elim c.in-Set.is [
  | inl k ↦ c.known.ensures.sound.modes.at c.args.task.node.0 (Node.Set (k.0).0) (node-is c.args.system.now c.args.task.node.0 c.node.result.now _ c.node.ensures.node k.1)
  | inr k ↦ c.known.ensures.sound.modes.at c.args.task.node.0 (Node.Cyc (k.0).0) (node-is c.args.system.now c.args.task.node.0 c.node.result.now _ c.node.ensures.node k.1)
])

pub returns-in_ok-push-in-Empty : goal.returns-in_ok-push-in-Empty
returns-in_ok-push-in-Empty c = record { replaced = empty-replaced c.args.system.now (number_at c.args.counts.now) c.args.counts.now.sizes c.args.task c.requires.task c.args.tasks.now c.args.shape.now.items _ c.args.tasks.now c.push.new.self.items (node-is c.args.system.now c.args.task.node.0 c.node.result.now _ c.node.ensures.node c.in-Empty.is) (c.requires.counted.rows c.args.task.node.0 c.args.task.size _ c.requires.task.fits (node-is c.args.system.now c.args.task.node.0 c.node.result.now _ c.node.ensures.node c.in-Empty.is)) refl c.in_ok-push-in-Empty.ensures.ok }

pub returns-in_ok-push-in-Atom : goal.returns-in_ok-push-in-Atom
returns-in_ok-push-in-Atom c = record { replaced = atom-replaced c.args.system.now (number_at c.args.counts.now) c.args.counts.now.sizes c.args.task c.requires.task c.args.tasks.now c.args.shape.now.items _ c.args.tasks.now c.push-in-Atom.new.self.items (node-is c.args.system.now c.args.task.node.0 c.node.result.now _ c.node.ensures.node c.in-Atom.is) (c.requires.counted.rows c.args.task.node.0 c.args.task.size _ c.requires.task.fits (node-is c.args.system.now c.args.task.node.0 c.node.result.now _ c.node.ensures.node c.in-Atom.is)) refl c.in_ok-push-in-Atom.ensures.ok }

pub returns-in_ok-push-in-Class : goal.returns-in_ok-push-in-Class
returns-in_ok-push-in-Class c = record {
  replaced = class-replaced c.args.system.now (number_at c.args.counts.now) c.args.counts.now.sizes c.args.task c.requires.task c.args.tasks.now c.args.shape.now.items c.in-Class.c.0 (record { node = c.body.result; size = c.args.task.size; number = c.args.task.number }) c.push-in-Class.new.self c.args.shape.now.items (node-is c.args.system.now c.args.task.node.0 c.node.result.now _ c.node.ensures.node c.in-Class.is) c.body.ensures.body
      (body_in_range c.args.system.now c.known.ensures.sound c.in-Class.c.0 c.body.result.0 c.body.ensures.body) refl refl
      ((c.requires.counted.rows c.args.task.node.0 c.args.task.size _ c.requires.task.fits (node-is c.args.system.now c.args.task.node.0 c.node.result.now _ c.node.ensures.node c.in-Class.is)) ∙ ap (λ o. entry_of_body (number_at c.args.counts.now) o c.args.task.size) c.body.ensures.body)
      c.in_ok-push-in-Class.ensures.ok refl;
}

pub returns-in_ok-push-in-Union-2 : goal.returns-in_ok-push-in-Union-2
returns-in_ok-push-in-Union-2 c =
    let k = union-found c.args.system.now c.args.counts.now c.args.tails.now c.args.task c.in-Union.parts c.items-options.result.now c.find_part-found.result c.requires.counted c.requires.task (node-is c.args.system.now c.args.task.node.0 c.node.result.now _ c.node.ensures.node c.in-Union.is) c.items-options.ensures.items c.find_part-found.ensures in
    let lt = found-inside _ c.in-Union.parts c.items-options.result.now _ c.find_part-found.result c.items-options.ensures.items k in
    let part = part-small c.args.counts.now.nodes c.find_part-found.result.option (record { 0 = 0 }) c.items-options.result.now lt
    (subst (λ ps. AllByRecursion (λ p. p < c.args.counts.now.nodes) (map number ps)) (sym c.items-options.ensures.items) (parts-inside c.args.system.now c.known.ensures.sound c.args.task.node.0 c.args.counts.now.nodes _ (node-is c.args.system.now c.args.task.node.0 c.node.result.now _ c.node.ensures.node c.in-Union.is) c.requires.counted.each_node)) in
    let nodes = c.requires.counted.each_node in
    record {
      replaced = union-replaced c.args.system.now (number_at c.args.counts.now) c.args.counts.now.sizes c.args.task c.requires.task c.args.tasks.now c.args.shape.now.items (map number c.in-Union.parts) c.find_part-found.result (record { node = get_or c.items-options.result.now c.find_part-found.result.option (record { 0 = 0 }); size = c.args.task.size; number = c.find_part-found.result.number }) c.push-in-Union-2.new.self c.push-in-Union.new.self.items (node-is c.args.system.now c.args.task.node.0 c.node.result.now _ c.node.ensures.node c.in-Union.is) k
          (subst (λ z. slice_get (map number z) c.find_part-found.result.option ≡ Some (get_or c.items-options.result.now c.find_part-found.result.option (record { 0 = 0 })).0) c.items-options.ensures.items (mapped-at number c.items-options.result.now c.find_part-found.result.option (record { 0 = 0 }) lt))
          (omega arith) refl refl c.in_ok-push-in-Union-2.ensures.ok c.in_ok-push-in-Union.ensures.ok;
    }

pub returns-in_ok-push_all-in-Product : goal.returns-in_ok-push_all-in-Product
returns-in_ok-push_all-in-Product c = record {
  replaced = tuple-replaced c.args.system.now (number_at c.args.counts.now) c.args.counts.now.sizes c.args.task c.requires.task c.args.tasks.now c.args.shape.now.items (map number c.in-Product.parts) c.in_ok-objects-in-Product.objects.items c.push_all.new.self c.args.shape.now.items (node-is c.args.system.now c.args.task.node.0 c.node.result.now _ c.node.ensures.node c.in-Product.is)
      (subst (λ ps. AreTupleTasks c.args.system.now (number_at c.args.counts.now) (map number ps) c.args.task.size c.args.task.number c.in_ok-objects-in-Product.objects.items) c.items.ensures.items (c.in_ok-objects-in-Product.ensures.tasks c.args.system.now))
      (parts-inside c.args.system.now c.known.ensures.sound c.args.task.node.0 (length c.args.system.now.nodes) _ (node-is c.args.system.now c.args.task.node.0 c.node.result.now _ c.node.ensures.node c.in-Product.is) refl)
      (c.in_ok-push_all-in-Product.ensures.ok ∙ ap (λ z. z ++ c.args.tasks.now) c.deref.ensures.value) refl;
}

pub returns-in_ok-push_all-in-Seq : goal.returns-in_ok-push_all-in-Seq
returns-in_ok-push_all-in-Seq c =
    let long : c.len.result ≡ length c.in_ok-objects-in-Seq.objects.items = omega (arith, c.len.ensures, c.in_ok-objects-in-Seq.objects.ok.0) in
    record {
      replaced = list-replaced c.args.system.now (number_at c.args.counts.now) c.args.counts.now.sizes c.args.task c.requires.task c.args.tasks.now c.args.shape.now.items c.in-Seq.part.0 c.in_ok-objects-in-Seq.objects.items c.push_all-in-Seq.new.self c.push-in-Seq.new.self.items (node-is c.args.system.now c.args.task.node.0 c.node.result.now _ c.node.ensures.node c.in-Seq.is)
          (c.in_ok-objects-in-Seq.ensures.tasks c.args.system.now)
          (parts-inside c.args.system.now c.known.ensures.sound c.args.task.node.0 (length c.args.system.now.nodes) _ (node-is c.args.system.now c.args.task.node.0 c.node.result.now _ c.node.ensures.node c.in-Seq.is) refl)
          (c.in_ok-push_all-in-Seq.ensures.ok ∙ ap (λ z. z ++ c.args.tasks.now) c.deref-in-Seq.ensures.value)
          (c.in_ok-push-in-Seq.ensures.ok ∙ ap (λ z. c.args.shape.now.items ++ token.Count z ∷ []) long);
    }
