use Rattle.std.proofs.Common.{◌∙◌, ◌++◌, ◌∷◌, [], ap, sym, refl, map, length, Some, None}
use Rattle.std.specs.Prelude.{option_map, cond}
use Rattle.bz_model.specs.Spec.{Node}
use Rattle.class_system.specs.Views.{spec_node, number}
use Rattle.well_founded.specs.EmptyObjects.{answer_at}
use Rattle.pointing.specs.Forms.{Form, form_at}
use Rattle.pointing.specs.PointedForm.{how_many, pointed, pointed_class, copied, around}
use Rattle.pointing.specs.Building.{alternatives}
use Rattle.pointing.specs.declared.tasks.Task.TheVariants as task
use Rattle.pointing.proofs.Layouts.{on-both}
use Rattle.pointing.proofs.TaskSteps.{no-label, done-leaf, done-none, done-replaced, point-form, point-union, point-product, point-seq, points-inside, alternatives-inside, then-one, node-parts-inside, mark-tells, not-there, is-there}
use Rattle.pointing.proofs.building.point.Goals as goal

pub unreachable-requires : goal.unreachable-requires
unreachable-requires c = no-label c.args.system.now c.known.ensures.sound c.requires.unlabelled c.args.e.0 c.node.result.now c.node.ensures.node c.in-Set.is

pub returns-in-Empty : goal.returns-in-Empty
returns-in-Empty c = record {
  done = done-none c.args.system.now c.args.classes.now (task.Point c.args.e) c.args.tasks.now c.args.layout.now
      (point-form c.args.system.now c.args.classes.now c.known.ensures.sound c.args.e (Node.Empty c.in-Empty.field-0) (c.node.ensures.node ∙ ap (λ x. Some (spec_node x)) c.in-Empty.is) None (λ r. refl));
}

pub returns-in_ok-from_bytes-in-Atom : goal.returns-in_ok-from_bytes-in-Atom
returns-in_ok-from_bytes-in-Atom c = record {
  done = on-both c.leaf.result c.leaf.ensures.laid c.leaf.ensures.laid (λ laid again.
      done-leaf c.args.system.now c.args.classes.now (task.Point c.args.e) c.args.tasks.now c.args.layout.now c.leaf.new.self (Form.Atom c.in_ok-from_bytes-in-Atom.field-0) (Node.Atom c.in_ok-from_bytes-in-Atom.field-0)
      (point-form c.args.system.now c.args.classes.now c.known.ensures.sound c.args.e (Node.Atom c.in-Atom.field-0) (c.node.ensures.node ∙ ap (λ x. Some (spec_node x)) c.in-Atom.is) (Some (Form.Atom c.in_ok-from_bytes-in-Atom.field-0)) (λ r. ap (λ w. Some (Form.Atom w)) (sym c.in_ok-from_bytes-in-Atom.ensures)))
      (λ first. refl) refl laid);
}

pub returns-then-not-is_marked : goal.returns-then-not-is_marked
returns-then-not-is_marked c = record {
  done = done-none c.args.system.now c.args.classes.now (task.Point c.args.e) c.args.tasks.now c.args.layout.now
      (point-form c.args.system.now c.args.classes.now c.known.ensures.sound c.args.e (Node.Class c.in-Class.c.0) (c.node.ensures.node ∙ ap (λ x. Some (spec_node x)) c.in-Class.is) None
      (λ r. ap (λ b. cond b (Some (Form.Class (pointed_class c.args.classes.now c.in-Class.c.0))) None) (sym c.is_marked.ensures ∙ c.if-not-is_marked.true)));
}

pub returns-else-not-is_marked : goal.returns-else-not-is_marked
returns-else-not-is_marked c = record {
  done = on-both c.leaf-in-Class.result c.leaf-in-Class.ensures.laid c.leaf-in-Class.ensures.laid (λ laid again.
      done-leaf c.args.system.now c.args.classes.now (task.Point c.args.e) c.args.tasks.now c.args.layout.now c.leaf-in-Class.new.self (Form.Class c.count_first-class.result) (Node.Class c.count_first-class.result)
      (point-form c.args.system.now c.args.classes.now c.known.ensures.sound c.args.e (Node.Class c.in-Class.c.0) (c.node.ensures.node ∙ ap (λ x. Some (spec_node x)) c.in-Class.is) (Some (Form.Class c.count_first-class.result))
      (λ r. ap (λ b. cond b (Some (Form.Class (pointed_class c.args.classes.now c.in-Class.c.0))) None) (sym c.is_marked.ensures ∙ c.if-not-is_marked.false) ∙ ap (λ k. Some (Form.Class k)) (sym c.count_first-class.ensures.count)))
      (λ first. refl) refl laid);
}

pub returns-in_ok-push-in-Union : goal.returns-in_ok-push-in-Union
returns-in_ok-push-in-Union c =
    let ps = c.items.result.now in
    let at = c.node.ensures.node ∙ ap (λ x. Some (spec_node x)) c.in-Union.is ∙ ap (λ z. Some (Node.Union (map number z))) (sym c.items.ensures.items) in
    let n = c.count_marked.result in
    let more = c.deref.ensures.value ∙ c.in_ok-push-in-Union.ensures.items ∙ ap (λ z. z ++ task.Choice n ∷ []) (c.in_ok-push_points-in-Union.ensures.ok ∙ ap (λ z. z ++ map task.Point ps) c.new-more.ensures.items) in
    record {
      done = on-both c.push_all.result c.push_all.ensures.ok c.push_all.ensures.ok (λ put again.
          done-replaced c.args.system.now c.args.classes.now (task.Point c.args.e) (map task.Point ps ++ task.Choice n ∷ []) c.args.tasks.now c.push_all.new.self c.args.layout.now (put ∙ ap (λ z. z ++ c.args.tasks.now) more)
          (then-one (length c.args.system.now.nodes) (map task.Point ps) (task.Choice n) (points-inside (length c.args.system.now.nodes) ps (node-parts-inside c.args.system.now c.known.ensures.sound c.args.e.0 (Node.Union (map number ps)) ps at refl)) tt)
          (λ fs. point-union c.args.system.now c.args.classes.now c.args.nodes.now c.requires.nodes n ps fs (c.count_marked.ensures.count ∙ ap (λ z. how_many (map (answer_at c.args.nodes.now) (map number z))) (c.items-in-Union.ensures.items ∙ sym c.items.ensures.items))
          ∙ sym (point-form c.args.system.now c.args.classes.now c.known.ensures.sound c.args.e (Node.Union (map number ps)) at _ (λ r. refl) fs)));
    }

pub returns-in_ok-push-in-Product : goal.returns-in_ok-push-in-Product
returns-in_ok-push-in-Product c =
    let ps = c.items-in-Product.result.now in
    let at = c.node.ensures.node ∙ ap (λ x. Some (spec_node x)) c.in-Product.is ∙ ap (λ z. Some (Node.Product (map number z))) (sym c.items-in-Product.ensures.items) in
    let n = c.count_marked-in-Product.result in
    let more = c.deref-in-Product.ensures.value ∙ c.in_ok-push-in-Product.ensures.items ∙ ap (λ z. z ++ task.Choice n ∷ []) c.in_ok-more-in-Product.ensures in
    record {
      done = on-both c.push_all-in-Product.result c.push_all-in-Product.ensures.ok c.push_all-in-Product.ensures.ok (λ put again.
          done-replaced c.args.system.now c.args.classes.now (task.Point c.args.e) (alternatives (length ps) c.args.nodes.now [] ps ++ task.Choice n ∷ []) c.args.tasks.now c.push_all-in-Product.new.self c.args.layout.now (put ∙ ap (λ z. z ++ c.args.tasks.now) more)
          (then-one (length c.args.system.now.nodes) (alternatives (length ps) c.args.nodes.now [] ps) (task.Choice n) (alternatives-inside (length c.args.system.now.nodes) (length ps) c.args.nodes.now [] ps tt (node-parts-inside c.args.system.now c.known.ensures.sound c.args.e.0 (Node.Product (map number ps)) ps at refl)) tt)
          (λ fs. point-product c.args.system.now c.args.classes.now c.args.nodes.now c.requires.nodes n ps fs (c.count_marked-in-Product.ensures.count ∙ ap (λ z. how_many (map (answer_at c.args.nodes.now) (map number z))) (c.items-in-Product-2.ensures.items ∙ sym c.items-in-Product.ensures.items))
          ∙ sym (point-form c.args.system.now c.args.classes.now c.known.ensures.sound c.args.e (Node.Product (map number ps)) at _ (λ r. refl) fs)));
    }

pub returns-then-not-is_marked-2 : goal.returns-then-not-is_marked-2
returns-then-not-is_marked-2 c = record {
  done = done-none c.args.system.now c.args.classes.now (task.Point c.args.e) c.args.tasks.now c.args.layout.now
      (point-form c.args.system.now c.args.classes.now c.known.ensures.sound c.args.e (Node.Seq c.in-Seq.part.0) (c.node.ensures.node ∙ ap (λ x. Some (spec_node x)) c.in-Seq.is) None
      (λ r. ap (option_map (around (copied c.args.classes.now (form_at c.args.system.now c.in-Seq.part.0)))) (not-there (pointed c.args.classes.now (form_at c.args.system.now c.in-Seq.part.0)) (sym c.if-not-is_marked-2.true ∙ c.is_marked-in-Seq.ensures ∙ mark-tells c.args.system.now c.args.classes.now c.args.nodes.now c.requires.nodes c.in-Seq.part.0))));
}

pub returns-else-not-is_marked-2 : goal.returns-else-not-is_marked-2
returns-else-not-is_marked-2 c =
    let at = c.node.ensures.node ∙ ap (λ x. Some (spec_node x)) c.in-Seq.is in
    let p = c.in-Seq.part in
    let inside = (node-parts-inside c.args.system.now c.known.ensures.sound c.args.e.0 (Node.Seq p.0) (p ∷ []) at refl).0 in
    let q = is-there (pointed c.args.classes.now (form_at c.args.system.now p.0)) (sym c.if-not-is_marked-2.false ∙ c.is_marked-in-Seq.ensures ∙ mark-tells c.args.system.now c.args.classes.now c.args.nodes.now c.requires.nodes p.0) in
    record {
      done = on-both c.push_all-in-Seq.result c.push_all-in-Seq.ensures.ok c.push_all-in-Seq.ensures.ok (λ put again.
          done-replaced c.args.system.now c.args.classes.now (task.Point c.args.e) (task.Copy p ∷ task.Seq ∷ task.Point p ∷ task.Copy p ∷ task.Seq ∷ task.Product 3 ∷ []) c.args.tasks.now c.push_all-in-Seq.new.self c.args.layout.now put
          (inside, (tt, (inside, (inside, (tt, (tt, tt))))))
          (λ fs. point-seq c.args.system.now c.args.classes.now p q.0 fs q.1
          ∙ sym (point-form c.args.system.now c.args.classes.now c.known.ensures.sound c.args.e (Node.Seq p.0) at (Some (around (copied c.args.classes.now (form_at c.args.system.now p.0)) q.0)) (λ r. ap (option_map (around (copied c.args.classes.now (form_at c.args.system.now p.0)))) q.1) fs)));
    }
