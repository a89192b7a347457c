use Rattle.std.proofs.Common.{◌∙◌, ◌++◌, ◌+◌, ◌∷◌, [], arith, ap, sym, refl, map, length, Some}
use Rattle.bz_model.specs.Spec.{Node}
use Rattle.class_system.specs.Views.{spec_node, number}
use Rattle.class_system.proofs.Soundness.{class_in_range}
use Rattle.pointing.specs.Forms.{Form}
use Rattle.pointing.specs.PointedForm.{how_many}
use Rattle.pointing.specs.declared.tasks.Task.TheVariants as task
use Rattle.std.proofs.lemmas.List.{take_all}
use Rattle.pointing.proofs.Layouts.{on-both}
use Rattle.pointing.proofs.TaskSteps.{no-label, done-leaf, done-replaced, copy-form, copy-union, copy-product, copy-seq, copies-inside, then-one, node-parts-inside}
use Rattle.pointing.proofs.building.copy.Goals as goal

pub unreachable-requires : goal.unreachable-requires
unreachable-requires c = no-label c.args.system.now c.known.ensures.sound c.requires.unlabelled c.args.e.0 c.node.result.now c.node.ensures.node c.in-Set.is

pub overflow_add-class : goal.overflow_add-class
overflow_add-class c =
    let lt = class_in_range c.args.system.now c.known.ensures.sound c.args.e.0 c.in-Class.c.0 (c.node.ensures.node ∙ ap (λ x. Some (spec_node x)) c.in-Class.is) in
    let few = c.known.ensures.limits.classes in let k = c.count_first.ensures.few in omega arith

pub returns-in_ok-from_bytes-in-Empty : goal.returns-in_ok-from_bytes-in-Empty
returns-in_ok-from_bytes-in-Empty c = record {
  done = on-both c.leaf.result c.leaf.ensures.laid c.leaf.ensures.laid (λ laid again.
      done-leaf c.args.system.now c.args.classes.now (task.Copy c.args.e) c.args.tasks.now c.args.layout.now c.leaf.new.self (Form.Empty c.in_ok-from_bytes-in-Empty.field-0) (Node.Empty c.in_ok-from_bytes-in-Empty.field-0)
      (copy-form c.args.system.now c.args.classes.now c.known.ensures.sound c.args.e (Node.Empty c.in-Empty.word) (c.node.ensures.node ∙ ap (λ x. Some (spec_node x)) c.in-Empty.is) (Form.Empty c.in_ok-from_bytes-in-Empty.field-0) (λ r. ap Form.Empty (sym (c.in_ok-from_bytes-in-Empty.ensures ∙ c.bytes.ensures))))
      (λ first. refl) refl laid);
}

pub returns-in_ok-from_bytes-in-Atom : goal.returns-in_ok-from_bytes-in-Atom
returns-in_ok-from_bytes-in-Atom c = record {
  done = on-both c.leaf-in-Atom.result c.leaf-in-Atom.ensures.laid c.leaf-in-Atom.ensures.laid (λ laid again.
      done-leaf c.args.system.now c.args.classes.now (task.Copy c.args.e) c.args.tasks.now c.args.layout.now c.leaf-in-Atom.new.self (Form.Atom c.in_ok-from_bytes-in-Atom.field-0) (Node.Atom c.in_ok-from_bytes-in-Atom.field-0)
      (copy-form c.args.system.now c.args.classes.now c.known.ensures.sound c.args.e (Node.Atom c.in-Atom.word) (c.node.ensures.node ∙ ap (λ x. Some (spec_node x)) c.in-Atom.is) (Form.Atom c.in_ok-from_bytes-in-Atom.field-0) (λ r. ap Form.Atom (sym (c.in_ok-from_bytes-in-Atom.ensures ∙ c.bytes-in-Atom.ensures))))
      (λ first. refl) refl laid);
}

pub returns-in-Class : goal.returns-in-Class
returns-in-Class c = record {
  done = on-both c.leaf-in-Class.result c.leaf-in-Class.ensures.laid c.leaf-in-Class.ensures.laid (λ laid again.
      done-leaf c.args.system.now c.args.classes.now (task.Copy c.args.e) c.args.tasks.now c.args.layout.now c.leaf-in-Class.new.self (Form.Class (c.count_first.result + c.in-Class.c.0)) (Node.Class (c.count_first.result + c.in-Class.c.0))
      (copy-form c.args.system.now c.args.classes.now c.known.ensures.sound c.args.e (Node.Class c.in-Class.c.0) (c.node.ensures.node ∙ ap (λ x. Some (spec_node x)) c.in-Class.is) (Form.Class (c.count_first.result + c.in-Class.c.0)) (λ r. ap (λ k. Form.Class (k + c.in-Class.c.0)) (sym (c.count_first.ensures.count ∙ ap how_many (take_all (length c.args.classes.now) c.args.classes.now (omega arith))))))
      (λ first. refl) refl laid);
}

pub returns-in-Union : goal.returns-in-Union
returns-in-Union c =
    let ps = c.items.result.now in
    let at = c.node.ensures.node ∙ ap (λ x. Some (spec_node x)) c.in-Union.is ∙ ap (λ z. Some (Node.Union (map number z))) (sym c.items.ensures.items) in
    record {
      done = on-both c.copy_parts.result c.copy_parts.ensures.put c.copy_parts.ensures.put (λ put again.
          done-replaced c.args.system.now c.args.classes.now (task.Copy c.args.e) (map task.Copy ps ++ task.Union (length c.items-count.result.now) ∷ []) c.args.tasks.now c.copy_parts.new.tasks c.args.layout.now put
          (then-one (length c.args.system.now.nodes) (map task.Copy ps) (task.Union (length c.items-count.result.now)) (copies-inside (length c.args.system.now.nodes) ps (node-parts-inside c.args.system.now c.known.ensures.sound c.args.e.0 (Node.Union (map number ps)) ps at refl)) tt)
          (λ fs. copy-union c.args.system.now c.args.classes.now (length c.items-count.result.now) ps fs (ap length (c.items-count.ensures.items ∙ sym c.items.ensures.items)) ∙ sym (copy-form c.args.system.now c.args.classes.now c.known.ensures.sound c.args.e (Node.Union (map number ps)) at _ (λ r. refl) fs)));
    }

pub returns-in-Product : goal.returns-in-Product
returns-in-Product c =
    let ps = c.items-in-Product.result.now in
    let at = c.node.ensures.node ∙ ap (λ x. Some (spec_node x)) c.in-Product.is ∙ ap (λ z. Some (Node.Product (map number z))) (sym c.items-in-Product.ensures.items) in
    record {
      done = on-both c.copy_parts-in-Product.result c.copy_parts-in-Product.ensures.put c.copy_parts-in-Product.ensures.put (λ put again.
          done-replaced c.args.system.now c.args.classes.now (task.Copy c.args.e) (map task.Copy ps ++ task.Product (length c.items-count-in-Product.result.now) ∷ []) c.args.tasks.now c.copy_parts-in-Product.new.tasks c.args.layout.now put
          (then-one (length c.args.system.now.nodes) (map task.Copy ps) (task.Product (length c.items-count-in-Product.result.now)) (copies-inside (length c.args.system.now.nodes) ps (node-parts-inside c.args.system.now c.known.ensures.sound c.args.e.0 (Node.Product (map number ps)) ps at refl)) tt)
          (λ fs. copy-product c.args.system.now c.args.classes.now (length c.items-count-in-Product.result.now) ps fs (ap length (c.items-count-in-Product.ensures.items ∙ sym c.items-in-Product.ensures.items)) ∙ sym (copy-form c.args.system.now c.args.classes.now c.known.ensures.sound c.args.e (Node.Product (map number ps)) at _ (λ r. refl) fs)));
    }

pub returns-in-Seq : goal.returns-in-Seq
returns-in-Seq c =
    let at = c.node.ensures.node ∙ ap (λ x. Some (spec_node x)) c.in-Seq.is in
    record {
      done = on-both c.push_all.result c.push_all.ensures.ok c.push_all.ensures.ok (λ put again.
          done-replaced c.args.system.now c.args.classes.now (task.Copy c.args.e) (task.Copy c.in-Seq.part ∷ task.Seq ∷ []) c.args.tasks.now c.push_all.new.self c.args.layout.now put
          ((node-parts-inside c.args.system.now c.known.ensures.sound c.args.e.0 (Node.Seq c.in-Seq.part.0) (c.in-Seq.part ∷ []) at refl).0, (tt, tt))
          (λ fs. copy-seq c.args.system.now c.args.classes.now c.in-Seq.part fs ∙ sym (copy-form c.args.system.now c.args.classes.now c.known.ensures.sound c.args.e (Node.Seq c.in-Seq.part.0) at _ (λ r. refl) fs)));
    }
