-- Each kind of node that takes no number.
use Rattle.std.proofs.Common.{◌∷◌, [], map, Some, refl, sym, ◌∙◌, ap}
use Rattle.bz_model.specs.Spec.{Node}
use Rattle.class_system.specs.Views.{number, spec_node}
use Rattle.object_store.proofs.InRange.{class-known}
use Rattle.shape_sampler.specs.State.{attempt_of}
use Rattle.shape_sampler.specs.Visit.{leaf_visited}
use Rattle.shape_sampler.specs.Answer.{room_atom_visited, replaced_by}
use Rattle.shape_sampler.proofs.Ideal.{ideal-leaf, ideal-atom, ideal-class, ideal-product}
use Rattle.shape_sampler.proofs.Plain.{plain-session, class-visit}
use Rattle.shape_sampler.proofs.session.Session.visit_plain.Goals as goal

pub body-requires : goal.body-requires
body-requires c = record { in_range = class-known c.args.system.now c.known.ensures.sound c.args.node.0 c.in-Class.c.0 (c.node.ensures.node ∙ ap (λ n. Some (spec_node n)) c.in-Class.is) }

pub returns-in-Empty-clause-session : goal.returns-in-Empty-clause-session
returns-in-Empty-clause-session c = λ x b.
    let s = c.args.system.now in
    let before = c.args.self.now in
    plain-session s x before c.visit_leaf.new.self c.visit_leaf.result c.args.node.0 leaf_visited c.requires.first c.visit_leaf.ensures b
    (λ rest pending. ideal-leaf s x before.whole (attempt_of before 0) b.attempt c.args.node.0 rest pending c.in-Empty.field-0 (c.node.ensures.node ∙ ap (λ n. Some (spec_node n)) c.in-Empty.is))

pub returns-in-Atom-clause-session : goal.returns-in-Atom-clause-session
returns-in-Atom-clause-session c = λ x b.
    let s = c.args.system.now in
    let before = c.args.self.now in
    plain-session s x before c.visit_atom.new.self c.visit_atom.result c.args.node.0 room_atom_visited c.requires.first c.visit_atom.ensures b
    (λ rest pending. ideal-atom s x before.whole (attempt_of before 0) b.attempt c.args.node.0 rest pending c.in-Atom.field-0 (c.node.ensures.node ∙ ap (λ n. Some (spec_node n)) c.in-Atom.is) before.room refl)

pub returns-in-Class-clause-exact : goal.returns-in-Class-clause-exact
returns-in-Class-clause-exact c = class-visit c.args.system.now c.args.self.now c.visit_class.new.self c.visit_class.result c.args.node.0 c.in-Class.c.0 c.body.result.0 c.requires.first (c.node.ensures.node ∙ ap (λ n. Some (spec_node n)) c.in-Class.is) c.body.ensures.body c.visit_class.ensures

pub returns-in-Class-clause-session : goal.returns-in-Class-clause-session
returns-in-Class-clause-session c = λ x b.
    let s = c.args.system.now in
    let before = c.args.self.now in
    plain-session s x before c.visit_class.new.self c.visit_class.result c.args.node.0 (replaced_by (c.body.result.0 ∷ [])) c.requires.first c.visit_class.ensures b
    (λ rest pending. ideal-class s x before.whole (attempt_of before 0) b.attempt c.args.node.0 rest pending c.known.ensures.sound c.in-Class.c.0 c.body.result.0 (c.node.ensures.node ∙ ap (λ n. Some (spec_node n)) c.in-Class.is) c.body.ensures.body)

pub returns-in-Product-clause-session : goal.returns-in-Product-clause-session
returns-in-Product-clause-session c = λ x b.
    let s = c.args.system.now in
    let before = c.args.self.now in
    plain-session s x before c.visit_product.new.self c.visit_product.result c.args.node.0 (replaced_by (map number c.items.result.now)) c.requires.first c.visit_product.ensures b
    (λ rest pending. ideal-product s x before.whole (attempt_of before 0) b.attempt c.args.node.0 rest pending c.known.ensures.sound (map number c.items.result.now) (c.node.ensures.node ∙ ap (λ n. Some (spec_node n)) c.in-Product.is ∙ ap (λ ps. Some (Node.Product (map number ps))) (sym c.items.ensures.items)))
