-- Each kind of node that moves on.
use Rattle.std.proofs.Common.{◌≡◌, ◌≤◌, ◌∷◌, [], length, map, slice_get, Some, refl, sym, ◌∙◌, ap, subst}
use Rattle.std.specs.Prelude.{IsTrue}
use Rattle.bz_model.specs.Spec.{Node}
use Rattle.class_system.specs.Views.{number, spec_node}
use Rattle.object_store.proofs.InRange.{class-known}
use Rattle.shape_sampler.specs.declared.stepped.Stepped.TheVariants.{Moved}
use Rattle.shape_sampler.specs.State.{SessionState, attempt_of}
use Rattle.shape_sampler.specs.Visit.{leaf_visited}
use Rattle.shape_sampler.specs.Answer.{replaced_by}
use Rattle.shape_sampler.specs.Ahead.{MovesOn}
use Rattle.shape_sampler.proofs.Ideal.{ideal-leaf, ideal-class, ideal-product}
use Rattle.shape_sampler.proofs.Plain.{class-visit, few-parts}
use Rattle.shape_sampler.proofs.Moves.{first-below, all-visit, plain-moves, told-moves, none-moved, atoms-moves}
use Rattle.shape_sampler.proofs.session.Session.move_first.Goals as goal

pub body-requires : goal.body-requires
body-requires g c = record { in_range = class-known c.args.system.now c.known.ensures.sound c.in-Some.node.0 c.in-Class.c.0 (c.node.ensures.node ∙ ap (λ n. Some (spec_node n)) c.in-Class.is) }

pub move_union-requires-clause-few : goal.move_union-requires-clause-few
move_union-requires-clause-few g c =
    let few = few-parts c.args.system.now c.known.ensures.limits c.in-Some.node.0 c.in-Union.parts (c.node.ensures.node ∙ ap (λ n. Some (spec_node n)) c.in-Union.is) in
    subst (λ ps. length ps ≤ 64) (sym c.items-parts.ensures.items) few

pub node-requires : goal.node-requires
node-requires g c =
    let first : slice_get c.args.self.now.pending 0 ≡ Some c.in-Some.node.0 = ap (λ (st : SessionState). slice_get st.pending 0) (sym c.self.view_is) ∙ sym c.in-Some.ensures in
    record { in_range = first-below (length c.args.system.now.nodes) c.args.self.now.pending c.in-Some.node.0 c.requires.session.attempt.in_range first }

pub returns-in_default-clause-moved : goal.returns-in_default-clause-moved
returns-in_default-clause-moved g c = none-moved c.args.system.now (g.O.Oracle.x c.args.oracle.now) g.row.F (g.O.Oracle.table c.args.oracle.now) (g.O.Oracle.raised c.args.oracle.now) c.args.self.now c.args.tape.now c.requires.running c.requires.session

pub returns-in-Empty-clause-moved : goal.returns-in-Empty-clause-moved
returns-in-Empty-clause-moved g c =
    let s = c.args.system.now in
    let x = g.O.Oracle.x c.args.oracle.now in
    let table = g.O.Oracle.table c.args.oracle.now in
    let raised = g.O.Oracle.raised c.args.oracle.now in
    let before = c.args.self.now in
    let first : slice_get before.pending 0 ≡ Some c.in-Some.node.0 = ap (λ (st : SessionState). slice_get st.pending 0) (sym c.self.view_is) ∙ sym c.in-Some.ensures in
    let at = c.node.ensures.node ∙ ap (λ n. Some (spec_node n)) c.in-Empty.is in
    told-moves s x g.row.F table raised c.move_leaf.result c.moves_of.result before c.move_leaf.new.self c.args.tape.now c.args.tape.now c.moves_of.ensures.one c.moves_of.ensures.none c.requires.running c.requires.session
    (λ told. let visited = c.move_leaf.ensures.moved told in plain-moves s x g.row.F table raised before c.move_leaf.new.self c.args.tape.now c.in-Some.node.0 leaf_visited c.requires.running first c.requires.session visited
    (all-visit s before c.move_leaf.new.self c.in-Some.node.0 (Node.Empty c.in-Empty.field-0) leaf_visited first at (λ chooser bit a rest. refl) visited)
    (λ rest pending. ideal-leaf s x before.whole (attempt_of before 0) c.requires.session.attempt c.in-Some.node.0 rest pending c.in-Empty.field-0 at))
    (λ told. (c.move_leaf.ensures.left told, refl))

pub returns-in-Atom-clause-moved : goal.returns-in-Atom-clause-moved
returns-in-Atom-clause-moved g c =
    let before = c.args.self.now in
    let first : slice_get before.pending 0 ≡ Some c.in-Some.node.0 = ap (λ (st : SessionState). slice_get st.pending 0) (sym c.self.view_is) ∙ sym c.in-Some.ensures in
    let at = c.node.ensures.node ∙ ap (λ n. Some (spec_node n)) c.in-Atom.is in
    atoms-moves c.args.system.now (g.O.Oracle.x c.args.oracle.now) g.row.F (g.O.Oracle.table c.args.oracle.now) (g.O.Oracle.raised c.args.oracle.now) c.move_atoms.result before c.move_atoms.new.self c.args.tape.now c.in-Some.node.0 c.in-Atom.field-0 at c.requires.running c.requires.session (c.move_atoms.ensures.moved c.in-Some.node.0 first)

pub returns-in-Class-clause-moved : goal.returns-in-Class-clause-moved
returns-in-Class-clause-moved g c =
    let s = c.args.system.now in
    let x = g.O.Oracle.x c.args.oracle.now in
    let table = g.O.Oracle.table c.args.oracle.now in
    let raised = g.O.Oracle.raised c.args.oracle.now in
    let before = c.args.self.now in
    let first : slice_get before.pending 0 ≡ Some c.in-Some.node.0 = ap (λ (st : SessionState). slice_get st.pending 0) (sym c.self.view_is) ∙ sym c.in-Some.ensures in
    let at = c.node.ensures.node ∙ ap (λ n. Some (spec_node n)) c.in-Class.is in
    told-moves s x g.row.F table raised c.move_class.result c.moves_of-in-Class.result before c.move_class.new.self c.args.tape.now c.args.tape.now c.moves_of-in-Class.ensures.one c.moves_of-in-Class.ensures.none c.requires.running c.requires.session
    (λ told. let visited = c.move_class.ensures.moved told in plain-moves s x g.row.F table raised before c.move_class.new.self c.args.tape.now c.in-Some.node.0 (replaced_by (c.body.result.0 ∷ [])) c.requires.running first c.requires.session visited
    (class-visit s before c.move_class.new.self Moved c.in-Some.node.0 c.in-Class.c.0 c.body.result.0 first at c.body.ensures.body visited (λ other. cc))
    (λ rest pending. ideal-class s x before.whole (attempt_of before 0) c.requires.session.attempt c.in-Some.node.0 rest pending c.known.ensures.sound c.in-Class.c.0 c.body.result.0 at c.body.ensures.body))
    (λ told. (c.move_class.ensures.left told, refl))

pub returns-in-Product-clause-moved : goal.returns-in-Product-clause-moved
returns-in-Product-clause-moved g c =
    let s = c.args.system.now in
    let x = g.O.Oracle.x c.args.oracle.now in
    let table = g.O.Oracle.table c.args.oracle.now in
    let raised = g.O.Oracle.raised c.args.oracle.now in
    let before = c.args.self.now in
    let first : slice_get before.pending 0 ≡ Some c.in-Some.node.0 = ap (λ (st : SessionState). slice_get st.pending 0) (sym c.self.view_is) ∙ sym c.in-Some.ensures in
    let parts = map number c.items.result.now in
    let at = c.node.ensures.node ∙ ap (λ n. Some (spec_node n)) c.in-Product.is ∙ ap (λ ps. Some (Node.Product (map number ps))) (sym c.items.ensures.items) in
    told-moves s x g.row.F table raised c.move_product.result c.moves_of-in-Product.result before c.move_product.new.self c.args.tape.now c.args.tape.now c.moves_of-in-Product.ensures.one c.moves_of-in-Product.ensures.none c.requires.running c.requires.session
    (λ told. let visited = c.move_product.ensures.moved told in plain-moves s x g.row.F table raised before c.move_product.new.self c.args.tape.now c.in-Some.node.0 (replaced_by parts) c.requires.running first c.requires.session visited
    (all-visit s before c.move_product.new.self c.in-Some.node.0 (Node.Product parts) (replaced_by parts) first at (λ chooser bit a rest. refl) visited)
    (λ rest pending. ideal-product s x before.whole (attempt_of before 0) c.requires.session.attempt c.in-Some.node.0 rest pending c.known.ensures.sound parts at))
    (λ told. (c.move_product.ensures.left told, refl))

pub returns-in-Union-clause-moved : goal.returns-in-Union-clause-moved
returns-in-Union-clause-moved g c = told-moves c.args.system.now (g.O.Oracle.x c.args.oracle.now) g.row.F (g.O.Oracle.table c.args.oracle.now) (g.O.Oracle.raised c.args.oracle.now) c.move_union.result c.moves_of-in-Union.result c.args.self.now c.move_union.new.self c.args.tape.now c.move_union.new.tape c.moves_of-in-Union.ensures.one c.moves_of-in-Union.ensures.none c.requires.running c.requires.session c.move_union.ensures.moved c.move_union.ensures.left

pub returns-in-Seq-clause-moved : goal.returns-in-Seq-clause-moved
returns-in-Seq-clause-moved g c =
    let x = g.O.Oracle.x c.args.oracle.now in
    let table = g.O.Oracle.table c.args.oracle.now in
    let raised = g.O.Oracle.raised c.args.oracle.now in
    let before = c.args.self.now in
    let tape = c.args.tape.now in
    told-moves c.args.system.now x g.row.F table raised c.move_counted.result c.moves_of-in-Seq.result before c.move_counted.new.self tape c.move_counted.new.tape c.moves_of-in-Seq.ensures.one c.moves_of-in-Seq.ensures.none c.requires.running c.requires.session
    (subst (λ s. IsTrue c.move_counted.result → MovesOn s x g.row.F table raised 1 before tape c.move_counted.new.self c.move_counted.new.tape) c.requires.founded c.move_counted.ensures.moved)
    c.move_counted.ensures.left
