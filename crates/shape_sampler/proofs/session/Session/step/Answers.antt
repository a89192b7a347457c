-- A step is the visit of the first pending node.
use Rattle.std.proofs.Common.{◌≤◌, length, Some, sym, ◌∙◌, ap, subst}
use Rattle.bz_model.specs.Spec.{Spec}
use Rattle.bit_tape.specs.Tape.{bits_of_source}
use Rattle.class_system.specs.Views.{spec_node}
use Rattle.shape_sampler.specs.State.{SessionBelongs}
use Rattle.shape_sampler.specs.Answer.{IsVisitOfAll, IsIdealAnswer}
use Rattle.shape_sampler.proofs.Plain.{plain-by-bits, plain-tape, plain-draws, no-level, no-union, few-parts}
use Rattle.shape_sampler.proofs.session.Session.step.Goals as goal

pub visit_union-requires-clause-few : goal.visit_union-requires-clause-few
visit_union-requires-clause-few g c =
    let few = few-parts c.system-system.result.now c.known.ensures.limits c.in-Some-first.e.0 c.in-Union.parts (c.node.ensures.node ∙ ap (λ n. Some (spec_node n)) c.in-Union.is) in
    subst (λ ps. length ps ≤ 64) (sym c.items.ensures.items) few

pub visit_plain-requires-clause-no_union : goal.visit_plain-requires-clause-no_union
visit_plain-requires-clause-no_union g c = no-union c.system-system.result.now c.in-Some-first.e.0 c.node.result.now c.node.ensures.node c.in_default-node.not-Union

pub returns-clause-exact : goal.returns-clause-exact
returns-clause-exact g c = λ running. plain-by-bits c.args.founded.now g.row.F (g.O.Oracle.table c.args.oracle.now) (bits_of_source c.args.tape.now.source (g.S.Shelf.content c.args.shelf.now)) c.args.self.now c.visit_plain.new.self c.visit_plain.result c.args.tape.now.used c.visit_plain.ensures.plain (λ ne. subst (λ (s : Spec). IsVisitOfAll s c.args.self.now c.visit_plain.result c.visit_plain.new.self) c.system-system.ensures.system (c.visit_plain.ensures.exact ne))

pub returns-clause-tape : goal.returns-clause-tape
returns-clause-tape g c = plain-tape g.S.Shelf.content g.S.Shelf.faults c.args.shelf.now c.args.tape.now c.visit_plain.result c.args.self.now.stopped c.visit_plain.ensures.plain c.requires.tape

pub returns-clause-ideal : goal.returns-clause-ideal
returns-clause-ideal g c =
    let x = g.O.Oracle.x c.args.oracle.now in
    let b = subst (λ (s : Spec). SessionBelongs s x c.args.self.now) (sym c.system-system.ensures.system) c.requires.session in
    subst (λ (s : Spec). IsIdealAnswer s x c.visit_plain.result c.visit_plain.new.self) c.system-system.ensures.system (c.visit_plain.ensures.session x b).1

pub returns-clause-session : goal.returns-clause-session
returns-clause-session g c =
    let x = g.O.Oracle.x c.args.oracle.now in
    let b = subst (λ (s : Spec). SessionBelongs s x c.args.self.now) (sym c.system-system.ensures.system) c.requires.session in
    subst (λ (s : Spec). SessionBelongs s x c.visit_plain.new.self) c.system-system.ensures.system (c.visit_plain.ensures.session x b).0

pub returns-clause-raised : goal.returns-clause-raised
returns-clause-raised g c = no-level (g.O.Oracle.raised c.args.oracle.now) c.args.tape.now.used

pub returns-clause-draws : goal.returns-clause-draws
returns-clause-draws g c = λ running. plain-draws c.visit_plain.result c.args.self.now c.visit_plain.new.self c.args.tape.now.used c.args.tape.now.used c.visit_plain.ensures.plain c.visit_plain.ensures.cells
