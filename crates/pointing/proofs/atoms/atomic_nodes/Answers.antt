use Rattle.std.proofs.Common.{[], ◌∙◌, ap, map, get_or, arith}
use Rattle.std.proofs.lemmas.Option.{slice_get-get_or}
use Rattle.std.proofs.lemmas.List.{take_all}
use Rattle.bz_model.specs.Spec.{Node}
use Rattle.pointing.specs.Forms.{all_forms}
use Rattle.pointing.specs.Atoms.{is_atomic}
use Rattle.pointing.proofs.AtomMarks.{marks-more, forms-count}
use Rattle.pointing.proofs.atoms.atomic_nodes.Goals as goal

pub loop-e-preserved : goal.loop-e-preserved
loop-e-preserved c =
    marks-more c.args.system.now c.args.classes.now c.loop-e.marks.items c.push.new.self.items c.loop-e.e c.has_atom-mark.result (get_or c.args.system.now.nodes c.loop-e.e (Node.Empty [])) c.known.ensures.sound c.loop-e.invariant
    (slice_get-get_or c.args.system.now.nodes c.loop-e.e (Node.Empty []) (omega (arith, c.node_count-e-end.ensures.count, c.loop-e-test.true)))
    c.in_ok-push.ensures.items
    (λ before m r e at. c.has_atom-mark.ensures before m r (c.deref.ensures.value ∙ e) at)

pub returns : goal.returns
returns c = c.loop-e.invariant ∙ ap (map (is_atomic c.args.classes.now)) (take_all c.loop-e.e (all_forms c.args.system.now) (let n = forms-count c.args.system.now c.known.ensures.sound in omega (arith, c.node_count-e-end.ensures.count, c.loop-e-test.false)))
