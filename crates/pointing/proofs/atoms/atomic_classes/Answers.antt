use Rattle.std.proofs.Common.{◌∙◌, ap, add-one, sym, length, replicate}
use Rattle.std.specs.Prelude.{false}
use Rattle.well_founded.specs.EmptyObjects.{iterated}
use Rattle.pointing.specs.Forms.{all_forms}
use Rattle.pointing.specs.Atoms.{is_atomic, more_atomic}
use Rattle.pointing.proofs.AtomMarks.{round-marks}
use Rattle.pointing.proofs.atoms.atomic_classes.Goals as goal
use Rattle.std.proofs.Common.{map}

pub loop-round-preserved : goal.loop-round-preserved
loop-round-preserved c =
    c.in_ok-classes-2.ensures ∙ round-marks c.args.system.now c.loop-round.classes.items c.deref-in-loop-round.result.now
    (c.deref-in-loop-round.ensures.value ∙ c.in_ok-nodes.ensures ∙ ap (λ cls. map (is_atomic cls) (all_forms c.args.system.now)) c.deref.ensures.value) c.args.system.now.bodies
    ∙ ap (more_atomic c.args.system.now) c.loop-round.invariant
    ∙ ap (λ n. iterated (more_atomic c.args.system.now) n (replicate (length c.args.system.now.bodies) false)) (sym (add-one c.loop-round._round))
