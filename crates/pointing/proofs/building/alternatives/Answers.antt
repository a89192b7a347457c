use Rattle.std.proofs.Common.{[], ◌∙◌, ap, sym, length, get_or, append-nil}
use Rattle.std.proofs.lemmas.Option.{slice_get-get_or}
use Rattle.std.specs.Prelude.{true, false}
use Rattle.pointing.specs.Building.{alternatives}
use Rattle.pointing.proofs.TaskSteps.{alternatives-on}
use Rattle.pointing.proofs.building.alternatives.Goals as goal
use Rattle.pointing.proofs.building.alternatives.Goals.{then-is_marked+in_ok-push_alternative, else-is_marked}

pub loop-i-preserved : goal.loop-i-preserved
loop-i-preserved c =
    let n = length c.args.parts.now in
    elim c.if-is_marked.branch [
      | then-is_marked+in_ok-push_alternative w ↦ alternatives-on n c.args.nodes.now c.args.parts.now c.loop-i.i (record { 0 = 0 }) c.loop-i.tasks.items c.if-is_marked.tasks.items (alternatives n c.args.nodes.now [] c.args.parts.now) true c.loop-i-test.true c.loop-i.invariant (sym w.if-is_marked.true ∙ c.is_marked.ensures)
          (ap (λ v. v.items) w.tasks-is ∙ w.in_ok-push_alternative.ensures (get_or c.args.parts.now c.loop-i.i (record { 0 = 0 })) (slice_get-get_or c.args.parts.now c.loop-i.i (record { 0 = 0 }) c.loop-i-test.true))
      | else-is_marked w ↦ alternatives-on n c.args.nodes.now c.args.parts.now c.loop-i.i (record { 0 = 0 }) c.loop-i.tasks.items c.if-is_marked.tasks.items (alternatives n c.args.nodes.now [] c.args.parts.now) false c.loop-i-test.true c.loop-i.invariant (sym w.if-is_marked.false ∙ c.is_marked.ensures)
          (ap (λ v. v.items) w.tasks-is ∙ sym (append-nil c.loop-i.tasks.items))
    ]
