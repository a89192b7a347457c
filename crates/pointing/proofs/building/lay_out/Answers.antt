use Rattle.std.proofs.Common.{◌∙◌, ◌++◌, ap, subst, map, append-nil}
use Rattle.pointing.specs.declared.tasks.Task.TheVariants as task
use Rattle.pointing.proofs.TaskSteps.{IsUnderWay, under_way-on, under_way-end, under_way-start}
use Rattle.pointing.proofs.building.lay_out.Goals as goal

pub tasks-init : goal.tasks-init
tasks-init c =
    let ps = c.bodies-bodies.result.now in
    under_way-start c.args.system.now c.args.classes.now c.args.layout.now ps c.push_all.new.self c.known.ensures.sound c.bodies-bodies.ensures.bodies
    (c.in_ok-push_all.ensures.ok ∙ ap (λ z. c.deref.result.now ++ z) c.new-tasks.ensures ∙ append-nil c.deref.result.now ∙ c.deref.ensures.value ∙ c.in_ok-push_copies.ensures.ok ∙ ap (λ z. z ++ map task.Copy ps) (c.in_ok-push_points.ensures.ok ∙ ap (λ z. z ++ map task.Point ps) c.new-first.ensures.items))

pub returns-in_default : goal.returns-in_default
returns-in_default c = record { laid = under_way-end c.args.system.now c.args.classes.now c.args.layout.now c.tasks.layout c.tasks.tasks c.in_default.ensures.none c.tasks.invariant }

pub tasks-preserved : goal.tasks-preserved
tasks-preserved c =
    under_way-on c.args.system.now c.args.classes.now c.args.layout.now c.tasks.layout c.perform.new.layout c.in-Some.task c.pop.new.self c.perform.new.tasks
    (subst (λ z. IsUnderWay c.args.system.now c.args.classes.now c.args.layout.now z c.tasks.layout) c.in-Some.ensures.items c.tasks.invariant) c.in_ok-perform.ensures.done
