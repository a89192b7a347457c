use Rattle.pointing.proofs.TaskSteps.{pushed-alternative}
use Rattle.pointing.proofs.building.push_alternative.Goals as goal

pub returns : goal.returns
returns c = λ part at.
    pushed-alternative c.args.parts.now c.args.i (record { 0 = 0 }) part c.args.tasks.now.items c.push_copies.new.tasks.items c.push.new.self.items c.push_copies-2.new.tasks.items c.push-2.new.self.items c.requires.there at
    c.in_ok-push_copies.ensures.ok c.in_ok-push.ensures.items c.in_ok-push_copies-2.ensures.ok c.in_ok-push-2.ensures.items
