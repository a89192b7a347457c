use Rattle.boltz.specs.Answers.{world}
use Rattle.call_stages.specs.Stages.{files}
use Rattle.boltz.proofs.Calls.{OutcomeLaw, exact, carried_answers, refused_answers, not_both}
use Rattle.boltz.proofs.run.run.Goals as goal

-- a command is carried out
pub returns-in-Ok-clause-ends : goal.returns-in-Ok-clause-ends
returns-in-Ok-clause-ends g c =
    let f = files (g.S.Shelf.content c.args.shelf.now) (g.S.Shelf.faults c.args.shelf.now) (g.S.Shelf.faults c.carried_out.new.shelf) in
    carried_answers c.args.words.now f c.in-Ok.command _ _ _ _ _ _ _ c.in-Ok.ensures.command c.carried_out.ensures.ends

pub returns-in-Ok-clause-exact : goal.returns-in-Ok-clause-exact
returns-in-Ok-clause-exact g c =
    let f = files (g.S.Shelf.content c.args.shelf.now) (g.S.Shelf.faults c.args.shelf.now) (g.S.Shelf.faults c.carried_out.new.shelf) in
    let law : OutcomeLaw = record { one = c.each_command_has_one_outcome.ensures.one } in
    exact law (world c.args.words.now f) _ _ _ _ _ _ _ (carried_answers c.args.words.now f c.in-Ok.command _ _ _ _ _ _ _ c.in-Ok.ensures.command c.carried_out.ensures.ends)

pub returns-in-Ok-clause-unread : goal.returns-in-Ok-clause-unread
returns-in-Ok-clause-unread g c = λ refused. absurd (not_both c.args.words.now c.in-Ok.command c.in-Ok.ensures.command refused)

-- the words stand for no command
pub returns-in-Err-clause-ends : goal.returns-in-Err-clause-ends
returns-in-Err-clause-ends g c =
    let f = files (g.S.Shelf.content c.args.shelf.now) (g.S.Shelf.faults c.args.shelf.now) (g.S.Shelf.faults c.args.shelf.now) in
    refused_answers c.args.words.now f c.in-Err.fault _ _ _ _ _ _ _ c.in-Err.ensures.refused (c.without_command.ensures.ends c.args.steps.now)

pub returns-in-Err-clause-exact : goal.returns-in-Err-clause-exact
returns-in-Err-clause-exact g c =
    let f = files (g.S.Shelf.content c.args.shelf.now) (g.S.Shelf.faults c.args.shelf.now) (g.S.Shelf.faults c.args.shelf.now) in
    let law : OutcomeLaw = record { one = c.each_command_has_one_outcome.ensures.one } in
    exact law (world c.args.words.now f) _ _ _ _ _ _ _ (refused_answers c.args.words.now f c.in-Err.fault _ _ _ _ _ _ _ c.in-Err.ensures.refused (c.without_command.ensures.ends c.args.steps.now))
