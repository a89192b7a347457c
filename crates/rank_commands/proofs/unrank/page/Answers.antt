use Rattle.std.proofs.lemmas.Result.{IfOk-weaker, IfErr-weaker}
use Rattle.call_stages.specs.Reports.{refusal_status, refusal_text}
use Rattle.call_stages.specs.Stages.{files}
use Rattle.call_stages.specs.declared.status.Status.{Status}
use Rattle.call_stages.proofs.Staging.{ended_before}
use Rattle.rank_commands.specs.UnrankCommand.{Unranked}
use Rattle.rank_commands.proofs.Staging.{carried}
use Rattle.rank_commands.proofs.unrank.page.Goals as goal

-- the specification goes on
pub returns-in-Ok-clause-ok : goal.returns-in-Ok-clause-ok
returns-in-Ok-clause-ok g c =
    let f = files (g.S.Shelf.content c.args.shelf.now) (g.S.Shelf.faults c.args.shelf.now) (g.S.Shelf.faults c.specified.new.shelf) in
    IfOk-weaker c.unranked.result _ _ (λ page p. carried f c.args.file.now (Unranked c.args.n c.args.number) c.in-Ok.founded Status.Done page.items c.in-Ok.ensures.ok p) c.unranked.ensures.ok

pub returns-in-Ok-clause-err : goal.returns-in-Ok-clause-err
returns-in-Ok-clause-err g c =
    let f = files (g.S.Shelf.content c.args.shelf.now) (g.S.Shelf.faults c.args.shelf.now) (g.S.Shelf.faults c.specified.new.shelf) in
    IfErr-weaker c.unranked.result _ _ (λ e p. carried f c.args.file.now (Unranked c.args.n c.args.number) c.in-Ok.founded (refusal_status e) (refusal_text e) c.in-Ok.ensures.ok p) c.unranked.ensures.err

-- it is refused
pub returns-in-Err-clause-err : goal.returns-in-Err-clause-err
returns-in-Err-clause-err g c =
    let f = files (g.S.Shelf.content c.args.shelf.now) (g.S.Shelf.faults c.args.shelf.now) (g.S.Shelf.faults c.specified.new.shelf) in
    ended_before f c.args.file.now (Unranked c.args.n c.args.number) _ _ 0 c.in-Err.ensures.err
