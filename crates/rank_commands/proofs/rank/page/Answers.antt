use Rattle.std.proofs.lemmas.Result.{IfOk-weaker, IfErr-weaker}
use Rattle.call_stages.specs.Reports.{refusal_status, refusal_text}
use Rattle.call_stages.specs.Stages.{files}
use Rattle.call_stages.specs.declared.status.Status.{Status}
use Rattle.call_stages.proofs.Staging.{ended_before}
use Rattle.rank_commands.specs.RankCommand.{RankedIn}
use Rattle.rank_commands.proofs.Staging.{rank_carried}
use Rattle.rank_commands.proofs.rank.page.Goals as goal

-- the specification goes on
pub returns-in-Ok-clause-ok : goal.returns-in-Ok-clause-ok
returns-in-Ok-clause-ok g c =
    let before = g.S.Shelf.faults c.args.shelf.now in
    IfOk-weaker c.ranked.result _ _ (λ page p. rank_carried (g.S.Shelf.content c.args.shelf.now) (g.S.Shelf.content c.specified.new.shelf) before (g.S.Shelf.faults c.ranked.new.shelf) c.args.file.now c.args.object.now c.in-Ok.founded Status.Done page.items c.specified.ensures.content c.in-Ok.ensures.ok (p before c.specified.ensures.counts)) c.ranked.ensures.ok

pub returns-in-Ok-clause-err : goal.returns-in-Ok-clause-err
returns-in-Ok-clause-err g c =
    let before = g.S.Shelf.faults c.args.shelf.now in
    IfErr-weaker c.ranked.result _ _ (λ e p. rank_carried (g.S.Shelf.content c.args.shelf.now) (g.S.Shelf.content c.specified.new.shelf) before (g.S.Shelf.faults c.ranked.new.shelf) c.args.file.now c.args.object.now c.in-Ok.founded (refusal_status e) (refusal_text e) c.specified.ensures.content c.in-Ok.ensures.ok (p before c.specified.ensures.counts)) c.ranked.ensures.err

-- it is refused
pub returns-in-Err-clause-err : goal.returns-in-Err-clause-err
returns-in-Err-clause-err g c =
    let f = files (g.S.Shelf.content c.args.shelf.now) (g.S.Shelf.faults c.args.shelf.now) (g.S.Shelf.faults c.specified.new.shelf) in
    ended_before f c.args.file.now (RankedIn f c.args.object.now) _ _ 0 c.in-Err.ensures.err
