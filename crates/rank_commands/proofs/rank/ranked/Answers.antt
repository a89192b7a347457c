use Rattle.std.proofs.Common.{ℕ, ◌≤◌, List}
use Rattle.std.proofs.lemmas.Result.{IfOk-weaker, IfErr-weaker}
use Rattle.call_stages.specs.Outcomes.{Outcome}
use Rattle.call_stages.specs.Reports.{refusal_status, refusal_text}
use Rattle.call_stages.specs.Stages.{files}
use Rattle.call_stages.specs.declared.status.Status.{Status}
use Rattle.rank_commands.specs.RankCommand.{RankedIn}
use Rattle.rank_commands.proofs.Staging.{handed_on, object_in, stopped_at_form, stopped_at_object, object_goes_on}
use Rattle.rank_commands.proofs.rank.ranked.Goals as goal

-- labels or a range are refused
pub returns-in_err-rankable-clause-err : goal.returns-in_err-rankable-clause-err
returns-in_err-rankable-clause-err g c =
    let content = g.S.Shelf.content c.args.shelf.now in
    let after = g.S.Shelf.faults c.args.shelf.now in
    let s = c.args.founded.now in
    let P : Outcome = λ status text ticks. (before : List ℕ → ℕ) → ((name : List ℕ) → before name ≤ after name) → RankedIn (files content before after) c.args.object.now s status text ticks in
    handed_on P c.from_residual.result c.in_err-rankable.field-0.0 c.from_residual.ensures.1 (λ before below. stopped_at_form content before after c.args.object.now s _ _ c.in_err-rankable.ensures.err)

-- the object that was read is one of the first class
pub object_ranked-requires-clause-object : goal.object_ranked-requires-clause-object
object_ranked-requires-clause-object g c = object_in _ c.args.founded.now c.args.object.now c.in-Ok.read.shape.items c.in-Ok.read.labels c.in-Ok.ensures.ok

-- it goes on
pub returns-in-Ok-clause-ok : goal.returns-in-Ok-clause-ok
returns-in-Ok-clause-ok g c =
    IfOk-weaker c.object_ranked.result _ _ (λ page p before below. object_goes_on (g.S.Shelf.content c.args.shelf.now) before (g.S.Shelf.faults c.object_read.new.shelf) c.args.object.now c.args.founded.now Status.Done page.items c.in_ok-rankable.ensures.unlabelled c.in_ok-rankable.ensures.plain c.in-Ok.read.shape.items c.in-Ok.read.labels c.in-Ok.ensures.ok p) c.object_ranked.ensures.ok

pub returns-in-Ok-clause-err : goal.returns-in-Ok-clause-err
returns-in-Ok-clause-err g c =
    IfErr-weaker c.object_ranked.result _ _ (λ e p before below. object_goes_on (g.S.Shelf.content c.args.shelf.now) before (g.S.Shelf.faults c.object_read.new.shelf) c.args.object.now c.args.founded.now (refusal_status e) (refusal_text e) c.in_ok-rankable.ensures.unlabelled c.in_ok-rankable.ensures.plain c.in-Ok.read.shape.items c.in-Ok.read.labels c.in-Ok.ensures.ok p) c.object_ranked.ensures.err

-- it is refused
pub returns-in-Err-clause-err : goal.returns-in-Err-clause-err
returns-in-Err-clause-err g c = λ before below. stopped_at_object (g.S.Shelf.content c.args.shelf.now) before (g.S.Shelf.faults c.object_read.new.shelf) c.args.object.now c.args.founded.now _ _ c.in_ok-rankable.ensures.unlabelled c.in_ok-rankable.ensures.plain (c.in-Err.ensures.err before below)
