use Rattle.rank_commands.specs.UnrankCommand.{CarriesUnrank}
use Rattle.rank_commands.proofs.Staging.{page_written, refusal_written}
use Rattle.call_stages.specs.Stages.{files}
use Rattle.rank_commands.proofs.unrank.unrank.Goals as goal

-- the page is written
pub returns-in-Ok-clause-ends : goal.returns-in-Ok-clause-ends
returns-in-Ok-clause-ends g c =
    let f = files (g.S.Shelf.content c.args.shelf.now) (g.S.Shelf.faults c.args.shelf.now) (g.S.Shelf.faults c.page.new.shelf) in
    λ ticks. page_written (CarriesUnrank f c.args.file.now c.args.n c.args.number) _ _ _ _ ticks _ c.in-Ok.page.items c.as_slice.result.now c.as_slice.ensures.value c.in-Ok.ensures.ok c.written.ensures.ends

-- the refusal is
pub returns-in-Err-clause-ends : goal.returns-in-Err-clause-ends
returns-in-Err-clause-ends g c =
    let f = files (g.S.Shelf.content c.args.shelf.now) (g.S.Shelf.faults c.args.shelf.now) (g.S.Shelf.faults c.page.new.shelf) in
    λ ticks. refusal_written (CarriesUnrank f c.args.file.now c.args.n c.args.number) _ _ _ _ ticks _ c.in-Err.refusal c.in-Err.ensures.err c.refused.ensures.ends
