use Rattle.boltz.specs.SpecCommand.{SpecPrinted, CarriesSpec}
use Rattle.call_stages.specs.Stages.{files}
use Rattle.call_stages.proofs.Staging.{ended_before, goes_on_with}
use Rattle.call_stages.proofs.Endings.{written_on, ends_as}
use Rattle.std.proofs.Common.{arith}
use Rattle.boltz.proofs.spec.spec.Goals as goal

-- the specification is printed
pub returns-in-Ok-clause-ends : goal.returns-in-Ok-clause-ends
returns-in-Ok-clause-ends g c =
    let f = files (g.S.Shelf.content c.args.shelf.now) (g.S.Shelf.faults c.args.shelf.now) (g.S.Shelf.faults c.specified.new.shelf) in
    λ ticks. ends_as (SpecPrinted c.in-Ok.founded) (CarriesSpec f c.args.file.now) _ _ _ _ _ _ _ (λ status text ticks p. goes_on_with f c.args.file.now SpecPrinted c.in-Ok.founded status text ticks c.in-Ok.ensures.ok p) (c.printed.ensures.ends ticks)

-- it is refused
pub returns-in-Err-clause-ends : goal.returns-in-Err-clause-ends
returns-in-Err-clause-ends g c =
    let f = files (g.S.Shelf.content c.args.shelf.now) (g.S.Shelf.faults c.args.shelf.now) (g.S.Shelf.faults c.specified.new.shelf) in
    λ ticks. written_on (CarriesSpec f c.args.file.now) _ _ _ _ ticks ticks _ _ _ 0 c.refused.ensures.ends (ended_before f c.args.file.now SpecPrinted _ _ 0 c.in-Err.ensures.err) (omega arith)
