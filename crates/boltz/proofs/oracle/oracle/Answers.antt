use Rattle.std.proofs.Common.{arith}
use Rattle.bz_model.specs.Spec.{Spec}
use Rattle.command_words.specs.Fractions.{fraction_bits}
use Rattle.rounded_map.specs.RoundedMap.{Setting, setting}
use Rattle.boltz.specs.OracleCommand.{Bounded, CarriesOracle}
use Rattle.call_stages.specs.Outcomes.{Outcome}
use Rattle.call_stages.specs.Stages.{files, Based}
use Rattle.call_stages.proofs.Endings.{written_on, ends_as}
use Rattle.call_stages.proofs.Staging.{ended_before, goes_on_with}
use Rattle.boltz.proofs.oracle.oracle.Goals as goal

-- the classes are bounded
pub returns-in-Ok-clause-ends : goal.returns-in-Ok-clause-ends
returns-in-Ok-clause-ends g c =
    let f = files (g.S.Shelf.content c.args.shelf.now) (g.S.Shelf.faults c.args.shelf.now) (g.S.Shelf.faults c.specified.new.shelf) in
    let t = λ (s : Spec). setting s c.args.x.num c.args.x.den (fraction_bits c.args.fraction) in
    let next = λ (s : Spec). Based (t s) (Bounded (t s)) in
    ends_as (next c.in-Ok.founded) (CarriesOracle f c.args.file.now c.args.x (fraction_bits c.args.fraction)) _ _ _ _ _ _ _ (λ status text ticks p. goes_on_with f c.args.file.now next c.in-Ok.founded status text ticks c.in-Ok.ensures.ok p) c.bounded_at.ensures.ends

-- the specification is refused
pub returns-in-Err-clause-ends : goal.returns-in-Err-clause-ends
returns-in-Err-clause-ends g c =
    let f = files (g.S.Shelf.content c.args.shelf.now) (g.S.Shelf.faults c.args.shelf.now) (g.S.Shelf.faults c.specified.new.shelf) in
    let t = λ (s : Spec). setting s c.args.x.num c.args.x.den (fraction_bits c.args.fraction) in
    written_on (CarriesOracle f c.args.file.now c.args.x (fraction_bits c.args.fraction)) _ _ _ _ _ _ _ _ _ 0 c.refused.ensures.ends (ended_before f c.args.file.now (λ (s : Spec). Based (t s) (Bounded (t s))) _ _ 0 c.in-Err.ensures.err) (omega arith)
