use Rattle.std.proofs.Common.{ℕ, List, arith, subst}
use Rattle.std.specs.Prelude.{Option}
use Rattle.bz_model.specs.Spec.{Spec}
use Rattle.command_words.specs.Fractions.{fraction_bits}
use Rattle.rounded_map.specs.RoundedMap.{setting}
use Rattle.size_window.specs.Drawing.{limits_of}
use Rattle.call_stages.specs.Ends.{EndsBy, output}
use Rattle.sample_command.specs.SampleCommand.{CarriesSample, DrawnOver, source_of, tape_in}
use Rattle.call_stages.specs.Stages.{files, Based}
use Rattle.sample_command.specs.UnderWay.{met}
use Rattle.call_stages.proofs.Endings.{written_on, ends_as}
use Rattle.call_stages.proofs.Staging.{ended_before, goes_on_with}
use Rattle.sample_command.proofs.sample.sample.Goals as goal

-- objects are drawn
pub returns-in-Ok-clause-ends : goal.returns-in-Ok-clause-ends
returns-in-Ok-clause-ends g c =
    let f = files (g.S.Shelf.content c.args.shelf.now) (g.S.Shelf.faults c.args.shelf.now) (g.S.Shelf.faults c.sampled_at.new.shelf) in
    let t = λ (s : Spec). setting s c.args.x.num c.args.x.den (fraction_bits c.args.fraction) in
    let next = λ (s : Spec). Based (t s) (DrawnOver c.args.fast (t s) (limits_of c.args.limits) (tape_in f (source_of c.args.tape.now))) in
    let ended = λ (k : List ℕ → Option (List ℕ)). λ (faults : List ℕ → ℕ). EndsBy (Based (t c.in-Ok.founded) (DrawnOver c.args.fast (t c.in-Ok.founded) (limits_of c.args.limits) (met (source_of c.args.tape.now) k faults (g.S.Shelf.faults c.sampled_at.new.shelf)))) (output (g.K.Sink.written c.args.out.now) (g.K.Sink.written c.sampled_at.new.out) (g.K.Sink.faults c.args.out.now) (g.K.Sink.faults c.sampled_at.new.out) c.args.steps.now c.sampled_at.new.steps) c.sampled_at.result in
    let drawn = subst (λ (k : List ℕ → Option (List ℕ)). ended k (g.S.Shelf.faults c.args.shelf.now)) c.in-Ok.ensures.content (subst (λ (faults : List ℕ → ℕ). ended (g.S.Shelf.content c.specified.new.shelf) faults) c.in-Ok.ensures.steady c.sampled_at.ensures.ends) in
    ends_as (next c.in-Ok.founded) (CarriesSample f c.args.file.now c.args.x c.args.tape.now c.args.limits (fraction_bits c.args.fraction) c.args.fast) _ _ _ _ _ _ _ (λ status text ticks p. goes_on_with f c.args.file.now next c.in-Ok.founded status text ticks c.in-Ok.ensures.ok p) drawn

-- the specification is refused
pub returns-in-Err-clause-ends : goal.returns-in-Err-clause-ends
returns-in-Err-clause-ends g c =
    let f = files (g.S.Shelf.content c.args.shelf.now) (g.S.Shelf.faults c.args.shelf.now) (g.S.Shelf.faults c.specified.new.shelf) in
    let t = λ (s : Spec). setting s c.args.x.num c.args.x.den (fraction_bits c.args.fraction) in
    written_on (CarriesSample f c.args.file.now c.args.x c.args.tape.now c.args.limits (fraction_bits c.args.fraction) c.args.fast) _ _ _ _ _ _ _ _ _ 0 c.refused.ensures.ends (ended_before f c.args.file.now (λ (s : Spec). Based (t s) (DrawnOver c.args.fast (t s) (limits_of c.args.limits) (tape_in f (source_of c.args.tape.now)))) _ _ 0 c.in-Err.ensures.err) (omega arith)
