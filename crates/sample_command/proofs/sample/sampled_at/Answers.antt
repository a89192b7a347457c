use Rattle.std.proofs.Common.{subst, sym}
use Rattle.command_words.specs.Fractions.{fraction_bits}
use Rattle.command_words.specs.declared.command.FractionBits.{FractionBits}
use Rattle.rounded_map.specs.RoundedMap.{setting}
use Rattle.size_window.specs.Drawing.{limits_of}
use Rattle.call_stages.specs.Ends.{EndsBy, output}
use Rattle.sample_command.specs.SampleCommand.{DrawnOver, source_of}
use Rattle.call_stages.specs.Stages.{Based}
use Rattle.sample_command.specs.UnderWay.{met}
use Rattle.sample_command.proofs.sample.sampled_at.Goals as goal

-- objects are drawn in units of 2^-40
pub returns-in-F40-at_fraction-clause-ends : goal.returns-in-F40-at_fraction-clause-ends
returns-in-F40-at_fraction-clause-ends g c =
    subst (λ (F : FractionBits). EndsBy (Based (setting c.args.founded.now c.args.x.num c.args.x.den (fraction_bits F)) (DrawnOver c.args.fast (setting c.args.founded.now c.args.x.num c.args.x.den (fraction_bits F)) (limits_of c.args.limits) (met (source_of c.args.tape.now) (g.S.Shelf.content c.args.shelf.now) (g.S.Shelf.faults c.args.shelf.now) (g.S.Shelf.faults c.at_fraction-sampled.new.shelf)))) (output (g.K.Sink.written c.args.out.now) (g.K.Sink.written c.at_fraction-sampled.new.out) (g.K.Sink.faults c.args.out.now) (g.K.Sink.faults c.at_fraction-sampled.new.out) c.args.steps.now c.at_fraction-sampled.new.steps) c.at_fraction-sampled.result) (sym c.in-F40-at_fraction.is) c.at_fraction-sampled.ensures.ends

-- in units of 2^-48
pub returns-in-F48-at_fraction-clause-ends : goal.returns-in-F48-at_fraction-clause-ends
returns-in-F48-at_fraction-clause-ends g c =
    let at = c.at_fraction-sampled-2 in
    subst (λ (F : FractionBits). EndsBy (Based (setting c.args.founded.now c.args.x.num c.args.x.den (fraction_bits F)) (DrawnOver c.args.fast (setting c.args.founded.now c.args.x.num c.args.x.den (fraction_bits F)) (limits_of c.args.limits) (met (source_of c.args.tape.now) (g.S.Shelf.content c.args.shelf.now) (g.S.Shelf.faults c.args.shelf.now) (g.S.Shelf.faults at.new.shelf)))) (output (g.K.Sink.written c.args.out.now) (g.K.Sink.written at.new.out) (g.K.Sink.faults c.args.out.now) (g.K.Sink.faults at.new.out) c.args.steps.now at.new.steps) at.result) (sym c.in-F48-at_fraction.is) at.ensures.ends

-- in units of 2^-52
pub returns-in-F52-at_fraction-clause-ends : goal.returns-in-F52-at_fraction-clause-ends
returns-in-F52-at_fraction-clause-ends g c =
    let at = c.at_fraction-sampled-3 in
    subst (λ (F : FractionBits). EndsBy (Based (setting c.args.founded.now c.args.x.num c.args.x.den (fraction_bits F)) (DrawnOver c.args.fast (setting c.args.founded.now c.args.x.num c.args.x.den (fraction_bits F)) (limits_of c.args.limits) (met (source_of c.args.tape.now) (g.S.Shelf.content c.args.shelf.now) (g.S.Shelf.faults c.args.shelf.now) (g.S.Shelf.faults at.new.shelf)))) (output (g.K.Sink.written c.args.out.now) (g.K.Sink.written at.new.out) (g.K.Sink.faults c.args.out.now) (g.K.Sink.faults at.new.out) c.args.steps.now at.new.steps) at.result) (sym c.in-F52-at_fraction.is) at.ensures.ends
