use Rattle.std.proofs.Common.{sym, subst}
use Rattle.command_words.specs.Fractions.{fraction_bits}
use Rattle.command_words.specs.declared.command.FractionBits.{FractionBits}
use Rattle.rounded_map.specs.RoundedMap.{setting}
use Rattle.size_window.specs.Drawing.{limits_of}
use Rattle.call_stages.specs.Ends.{EndsBy, output}
use Rattle.call_stages.specs.Stages.{files, Based}
use Rattle.pool_command.specs.PoolCommand.{PooledOver}
use Rattle.pool_command.proofs.pool.pooled_at.Goals as goal

-- in units of 2^-40
pub returns-in-F40-at_fraction-clause-ends : goal.returns-in-F40-at_fraction-clause-ends
returns-in-F40-at_fraction-clause-ends g c = λ before below.
    let at = c.at_fraction-pooled in
    subst (λ (F : FractionBits). EndsBy (Based (setting c.args.founded.now c.args.x.num c.args.x.den (fraction_bits F)) (PooledOver (files (g.S.Shelf.content c.args.shelf.now) before (g.S.Shelf.faults at.new.shelf)) (setting c.args.founded.now c.args.x.num c.args.x.den (fraction_bits F)) (limits_of c.args.limits) c.args.schedule.now c.args.tapes.now)) (output (g.K.Sink.written c.args.out.now) (g.K.Sink.written at.new.out) (g.K.Sink.faults c.args.out.now) (g.K.Sink.faults at.new.out) c.args.steps.now at.new.steps) at.result) (sym c.in-F40-at_fraction.is) (at.ensures.ends before below)

-- in units of 2^-48
pub returns-in-F48-at_fraction-clause-ends : goal.returns-in-F48-at_fraction-clause-ends
returns-in-F48-at_fraction-clause-ends g c = λ before below.
    let at = c.at_fraction-pooled-2 in
    subst (λ (F : FractionBits). EndsBy (Based (setting c.args.founded.now c.args.x.num c.args.x.den (fraction_bits F)) (PooledOver (files (g.S.Shelf.content c.args.shelf.now) before (g.S.Shelf.faults at.new.shelf)) (setting c.args.founded.now c.args.x.num c.args.x.den (fraction_bits F)) (limits_of c.args.limits) c.args.schedule.now c.args.tapes.now)) (output (g.K.Sink.written c.args.out.now) (g.K.Sink.written at.new.out) (g.K.Sink.faults c.args.out.now) (g.K.Sink.faults at.new.out) c.args.steps.now at.new.steps) at.result) (sym c.in-F48-at_fraction.is) (at.ensures.ends before below)

-- in units of 2^-52
pub returns-in-F52-at_fraction-clause-ends : goal.returns-in-F52-at_fraction-clause-ends
returns-in-F52-at_fraction-clause-ends g c = λ before below.
    let at = c.at_fraction-pooled-3 in
    subst (λ (F : FractionBits). EndsBy (Based (setting c.args.founded.now c.args.x.num c.args.x.den (fraction_bits F)) (PooledOver (files (g.S.Shelf.content c.args.shelf.now) before (g.S.Shelf.faults at.new.shelf)) (setting c.args.founded.now c.args.x.num c.args.x.den (fraction_bits F)) (limits_of c.args.limits) c.args.schedule.now c.args.tapes.now)) (output (g.K.Sink.written c.args.out.now) (g.K.Sink.written at.new.out) (g.K.Sink.faults c.args.out.now) (g.K.Sink.faults at.new.out) c.args.steps.now at.new.steps) at.result) (sym c.in-F52-at_fraction.is) (at.ensures.ends before below)
