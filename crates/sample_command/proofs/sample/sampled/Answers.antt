use Rattle.std.proofs.Common.{subst}
use Rattle.bit_tape.specs.Tape.{TapeSource}
use Rattle.newton_upper.specs.BaseRule.{most_ticks}
use Rattle.rounded_map.specs.RoundedMap.{setting}
use Rattle.size_window.specs.Drawing.{limits_of}
use Rattle.call_stages.specs.Ends.{EndsBy, output}
use Rattle.sample_command.specs.SampleCommand.{DrawnOver, source_of}
use Rattle.call_stages.specs.Stages.{Based}
use Rattle.sample_command.specs.UnderWay.{met}
use Rattle.call_stages.proofs.BaseSearch.{ended_by_search, ends_from_base, lacks_after_search}
use Rattle.call_stages.proofs.Endings.{written_on}
use Rattle.sample_command.proofs.sample.sampled.Goals as goal

-- objects are drawn over it
pub returns-in-Ok-tape_of-clause-ends : goal.returns-in-Ok-tape_of-clause-ends
returns-in-Ok-tape_of-clause-ends g c =
    let t = setting c.args.founded.now c.args.x.num c.args.x.den g.row.F in
    let next = λ (source : TapeSource). DrawnOver c.args.fast t (limits_of c.args.limits) (met source (g.S.Shelf.content c.args.shelf.now) (g.S.Shelf.faults c.args.shelf.now) (g.S.Shelf.faults c.drawn_over.new.shelf)) in
    ends_from_base t (next (source_of c.args.tape.now)) c.in-Ok.base _ _ _ _ _ _ _ _ c.in-Ok.ensures.base c.in-Ok.ensures.ticks
    (subst (λ (source : TapeSource). EndsBy (next source c.in-Ok.base) (output (g.K.Sink.written c.args.out.now) (g.K.Sink.written c.drawn_over.new.out) (g.K.Sink.faults c.args.out.now) (g.K.Sink.faults c.drawn_over.new.out) c.based.new.steps c.drawn_over.new.steps) c.drawn_over.result) c.in-Ok-tape_of.ensures.source c.drawn_over.ensures.ends)

-- there is no memory for the tape's name
pub returns-in-Err-tape_of-clause-ends : goal.returns-in-Err-tape_of-clause-ends
returns-in-Err-tape_of-clause-ends g c =
    let t = setting c.args.founded.now c.args.x.num c.args.x.den g.row.F in
    lacks_after_search t (DrawnOver c.args.fast t (limits_of c.args.limits) (met (source_of c.args.tape.now) (g.S.Shelf.content c.args.shelf.now) (g.S.Shelf.faults c.args.shelf.now) (g.S.Shelf.faults c.args.shelf.now))) _ _ _ _ _ c.in-Ok.ensures.ticks

-- there is no base
pub returns-in-Err-clause-ends : goal.returns-in-Err-clause-ends
returns-in-Err-clause-ends g c =
    let t = setting c.args.founded.now c.args.x.num c.args.x.den g.row.F in
    let next = DrawnOver c.args.fast t (limits_of c.args.limits) (met (source_of c.args.tape.now) (g.S.Shelf.content c.args.shelf.now) (g.S.Shelf.faults c.args.shelf.now) (g.S.Shelf.faults c.args.shelf.now)) in
    written_on (Based t next) _ _ _ _ _ _ _ _ _ (most_ticks t) c.refused.ensures.ends (ended_by_search t next _ _ (most_ticks t) c.in-Err.ensures.err) c.in-Err.ensures.ticks
