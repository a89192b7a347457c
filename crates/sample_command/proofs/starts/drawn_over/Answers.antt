use Rattle.std.proofs.Common.{Bool, subst, sym}
use Rattle.rounded_map.specs.RoundedMap.{setting}
use Rattle.size_window.specs.Drawing.{limits_of}
use Rattle.call_stages.specs.Ends.{EndsBy, output}
use Rattle.sample_command.specs.SampleCommand.{DrawnOver}
use Rattle.sample_command.specs.UnderWay.{met}
use Rattle.sample_command.proofs.starts.drawn_over.Goals as goal

-- from the fast vector
pub returns-then-fast-clause-ends : goal.returns-then-fast-clause-ends
returns-then-fast-clause-ends g c =
    subst (λ (b : Bool). EndsBy (DrawnOver b (setting c.args.founded.now c.args.x.num c.args.x.den g.row.F) (limits_of c.args.limits) (met c.args.tape.source (g.S.Shelf.content c.args.shelf.now) (g.S.Shelf.faults c.args.shelf.now) (g.S.Shelf.faults c.drawn_fast.new.shelf)) c.args.base) (output (g.K.Sink.written c.args.out.now) (g.K.Sink.written c.drawn_fast.new.out) (g.K.Sink.faults c.args.out.now) (g.K.Sink.faults c.drawn_fast.new.out) c.args.steps.now c.drawn_fast.new.steps) c.drawn_fast.result) (sym c.if-fast.true) c.drawn_fast.ensures.ends

-- from zero
pub returns-else-fast-clause-ends : goal.returns-else-fast-clause-ends
returns-else-fast-clause-ends g c =
    subst (λ (b : Bool). EndsBy (DrawnOver b (setting c.args.founded.now c.args.x.num c.args.x.den g.row.F) (limits_of c.args.limits) (met c.args.tape.source (g.S.Shelf.content c.args.shelf.now) (g.S.Shelf.faults c.args.shelf.now) (g.S.Shelf.faults c.drawn_from_zero.new.shelf)) c.args.base) (output (g.K.Sink.written c.args.out.now) (g.K.Sink.written c.drawn_from_zero.new.out) (g.K.Sink.faults c.args.out.now) (g.K.Sink.faults c.drawn_from_zero.new.out) c.args.steps.now c.drawn_from_zero.new.steps) c.drawn_from_zero.result) (sym c.if-fast.false) c.drawn_from_zero.ensures.ends
