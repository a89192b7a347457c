use Rattle.std.proofs.Common.{true}
use Rattle.rounded_map.specs.RoundedMap.{setting}
use Rattle.size_window.specs.Drawing.{limits_of}
use Rattle.call_stages.proofs.Endings.{written_on}
use Rattle.sample_command.specs.SampleCommand.{DrawnFrom}
use Rattle.sample_command.specs.Starts.{Started, start_ticks}
use Rattle.sample_command.specs.UnderWay.{met}
use Rattle.sample_command.proofs.Starting.{ended_by_start, ends_from_start}
use Rattle.sample_command.proofs.starts.drawn_fast.Goals as goal

-- there is a fast vector
pub returns-in-Ok-clause-ends : goal.returns-in-Ok-clause-ends
returns-in-Ok-clause-ends g c =
    let t = setting c.args.founded.now c.args.x.num c.args.x.den g.row.F in
    ends_from_start true t c.args.base (DrawnFrom true t (limits_of c.args.limits) (met c.args.tape.source (g.S.Shelf.content c.args.shelf.now) (g.S.Shelf.faults c.args.shelf.now) (g.S.Shelf.faults c.drawn_from.new.shelf)) c.args.base) c.in-Ok.start _ _ _ _ _ _ _ _ c.in-Ok.ensures.start c.in-Ok.ensures.ticks c.drawn_from.ensures.ends

-- there is none
pub returns-in-Err-clause-ends : goal.returns-in-Err-clause-ends
returns-in-Err-clause-ends g c =
    let t = setting c.args.founded.now c.args.x.num c.args.x.den g.row.F in
    let next = DrawnFrom true t (limits_of c.args.limits) (met c.args.tape.source (g.S.Shelf.content c.args.shelf.now) (g.S.Shelf.faults c.args.shelf.now) (g.S.Shelf.faults c.args.shelf.now)) c.args.base in
    written_on (Started true t c.args.base next) _ _ _ _ _ _ _ _ _ (start_ticks true g.row.F) c.refused.ensures.ends (ended_by_start true t c.args.base next _ _ (start_ticks true g.row.F) c.in-Err.ensures.err) c.in-Err.ensures.ticks
