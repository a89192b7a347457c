use Rattle.entry_replay.proofs.Fronts.{front-more, front-other}
use Rattle.entry_replay.proofs.replay.behind.Goals as goal

pub loop-cell-preserved : goal.loop-cell-preserved
loop-cell-preserved c = front-more c.args.front.now c.args.cells.now c.loop-cell.rest.now c.in-Some.next.now c.loop-cell.cell-index (record { k = 0; b = 0 }) c.loop-cell-test.true c.loop-cell.invariant c.in-Some.ensures.found
