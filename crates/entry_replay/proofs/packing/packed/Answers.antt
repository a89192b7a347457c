use Rattle.entry_replay.proofs.FileBits.{spelled-more}
use Rattle.entry_replay.proofs.packing.packed.Goals as goal

pub loop-cell-preserved : goal.loop-cell-preserved
loop-cell-preserved c = spelled-more c.args.cells.now c.loop-cell.cell-index (record { k = 0; b = 0 }) c.loop-cell.packing c.put.new.self c.loop-cell-test.true c.loop-cell.invariant c.in_ok-put.ensures
