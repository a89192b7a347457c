use Rattle.std.proofs.Common.{◌≡◌, ◌+◌, ◌-◌, ◌≤◌}
use Rattle.bz_model.specs.Oracle.{LeavesOracle}
use Rattle.sample_command.specs.UnderWay.{CanTurn}
use Rattle.bulk_command.specs.NoFiles.{empty_files}
use Rattle.bulk_command.specs.Running.{IsRunning}
use Rattle.bulk_command.proofs.running.draw_to_the_end.Given as goal

-- the drawing can make another turn, the oracle and the tape are the same but for levels and bits, and the run is under way
abbrev pub invariant-turns : goal.invariant-turns
invariant-turns g l = record {
  can_turn : CanTurn l.founded (g.O.Oracle.x l.initial.oracle) empty_files l.initial.drawing.limits l.drawing l.tape;
  oracle : LeavesOracle g.O.Oracle.spec g.O.Oracle.x g.O.Oracle.table g.O.Oracle.cost g.O.Oracle.raised l.initial.oracle l.oracle l.initial.steps l.steps;
  six : g.O.Oracle.raised l.oracle ≤ 6;
  source : l.tape.source ≡ l.initial.tape.source;
  running : IsRunning l.founded (g.O.Oracle.x l.initial.oracle) g.row.F (g.O.Oracle.table l.initial.oracle) l.initial.drawing.limits l.initial.tape.source l.initial.drawing l.initial.tape.used (g.O.Oracle.raised l.initial.oracle)
      → IsRunning l.founded (g.O.Oracle.x l.initial.oracle) g.row.F (g.O.Oracle.table l.initial.oracle) l.initial.drawing.limits l.initial.tape.source l.drawing l.tape.used (g.O.Oracle.raised l.oracle);
}

-- as many turns as may still be made, and one that ends
abbrev pub decreases-turns : goal.decreases-turns
decreases-turns g l = l.initial.drawing.limits.turns + 1 - l.drawing.turns
