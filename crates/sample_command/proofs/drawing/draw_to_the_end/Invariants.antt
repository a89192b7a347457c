use Rattle.std.proofs.Common.{◌+◌, ◌-◌, ◌≤◌, ℕ, List}
use Rattle.std.specs.Prelude.{Option, false}
use Rattle.bit_tape.specs.Tape.{LeavesTape, bits_of_source}
use Rattle.bz_model.specs.Oracle.{LeavesOracle}
use Rattle.sample_command.specs.UnderWay.{CanTurn, IsUnderWay}
use Rattle.sample_command.proofs.drawing.draw_to_the_end.Given as goal

-- the drawing can make another turn and is under way, the oracle is the same but for its levels, and no read failed
abbrev pub invariant-turns : goal.invariant-turns
invariant-turns g l = record {
  can_turn : CanTurn l.founded (g.O.Oracle.x l.initial.oracle) (g.S.Shelf.content l.initial.shelf) l.initial.drawing.limits l.drawing l.tape;
  oracle : LeavesOracle g.O.Oracle.spec g.O.Oracle.x g.O.Oracle.table g.O.Oracle.cost g.O.Oracle.raised l.initial.oracle l.oracle l.initial.steps l.steps;
  six : g.O.Oracle.raised l.oracle ≤ 6;
  tape : LeavesTape g.S.Shelf.content g.S.Shelf.faults false l.initial.shelf l.shelf l.initial.tape l.tape;
  writes : g.K.Sink.faults l.initial.out ≤ g.K.Sink.faults l.out;
  under_way : (header : List ℕ) (start : Option (List ℕ))
      → IsUnderWay l.founded (g.O.Oracle.x l.initial.oracle) g.row.F (g.O.Oracle.table l.initial.oracle) l.initial.drawing.limits (bits_of_source l.initial.tape.source (g.S.Shelf.content l.initial.shelf)) l.initial.drawing l.initial.tape.used (g.O.Oracle.raised l.initial.oracle) header start (g.K.Sink.written l.initial.out) l.initial.page.items
      → IsUnderWay l.founded (g.O.Oracle.x l.initial.oracle) g.row.F (g.O.Oracle.table l.initial.oracle) l.initial.drawing.limits (bits_of_source l.initial.tape.source (g.S.Shelf.content l.initial.shelf)) l.drawing l.tape.used (g.O.Oracle.raised l.oracle) header start (g.K.Sink.written l.out) l.page.items;
}

-- as many turns as may still be made, and one that ends
abbrev pub decreases-turns : goal.decreases-turns
decreases-turns g l = l.initial.drawing.limits.turns + 1 - l.drawing.turns
