use Rattle.std.proofs.Common.{◌≡◌, ◌+◌, ◌-◌, ◌^◌, ◌<◌, ◌≤◌, max, false}
use Rattle.bz_model.specs.Oracle.{LeavesOracle}
use Rattle.bit_tape.specs.Tape.{LeavesTape, bits_of_source}
use Rattle.choice_draw.specs.Decision.{level_for}
use Rattle.choice_draw.proofs.GivenDraws.{IsUnderWay}
use Rattle.count_draw.specs.Decision.{count_decision}
use Rattle.count_draw.proofs.leaps.draw_by_rows.Given as goal

-- the cell has the bits taken so far, their level is raised, and the draw over them goes on from it
abbrev pub invariant-bits : goal.invariant-bits
invariant-bits g l = record {
  few_bits : l.cell.b ≤ 60;
  below : l.cell.k < 2 ^ l.cell.b;
  used : l.tape.used ≡ l.fn.tape.used + l.cell.b;
  raised : g.O.Oracle.raised l.oracle ≡ max (g.O.Oracle.raised l.fn.oracle) (level_for l.cell.b);
  oracle : LeavesOracle g.O.Oracle.spec g.O.Oracle.x g.O.Oracle.table g.O.Oracle.cost g.O.Oracle.raised l.fn.oracle l.oracle l.fn.steps l.steps;
  tape : LeavesTape g.S.Shelf.content g.S.Shelf.faults false l.fn.shelf l.shelf l.fn.tape l.tape;
  draws : IsUnderWay (count_decision l.fn.system g.row.F (g.O.Oracle.table l.fn.oracle) l.fn.node.0 l.fn.room) (bits_of_source l.fn.tape.source (g.S.Shelf.content l.fn.shelf)) l.fn.tape.used l.cell l.tape.used;
}

abbrev pub decreases-bits : goal.decreases-bits
decreases-bits g l = 60 - l.cell.b
