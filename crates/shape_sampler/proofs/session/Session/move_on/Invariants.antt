-- So many moves were made, at most as many as are wanted, and the marked nodes were compared.
use Rattle.std.proofs.Common.{◌-◌, ◌≤◌}
use Rattle.shape_sampler.specs.Ahead.{MovesOn}
use Rattle.shape_sampler.specs.Compared.{AreTablesCompared}
use Rattle.shape_sampler.proofs.session.Session.move_on.Given as goal

abbrev pub invariant-moves : goal.invariant-moves
invariant-moves g l = record {
  few : l.made ≤ l.most;
  moved : MovesOn l.fn.founded (g.O.Oracle.x l.fn.oracle) g.row.F (g.O.Oracle.table l.fn.oracle) (g.O.Oracle.raised l.fn.oracle) l.made l.fn.self l.fn.tape l.self l.tape;
  compared : AreTablesCompared l.fn.founded g.row.F (g.O.Oracle.table l.fn.oracle) (g.O.Oracle.raised l.fn.oracle) l.tables l.marks;
}

abbrev pub decreases-moves : goal.decreases-moves
decreases-moves g l = l.most - l.made
