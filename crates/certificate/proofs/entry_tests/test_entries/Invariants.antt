use Rattle.std.proofs.Common.{◌≡◌, ◌+◌, ◌*◌, ◌≤◌}
use Rattle.bz_model.specs.Oracle.{AreCosts, LeavesOracle}
use Rattle.shape_sampler.specs.State.{SessionBelongs}
use Rattle.certificate.proofs.EntryTests.{AreTested}
use Rattle.certificate.proofs.entry_tests.test_entries.Given as goal

-- the entries so far pass
abbrev pub invariant-tests : goal.invariant-tests
invariant-tests g l = record {
  number : l.before.number ≡ l.entry-index;
  line : l.before.line ≡ l.fn.line + 3 * l.entry-index;
  session : SessionBelongs l.founded (g.O.Oracle.x l.fn.oracle) l.session;
  room : l.session.whole ≡ l.fn.window.greatest;
  oracle : LeavesOracle g.O.Oracle.spec g.O.Oracle.x g.O.Oracle.table g.O.Oracle.cost g.O.Oracle.raised l.fn.oracle l.oracle l.fn.steps l.steps;
  tested : AreTested l.founded g.row.F (g.O.Oracle.table l.fn.oracle) (g.O.Oracle.x l.fn.oracle) l.fn.window.least l.fn.window.greatest l.fn.line l.entries l.entry-index l.before.number l.before.place l.before.line;
}
