use Rattle.std.proofs.Common.{◌≡◌, ◌≢◌, ◌≤◌, [], Some, None}
use Rattle.bz_model.specs.Oracle.{AreCosts, LeavesOracle}
use Rattle.bit_tape.specs.Bits.{file_bit}
use Rattle.bit_tape.specs.Tape.{BelongsToShelf}
use Rattle.shape_sampler.specs.State.{SessionBelongs}
use Rattle.entry_replay.proofs.Attempts.{IsUnderWay}
use Rattle.entry_replay.proofs.replay.attempt.Given as goal

-- the session has the attempt after so many visits, nodes are pending, and the tape is the same but for the bits used
abbrev pub invariant-visits : goal.invariant-visits
invariant-visits g l = record {
  session : SessionBelongs l.founded (g.O.Oracle.x l.fn.oracle) l.session;
  whole : l.session.whole ≡ l.fn.session.whole;
  pending : l.session.pending ≢ [];
  stopped : l.session.stopped ≡ None;
  belongs : BelongsToShelf (λ name. Some l.shelf) l.tape;
  source : l.tape.source ≡ l.fn.tape.source;
  shelf : l.shelf ≡ l.fn.shelf;
  oracle : LeavesOracle g.O.Oracle.spec g.O.Oracle.x g.O.Oracle.table g.O.Oracle.cost g.O.Oracle.raised l.fn.oracle l.oracle l.fn.steps l.steps;
  way : IsUnderWay l.founded g.row.F (g.O.Oracle.table l.fn.oracle) l.fn.session.whole (file_bit l.fn.shelf) l.fn.tape.used l.visit l.session l.tape.used;
}
