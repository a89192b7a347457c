use Rattle.std.proofs.Common.{◌≡◌}
use Rattle.std.specs.List.{All}
use Rattle.bz_model.specs.Fraction.{Fraction}
use Rattle.size_window.specs.Drawing.{limits_of, DrawingBelongs}
use Rattle.session_pool.specs.Member.{IsNewMember}
use Rattle.session_pool.specs.Pool.{tapes_of}
use Rattle.session_pool.proofs.pool.Pool.make.Given as goal

-- so far there is a new member for each tape that was taken
abbrev pub invariant-loop-tape : goal.invariant-loop-tape
invariant-loop-tape l = record {
  same_tapes : tapes_of l.members.items ≡ l.yielded;
  each : All (λ m. IsNewMember (limits_of l.limits) m.tape m) l.members.items;
  belongs : (x : Fraction) → All (λ m. DrawingBelongs l.founded x m.drawing) l.members.items;
}
