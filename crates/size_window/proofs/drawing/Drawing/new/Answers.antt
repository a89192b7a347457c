-- A new drawing belongs as its session does.
use Rattle.std.proofs.Common.{arith}
use Rattle.size_window.proofs.drawing.Drawing.new.Goals as goal

pub returns-clause-belongs : goal.returns-clause-belongs
returns-clause-belongs c = λ x. record {
  session = c.in_ok-session.ensures.belongs x;
  waits = tt;
  whole = c.in_ok-session.ensures.whole;
  runs = λ going. c.in_ok-session.ensures.idle.3;
  limits = c.requires.limits;
  kept = omega arith;
  attempts = omega arith;
  turns = omega arith;
  atoms = omega arith;
}
