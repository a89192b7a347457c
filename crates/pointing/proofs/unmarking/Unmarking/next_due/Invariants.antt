use Rattle.std.proofs.Common.{length}
use Rattle.pointing.specs.Unmarking.{SameReading}
use Rattle.pointing.proofs.unmarking.Unmarking.next_due.Given as goal

abbrev pub invariant-dues : goal.invariant-dues
invariant-dues l = SameReading l.fn.self (record { dues = l.self-inside.dues; written = l.self-inside.written.items; told = l.self-inside.told })

abbrev pub decreases-dues : goal.decreases-dues
decreases-dues l = length l.self-inside.dues
