-- All bytes passed are digits.
use Rattle.std.proofs.Common.{ℕ, ◌<◌, ◌≤◌, get_or}
use Rattle.certificate.proofs.pattern.digits.Given as goal

abbrev pub invariant-loop-i : goal.invariant-loop-i
invariant-loop-i l = (k : ℕ) → k < l.i → (48 ≤ get_or l.text k 0) × (get_or l.text k 0 ≤ 57)
