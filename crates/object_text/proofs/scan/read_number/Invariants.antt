-- The digits so far are those of a number in the limits.
use Rattle.std.proofs.Common.{◌≡◌, ◌≤◌, ◌++◌, length, decimal}
use Rattle.object_text.proofs.scan.read_number.Given as goal

abbrev pub invariant-loop-more : goal.invariant-loop-more
invariant-loop-more l = record { least : l.low ≤ l.n; greatest : l.n ≤ l.most; split : l.text ≡ decimal l.n ++ l.rest }

abbrev pub decreases-loop-more : goal.decreases-loop-more
decreases-loop-more l = length l.rest
