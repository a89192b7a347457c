use Rattle.std.proofs.Common.{◌≡◌, take}
use Rattle.pointing.proofs.layout.Layout.take_last.Given as goal

abbrev pub invariant-loop-number : goal.invariant-loop-number
invariant-loop-number l = l.parts ≡ take l.number-index l.number-items
