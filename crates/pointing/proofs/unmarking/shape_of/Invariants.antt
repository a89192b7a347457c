use Rattle.std.proofs.Common.{◌≡◌, take}
use Rattle.pointing.proofs.unmarking.shape_of.Given as goal

abbrev pub invariant-loop-token : goal.invariant-loop-token
invariant-loop-token l = l.shape.items ≡ take l.token-index l.tokens
