-- The first tokens were pushed.
use Rattle.std.proofs.Common.{◌≡◌, take}
use Rattle.object_text.proofs.parsed.Partial.shape.Given as goal

abbrev pub invariant-loop-token : goal.invariant-loop-token
invariant-loop-token l = l.shape.items ≡ take l.token-index l.token-items
