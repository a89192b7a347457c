use Rattle.std.proofs.Common.{◌≡◌, ◌≤◌, take}
use Rattle.object_store.specs.Tokens.{size_of}
use Rattle.pointing.proofs.unmarking.dots_of.Given as goal

abbrev pub invariant-loop-token : goal.invariant-loop-token
invariant-loop-token l = record {
  counted : l.dots ≡ size_of (take l.token-index l.tokens);
  few : l.dots ≤ l.token-index;
}
