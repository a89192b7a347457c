use Rattle.std.proofs.Common.{◌≡◌, ◌+◌, ◌-◌, ◌≤◌, ◌++◌, length, drop}
use Rattle.spec_reader.specs.Tokens.{tokens_of, tokens_from}
use Rattle.spec_reader.proofs.lexer.tokens.Given as goal

abbrev pub invariant-fronts : goal.invariant-fronts
invariant-fronts l = record {
  within : l.i ≤ length l.bytes;
  near : l.spot.line + l.spot.column ≤ l.i + 2;
  from_one : 1 ≤ l.spot.column;
  so_far : tokens_of l.bytes ≡ l.tokens.items ++ tokens_from 0 l.spot (drop l.i l.bytes);
}

abbrev pub decreases-fronts : goal.decreases-fronts
decreases-fronts l = length l.bytes - l.i
