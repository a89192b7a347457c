-- What is written, followed by the rest of the pattern filled, is the whole.
use Rattle.std.proofs.Common.{◌≡◌, ◌+◌, ◌≤◌, ◌++◌, length, drop}
use Rattle.certificate.specs.Patterns.{filled, filled_from, places}
use Rattle.certificate.proofs.pattern.push_filled.Given as goal

abbrev pub invariant-loop-byte : goal.invariant-loop-byte
invariant-loop-byte l = record {
  whole : l.text.items ++ filled_from (drop l.byte-index l.pattern) l.numbers l.next ≡ l.fn.text.items ++ filled l.pattern l.numbers;
  room : l.next + places (drop l.byte-index l.pattern) ≤ length l.numbers;
}
