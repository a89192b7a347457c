-- What is left is filled from here on exactly where the whole is filled, with the numbers found so far.
use Rattle.std.proofs.Common.{◌≡◌, true, ◌+◌, ◌≤◌, length, drop}
use Rattle.certificate.specs.Patterns.{places, is_apart, AreSmall}
use Rattle.certificate.proofs.Filling.{Reads}
use Rattle.certificate.proofs.pattern.read_front.Given as goal

abbrev pub invariant-loop-byte : goal.invariant-loop-byte
invariant-loop-byte l = record {
  reads : Reads l.pattern l.text l.byte-index l.next l.numbers l.rest;
  room : l.next + places (drop l.byte-index l.pattern) ≤ length l.numbers;
  small : AreSmall l.numbers;
  apart : is_apart (drop l.byte-index l.pattern) ≡ true;
}
