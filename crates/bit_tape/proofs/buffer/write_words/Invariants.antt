-- The first i words were written, and the generator stands after them.
use Rattle.std.proofs.Common.{◌≡◌, ◌+◌, ◌*◌, length}
use Rattle.bit_tape.specs.Source.{AreFirstBytes}
use Rattle.bit_tape.proofs.buffer.write_words.Given as goal

abbrev pub invariant-loop-i : goal.invariant-loop-i
invariant-loop-i l = record {
  length : length l.bytes ≡ length l.initial.bytes;
  each : AreFirstBytes l.initial.words.seed l.initial.words.place (4 * l.i) l.bytes;
  words : l.words ≡ record l.initial.words { place = l.initial.words.place + l.i };
}
