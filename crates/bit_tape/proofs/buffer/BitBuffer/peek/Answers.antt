-- The three bytes are the first three that are read ahead.
use Rattle.std.proofs.Common.{◌+◌, ◌*◌, ◌/◌, ◌%◌, ◌<◌, ◌≤◌, length, take, drop, arith, subst, length-take, length-drop}
use Rattle.bit_tape.specs.Buffer.{Ahead, LooksAhead}
use Rattle.bit_tape.proofs.PeekedBits.{bit_of_peeked}
use Rattle.bit_tape.proofs.buffer.BitBuffer.peek.Goals as goal

pub returns : goal.returns
returns c =
    let at = c.self.inside.at in
    let bytes = take c.self.inside.filled c.self.inside.bytes in
    let many = length-take c.self.inside.filled c.self.inside.bytes in
    let left = length-drop (at / 8) bytes in
    let fits : c.byte_at-second.result < 256 = omega arith in
    let third_fits : c.byte_at-third.result < 256 = omega arith in
    let few : c.min.result ≤ 16 = omega (arith, c.min.ensures) in
    let held : at % 8 + c.min.result ≤ 8 * length (drop (at / 8) bytes) = omega (arith, c.min.ensures, many, left, c.self.invariant) in
    let now : Ahead = record { bytes = drop (at / 8) bytes; bit = at % 8 } in
    let looks : LooksAhead now c.word_from.result c.min.result = record {
      few = few;
      held = held;
      bits = λ i less. bit_of_peeked bytes (at / 8) (at % 8) c.byte_at-first.result c.byte_at-second.result c.byte_at-third.result c.word_from.result i (omega arith) (omega arith) fits third_fits c.byte_at-first.ensures c.byte_at-second.ensures c.byte_at-third.ensures c.word_from.ensures;
    } in
    subst (λ a. LooksAhead a c.word_from.result c.min.result) c.self.view_is looks
