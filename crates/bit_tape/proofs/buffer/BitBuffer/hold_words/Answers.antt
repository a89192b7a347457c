use Rattle.std.proofs.Common.{arith, ap}
use Rattle.bit_tape.proofs.HeldWords.{first_bytes-ahead}
use Rattle.bit_tape.proofs.buffer.BitBuffer.hold_words.Goals as goal

pub returns-clause-bytes : goal.returns-clause-bytes
returns-clause-bytes c = first_bytes-ahead c.args.words.now.seed c.args.words.now.place c.args.count c.write_words.new.words.place c.write_words.new.bytes c.write_words.ensures.each (omega arith) (ap (λ w. w.place) c.write_words.ensures.words)
