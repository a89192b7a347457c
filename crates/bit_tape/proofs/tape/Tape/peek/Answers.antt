use Rattle.bit_tape.proofs.PeekedBits.{shows_bits}
use Rattle.bit_tape.proofs.tape.Tape.peek.Goals as goal

pub returns : goal.returns
returns c = shows_bits c.self.inside.source c.self.inside.used c.peek.result.count c.peek.result.word c.self.inside.buffer c.args.self.now c.self.view_is c.self.invariant.0 c.self.invariant.1 c.self.invariant.2 c.peek.ensures
