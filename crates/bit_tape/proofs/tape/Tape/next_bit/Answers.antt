use Rattle.bit_tape.proofs.NextBits.{no_next}
use Rattle.bit_tape.proofs.tape.Tape.next_bit.Goals as goal

pub returns-in-Ended-clause-tells : goal.returns-in-Ended-clause-tells
returns-in-Ended-clause-tells g c = no_next c.args.self.now.source (g.S.Shelf.content c.args.shelf.now) c.args.self.now.used c.in-Ended.ensures.refills.1
