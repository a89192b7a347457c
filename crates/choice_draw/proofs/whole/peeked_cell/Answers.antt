use Rattle.std.proofs.Common.{arith}
use Rattle.choice_draw.proofs.SeenWholes.{peeked-below}
use Rattle.choice_draw.proofs.whole.peeked_cell.Goals as goal

pub returns-clause-below : goal.returns-clause-below
returns-clause-below c = rw (c.from.ensures) (peeked-below c.args.word c.args.b (omega arith) c.requires.few_bits)
