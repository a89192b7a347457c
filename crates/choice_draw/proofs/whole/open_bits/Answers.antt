use Rattle.std.proofs.Common.{arith, refl}
use Rattle.choice_draw.proofs.SeenWholes.{open-bits}
use Rattle.choice_draw.proofs.whole.open_bits.Goals as goal

pub returns-clause-open : goal.returns-clause-open
returns-clause-open c = (open-bits c.args.m _ c.requires (omega arith) refl).0

pub returns-clause-most : goal.returns-clause-most
returns-clause-most c = (open-bits c.args.m _ c.requires (omega arith) refl).1
