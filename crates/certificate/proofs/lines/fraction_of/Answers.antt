-- A number above those of 32 bits.
use Rattle.std.proofs.Common.{arith}
use Rattle.certificate.proofs.ReadLines.{no-fraction}
use Rattle.certificate.proofs.lines.fraction_of.Goals as goal

pub returns-then-bits-from-clause-none : goal.returns-then-bits-from-clause-none
returns-then-bits-from-clause-none c = no-fraction c.args.line.now c.read_whole.new.numbers c.if-not-read_whole.ensures.found (omega (arith, c.if-bits-from.true, c.from.ensures))
