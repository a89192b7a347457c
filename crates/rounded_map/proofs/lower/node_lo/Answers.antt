use Rattle.std.proofs.Common.{refl, arith}
use Rattle.rounded_map.proofs.lower.node_lo.Goals as goal

pub bounds-before-part : goal.bounds-before-part
bounds-before-part g c = (rw c.in-Seq.is at c.requires.parts).at 0 _ refl

pub sequence_lo-requires : goal.sequence_lo-requires
sequence_lo-requires g c = (omega arith, (c.requires.fraction_bits, rw c.in-Seq.is at c.requires.range))

pub bounds-before-part-in-Set : goal.bounds-before-part-in-Set
bounds-before-part-in-Set g c = (rw c.in-Set.is at c.requires.parts).at 0 _ refl

pub set_lo-requires : goal.set_lo-requires
set_lo-requires g c = (omega arith, (c.requires.fraction_bits, rw c.in-Set.is at c.requires.range))

pub bounds-before-part-in-Cyc : goal.bounds-before-part-in-Cyc
bounds-before-part-in-Cyc g c = (rw c.in-Cyc.is at c.requires.parts).at 0 _ refl

pub cycle_lo-requires : goal.cycle_lo-requires
cycle_lo-requires g c = (omega arith, (c.requires.fraction_bits, rw c.in-Cyc.is at c.requires.range))
