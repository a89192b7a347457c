use Rattle.std.proofs.Common.{refl}
use Rattle.rounded_map.proofs.upper.node_hi.Goals as goal

pub bounds-before-part : goal.bounds-before-part
bounds-before-part g c = (rw c.in-Seq.is at c.requires.parts).at 0 _ refl

pub sequence_hi-requires : goal.sequence_hi-requires
sequence_hi-requires g c = record { fraction_bits = c.requires.fraction_bits; range = rw c.in-Seq.is at c.requires.range }

pub bounds-before-part-in-Set : goal.bounds-before-part-in-Set
bounds-before-part-in-Set g c = (rw c.in-Set.is at c.requires.parts).at 0 _ refl

pub set_hi-requires : goal.set_hi-requires
set_hi-requires g c = record { fraction_bits = c.requires.fraction_bits; range = rw c.in-Set.is at c.requires.range }

pub bounds-before-part-in-Cyc : goal.bounds-before-part-in-Cyc
bounds-before-part-in-Cyc g c = (rw c.in-Cyc.is at c.requires.parts).at 0 _ refl

pub cycle_hi-requires : goal.cycle_hi-requires
cycle_hi-requires g c = record { fraction_bits = c.requires.fraction_bits; range = rw c.in-Cyc.is at c.requires.range }
