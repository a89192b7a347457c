use Rattle.bit_tape.specs.Tape.{BelongsToShelf}
use Rattle.test_ground.proofs.tapes.take_bits.Given as goal

-- the tape belongs to the shelf
abbrev pub invariant-bits : goal.invariant-bits
invariant-bits g l = BelongsToShelf (g.S.Shelf.content l.shelf) l.tape
