use Rattle.bit_tape.specs.Tape.{BelongsToShelf}
use Rattle.test_ground.proofs.tapes.taken.Given as goal

-- the tape belongs to the shelf
abbrev pub invariant-counts : goal.invariant-counts
invariant-counts g l = BelongsToShelf (g.S.Shelf.content l.shelf) l.tape
