use Rattle.std.specs.Prelude.{Some}
use Rattle.bit_tape.specs.Tape.{BelongsToShelf}
use Rattle.test_ground.proofs.tapes.words_of.Given as goal

-- the tape belongs to the shelf
abbrev pub invariant-words : goal.invariant-words
invariant-words l = BelongsToShelf (λ _. Some l.shelf) l.tape
