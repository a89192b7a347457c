use Rattle.std.proofs.Common.{length}
use Rattle.pointing.specs.Writing.{SameWriting}
use Rattle.pointing.proofs.marking.Writing.next_piece.Given as goal

abbrev pub invariant-pieces : goal.invariant-pieces
invariant-pieces l = SameWriting l.fn.self (record { pieces = l.self-inside.pieces; places = l.self-inside.places.now; written = l.self-inside.written.items })

abbrev pub decreases-pieces : goal.decreases-pieces
decreases-pieces l = length l.self-inside.pieces
