-- The parts before are passed.
use Rattle.std.proofs.Common.{◌≡◌, [], take, drop}
use Rattle.bz_model.specs.ObjectText.{rotated_to}
use Rattle.object_text.proofs.output.first_with.Given as goal

abbrev pub invariant-loop-i : goal.invariant-loop-i
invariant-loop-i l = rotated_to l.label (take l.i l.parts) (drop l.i l.parts) ≡ rotated_to l.label [] l.parts
