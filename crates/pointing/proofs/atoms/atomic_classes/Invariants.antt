use Rattle.std.proofs.Common.{◌≡◌, length, replicate}
use Rattle.std.specs.Prelude.{false}
use Rattle.well_founded.specs.EmptyObjects.{iterated}
use Rattle.pointing.specs.Atoms.{more_atomic}
use Rattle.pointing.proofs.atoms.atomic_classes.Given as goal

abbrev pub invariant-loop-round : goal.invariant-loop-round
invariant-loop-round l = l.classes.items ≡ iterated (more_atomic l.system) l._round (replicate (length l.system.bodies) false)
