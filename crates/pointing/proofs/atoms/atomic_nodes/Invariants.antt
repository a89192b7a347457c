use Rattle.std.proofs.Common.{◌≡◌, take, map}
use Rattle.pointing.specs.Forms.{all_forms}
use Rattle.pointing.specs.Atoms.{is_atomic}
use Rattle.pointing.proofs.atoms.atomic_nodes.Given as goal

abbrev pub invariant-loop-e : goal.invariant-loop-e
invariant-loop-e l = l.marks.items ≡ map (is_atomic l.classes) (take l.e (all_forms l.system))
