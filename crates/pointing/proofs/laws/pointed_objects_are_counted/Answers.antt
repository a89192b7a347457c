use Rattle.pointing.specs.Atoms.{is_atomic_node}
use Rattle.pointing.specs.PointedSpec.{pointed_spec}
use Rattle.pointing.proofs.Counting.{times-counted}
use Rattle.pointing.proofs.Onward.{pointed-corresponds}
use Rattle.pointing.proofs.laws.pointed_objects_are_counted.Goals as goal

pub returns : goal.returns
returns c = λ s able k body b n at told is_b os ms h j. times-counted s (pointed_spec s) (is_atomic_node s) body b (pointed-corresponds s able k body b at told is_b) n os ms h j
