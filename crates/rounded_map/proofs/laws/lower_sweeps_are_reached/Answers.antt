use Rattle.rounded_map.proofs.Bounding.{sweep-below, sweeps-reached}
use Rattle.rounded_map.proofs.laws.lower_sweeps_are_reached.Goals as goal

pub returns-clause-swept : goal.returns-clause-swept
returns-clause-swept c = λ s x F classes sound lengths entries. sweep-below s x F sound classes lengths entries

pub returns-clause-from_zero : goal.returns-clause-from_zero
returns-clause-from_zero c = λ s x F n sound. sweeps-reached s x F sound n
