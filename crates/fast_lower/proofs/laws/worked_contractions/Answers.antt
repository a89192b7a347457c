use Rattle.fast_lower.proofs.Examples.{greater_pre_fixed, greater_slope, greater_refused, atom_fast}
use Rattle.fast_lower.proofs.laws.worked_contractions.Goals as goal

pub returns-clause-greater_pre_fixed : goal.returns-clause-greater_pre_fixed
returns-clause-greater_pre_fixed c = greater_pre_fixed

pub returns-clause-greater_slope : goal.returns-clause-greater_slope
returns-clause-greater_slope c = greater_slope

pub returns-clause-greater_refused : goal.returns-clause-greater_refused
returns-clause-greater_refused c = greater_refused

pub returns-clause-atom : goal.returns-clause-atom
returns-clause-atom c = atom_fast
