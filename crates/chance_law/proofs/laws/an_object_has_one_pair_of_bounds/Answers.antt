use Rattle.chance_law.proofs.OneChance.{one-chance}
use Rattle.chance_law.proofs.laws.an_object_has_one_pair_of_bounds.Goals as goal

pub returns : goal.returns
returns c = record { one = one-chance }
