use Rattle.rounded_map.proofs.MapMonotone.{values_up-monotone}
use Rattle.rounded_map.proofs.laws.upper_values_are_monotone.Goals as goal

pub returns : goal.returns
returns c = λ t v w bits no_greater. values_up-monotone t v w bits no_greater
