use Rattle.rounded_map.proofs.Bounding.{values-below}
use Rattle.rounded_map.proofs.laws.reached_entries_give_reached_values.Goals as goal

pub returns : goal.returns
returns c = λ s x F classes sound entries. values-below s x F sound classes entries
