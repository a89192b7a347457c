use Rattle.rounded_map.proofs.Bounding.{values-above, values-above-within, values-above-zero}
use Rattle.rounded_map.proofs.laws.bounding_entries_give_bounding_values.Goals as goal

pub returns-clause-belongs : goal.returns-clause-belongs
returns-clause-belongs c = λ s x F classes sound entries. values-above s x F sound classes entries

pub returns-clause-height : goal.returns-clause-height
returns-clause-height c = λ s x F h classes sound entries. values-above-within s x F sound classes h entries

pub returns-clause-height_zero : goal.returns-clause-height_zero
returns-clause-height_zero c = λ s x F classes sound. values-above-zero s x F sound classes
