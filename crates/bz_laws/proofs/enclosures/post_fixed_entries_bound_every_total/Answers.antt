use Rattle.bz_laws.proofs.Values.{post_fixed-entries, post_fixed-values}
use Rattle.bz_laws.proofs.enclosures.post_fixed_entries_bound_every_total.Goals as goal

pub returns-clause-entries : goal.returns-clause-entries
returns-clause-entries c = λ s x told entry value sound cover all_told fixed k body at. post_fixed-entries s sound.below x entry value told cover all_told fixed k body at

pub returns-clause-values : goal.returns-clause-values
returns-clause-values c = λ s x told entry value sound cover all_told fixed e t. post_fixed-values s sound.below x entry value told cover all_told fixed e t
