use Rattle.rounded_map.proofs.Bounding.{post_fixed-above, values-above}
use Rattle.rounded_map.proofs.EachValued.{each-value}
use Rattle.rounded_map.proofs.laws.post_fixed_vectors_bound_every_total.Goals as goal

pub returns-clause-entries : goal.returns-clause-entries
returns-clause-entries c = λ s x F classes sound fixed. post_fixed-above s x F sound classes fixed

pub returns-clause-values : goal.returns-clause-values
returns-clause-values c = λ s x F classes sound fixed. values-above s x F sound classes (post_fixed-above s x F sound classes fixed)

pub returns-clause-there : goal.returns-clause-there
returns-clause-there c = λ s x F classes sound fixed e within. each-value s x F sound classes fixed e within
