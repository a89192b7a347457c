use Rattle.rounded_map.proofs.Bounding.{sweep-above}
use Rattle.rounded_map.proofs.MapMonotone.{sweep_up-post_fixed, sweep_up-at_most}
use Rattle.rounded_map.proofs.laws.upper_sweeps_keep_bounds.Goals as goal

pub returns-clause-above : goal.returns-clause-above
returns-clause-above c = λ s x F classes sound lengths entries. sweep-above s x F sound classes lengths entries

pub returns-clause-post_fixed : goal.returns-clause-post_fixed
returns-clause-post_fixed c = λ t classes bits fixed. sweep_up-post_fixed t classes bits fixed

pub returns-clause-no_greater : goal.returns-clause-no_greater
returns-clause-no_greater c = λ t classes fixed. sweep_up-at_most t classes fixed
