-- By the test whether the option is less.
use Rattle.bz_laws.proofs.ByOption.{split-at}
use Rattle.bz_laws.proofs.totals.a_list_splits_at_its_greatest_option.Goals as goal

pub returns : goal.returns
returns c = λ s x e i os h. split-at s x e i os h
