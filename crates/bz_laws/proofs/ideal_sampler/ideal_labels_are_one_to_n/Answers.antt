use Rattle.bz_laws.proofs.Labelled.{one_to}
use Rattle.bz_laws.proofs.ideal_sampler.ideal_labels_are_one_to_n.Goals as goal

pub returns : goal.returns
returns c = λ n us left labels. one_to n us labels left
