use Rattle.bz_laws.proofs.Options.{Before-later}
use Rattle.bz_laws.proofs.decisions.the_comparison_grows.Goals as goal

pub returns : goal.returns
returns c = λ s x u e i j le b. Before-later le b
