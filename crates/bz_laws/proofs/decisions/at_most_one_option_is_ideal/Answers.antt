use Rattle.bz_laws.proofs.Options.{unique}
use Rattle.bz_laws.proofs.decisions.at_most_one_option_is_ideal.Goals as goal

pub returns : goal.returns
returns c = unique
