use Rattle.rank_commands.proofs.Complete.{labelled_refused, range_refused}
use Rattle.rank_commands.proofs.laws.what_cannot_be_ranked_is_refused.Goals as goal

pub returns : goal.returns
returns c = record { labelled = labelled_refused; ranged = range_refused }
