use Rattle.rank_commands.proofs.OneOutcome.{one-count, one-unrank, one-rank}
use Rattle.rank_commands.proofs.laws.each_command_has_one_outcome.Goals as goal

pub returns : goal.returns
returns c = record { count = one-count; unrank = one-unrank; rank = one-rank }
