use Rattle.pool_command.proofs.OnePool.{one-carried}
use Rattle.pool_command.proofs.laws.the_command_has_one_outcome.Goals as goal

pub returns : goal.returns
returns c = record { one = one-carried }
