use Rattle.chance_command.proofs.Weighing.{one-carried}
use Rattle.chance_command.proofs.laws.the_command_has_one_outcome.Goals as goal

pub returns : goal.returns
returns c = record { one = one-carried }
