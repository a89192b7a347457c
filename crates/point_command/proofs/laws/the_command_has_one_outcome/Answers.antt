use Rattle.point_command.proofs.Printing.{one-carried}
use Rattle.point_command.proofs.laws.the_command_has_one_outcome.Goals as goal

pub returns : goal.returns
returns c = record { one = one-carried }
