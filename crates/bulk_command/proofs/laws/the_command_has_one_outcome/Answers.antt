use Rattle.bulk_command.proofs.OneBulk.{one-bulk}
use Rattle.bulk_command.proofs.laws.the_command_has_one_outcome.Goals as goal

pub returns : goal.returns
returns c = record { one = one-bulk }
