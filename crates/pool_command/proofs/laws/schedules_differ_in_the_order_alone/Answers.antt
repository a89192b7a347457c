use Rattle.pool_command.proofs.OnePool.{ended-twice}
use Rattle.pool_command.proofs.laws.schedules_differ_in_the_order_alone.Goals as goal

pub returns : goal.returns
returns c = record { alike = ended-twice }
