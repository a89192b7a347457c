use Rattle.point_command.proofs.Prints.{is-printed, is-refused}
use Rattle.point_command.proofs.laws.what_can_be_pointed_is_printed.Goals as goal

pub returns : goal.returns
returns c = record { printed = is-printed; refused = is-refused }
