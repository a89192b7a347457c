use Rattle.chance_command.proofs.Encloses.{weighed, baseless}
use Rattle.chance_command.proofs.laws.what_can_be_weighed_is_weighed.Goals as goal

pub returns : goal.returns
returns c = record { weighed = weighed; baseless = baseless }
