use Rattle.chance_command.proofs.Encloses.{refused, refused-long}
use Rattle.chance_command.proofs.laws.what_is_no_object_is_refused.Goals as goal

pub returns : goal.returns
returns c = record { too_long = refused-long; refused = refused }
