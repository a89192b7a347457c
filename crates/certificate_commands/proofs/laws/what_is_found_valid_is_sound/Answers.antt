use Rattle.certificate_commands.proofs.Done.{found-valid, found-migrated}
use Rattle.certificate_commands.proofs.laws.what_is_found_valid_is_sound.Goals as goal

pub returns : goal.returns
returns c = record { verify = found-valid; migrate = found-migrated }
