use Rattle.std.proofs.Common.{◌∙◌}
use Rattle.sample_command.proofs.entries.stated.Goals as goal

-- there is a value for each name
pub header_of-requires : goal.header_of-requires
header_of-requires g c = record { one_each = c.requires.one_per_class ∙ c.known.ensures.sound.bodies }
