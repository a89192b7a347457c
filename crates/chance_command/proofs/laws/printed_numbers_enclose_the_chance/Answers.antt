use Rattle.chance_command.proofs.Encloses.{encloses}
use Rattle.chance_command.proofs.laws.printed_numbers_enclose_the_chance.Goals as goal

pub returns : goal.returns
returns c = record { enclose = encloses }
