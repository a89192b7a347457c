use Rattle.std.proofs.Common.{refl}
use Rattle.std.specs.Fmt.{digits}
use Rattle.chance_command.proofs.laws.worked_chances_are_printed.Goals as goal

pub returns-clause-second : goal.returns-clause-second
unfolding digits
returns-clause-second c = refl

pub returns-clause-pair : goal.returns-clause-pair
unfolding digits
returns-clause-pair c = refl
