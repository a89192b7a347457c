use Rattle.certificate_commands.specs.VerifyCommand.{CountedEntries}
use Rattle.certificate_commands.specs.MigrateCommand.{WrittenIn2}
use Rattle.certificate_commands.proofs.Refused.{refused-line}
use Rattle.certificate_commands.proofs.laws.what_is_no_certificate_is_refused.Goals as goal

pub returns : goal.returns
returns c = record {
  verify = λ f file cert s calm line status text ticks has few bad memory h. refused-line status text ticks memory f file cert s calm line CountedEntries has few bad h;
  migrate = λ f file cert s calm line status text ticks has few bad memory h. refused-line status text ticks memory f file cert s calm line WrittenIn2 has few bad h;
}
