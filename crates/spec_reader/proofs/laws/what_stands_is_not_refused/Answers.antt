use Rattle.spec_reader.proofs.OneText.{accepted}
use Rattle.spec_reader.proofs.laws.what_stands_is_not_refused.Goals as goal

pub returns : goal.returns
returns c = record { accepted = accepted }
