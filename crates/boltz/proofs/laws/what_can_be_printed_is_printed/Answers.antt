use Rattle.boltz.proofs.Complete.{printed}
use Rattle.boltz.proofs.laws.what_can_be_printed_is_printed.Goals as goal

pub returns : goal.returns
returns c = record { printed = printed }
