use Rattle.boltz.proofs.Complete.{bounded, baseless}
use Rattle.boltz.proofs.laws.what_can_be_bounded_is_bounded.Goals as goal

pub returns : goal.returns
returns c = record { bounded = bounded; baseless = baseless }
