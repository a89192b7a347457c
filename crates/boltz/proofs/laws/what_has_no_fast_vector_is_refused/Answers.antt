use Rattle.boltz.proofs.Complete.{without-fast}
use Rattle.boltz.proofs.laws.what_has_no_fast_vector_is_refused.Goals as goal

pub returns : goal.returns
returns c = record { refused = without-fast }
