use Rattle.boltz.proofs.Complete.{refused}
use Rattle.boltz.proofs.laws.what_is_unfit_is_refused.Goals as goal

pub returns : goal.returns
returns c = record { refused = refused }
