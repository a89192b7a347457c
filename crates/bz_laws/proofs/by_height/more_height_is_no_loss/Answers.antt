use Rattle.bz_laws.proofs.Heights.{within-up_to}
use Rattle.bz_laws.proofs.by_height.more_height_is_no_loss.Goals as goal

pub returns : goal.returns
returns c = λ s h k e o le p. within-up_to s h k le e o p
