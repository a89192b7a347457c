use Rattle.labelling.proofs.IdealByBits.{labels-ideal}
use Rattle.labelling.proofs.laws.labels_by_bits_are_ideal.Goals as goal

pub returns : goal.returns
returns c = labels-ideal
