use Rattle.well_founded.proofs.Sets.{in-union}
use Rattle.well_founded.proofs.class_set.ClassSet.union.Goals as goal

pub returns : goal.returns
returns c = λ d. in-union c.args.self.0 c.args.other.0 d
