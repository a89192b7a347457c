use Rattle.well_founded.proofs.Sets.{in-only}
use Rattle.well_founded.proofs.class_set.ClassSet.only.Goals as goal

pub returns : goal.returns
returns c = λ d. in-only c.args.class d c.requires
