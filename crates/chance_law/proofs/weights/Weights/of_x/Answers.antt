-- A whole number over another is rounded once.
use Rattle.chance_law.proofs.Equal.{down-equal, up-equal, ratio-is}
use Rattle.chance_law.proofs.weights.Weights.of_x.Goals as goal

pub returns-clause-lo : goal.returns-clause-lo
returns-clause-lo c = down-equal c.over_down.result (ratio-is _ c.args.x.num c.args.x.den c.whole-num.ensures.exact) c.over_down.ensures.rounded

pub returns-clause-hi : goal.returns-clause-hi
returns-clause-hi c = up-equal c.over_up.result (ratio-is _ c.args.x.num c.args.x.den c.whole-num.ensures.exact) c.over_up.ensures.rounded
