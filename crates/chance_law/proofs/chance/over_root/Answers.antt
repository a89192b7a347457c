-- A weight over a number of units is rounded once.
use Rattle.chance_law.specs.Scaled.{value}
use Rattle.chance_law.proofs.Equal.{down-equal, up-equal, units-quotient}
use Rattle.chance_law.proofs.chance.over_root.Goals as goal

pub returns-then-root-eq0-clause-lo : goal.returns-then-root-eq0-clause-lo
returns-then-root-eq0-clause-lo g c = down-equal c.over_down-lo.result (units-quotient (value c.args.weights.lo) (value c.times_power.result) g.row.F c.args.root.hi c.requires.some c.times_power.ensures.exact) c.over_down-lo.ensures.rounded

pub returns-else-root-eq0-clause-lo : goal.returns-else-root-eq0-clause-lo
returns-else-root-eq0-clause-lo g c = down-equal c.over_down-lo.result (units-quotient (value c.args.weights.lo) (value c.times_power.result) g.row.F c.args.root.hi c.requires.some c.times_power.ensures.exact) c.over_down-lo.ensures.rounded

pub returns-else-root-eq0-clause-hi : goal.returns-else-root-eq0-clause-hi
returns-else-root-eq0-clause-hi g c = λ some. up-equal c.over_up-hi.result (units-quotient (value c.args.weights.hi) (value c.times_power-else-root-eq0.result) g.row.F c.args.root.lo some c.times_power-else-root-eq0.ensures.exact) c.over_up-hi.ensures.rounded
