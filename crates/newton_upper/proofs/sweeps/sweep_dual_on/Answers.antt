use Rattle.std.proofs.Common.{map, Some}
use Rattle.rounded_map.specs.RoundedMap.{setting}
use Rattle.rounded_map.specs.Derivative.{sweep_dual}
use Rattle.newton_upper.proofs.ResultsBelow.{steps-missing}
use Rattle.newton_upper.proofs.sweeps.sweep_dual_on.Goals as goal

pub returns-then-not-sweep_dual-clause-missing : goal.returns-then-not-sweep_dual-clause-missing
returns-then-not-sweep_dual-clause-missing g c = λ no.
    steps-missing (sweep_dual (setting c.args.system.now c.args.x.num c.args.x.den g.row.F) (map Some c.args.values.now)) (Some c.args.dual.now) c.loop-sweep._sweep c.args.sweeps c.loop-sweep.dual c.loop-sweep.invariant.swept (c.if-not-sweep_dual.ensures.missing no) c.loop-sweep-test.true
