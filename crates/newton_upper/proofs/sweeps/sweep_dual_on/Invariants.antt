use Rattle.std.proofs.Common.{◌≡◌, ◌+◌, map, Some}
use Rattle.std.specs.Prelude.{option_and_then}
use Rattle.rounded_map.specs.RoundedMap.{setting, repeated}
use Rattle.rounded_map.specs.Derivative.{sweep_dual}
use Rattle.newton_upper.proofs.sweeps.sweep_dual_on.Given as goal

-- each sweep so far had a result, and ticked
abbrev pub invariant-loop-sweep : goal.invariant-loop-sweep
invariant-loop-sweep g l = record {
  swept : repeated (option_and_then (sweep_dual (setting l.system l.x.num l.x.den g.row.F) (map Some l.values))) l._sweep (Some l.initial.dual) ≡ Some l.dual;
  ticks : l.steps ≡ l.initial.steps + l._sweep;
}
