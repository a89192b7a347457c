use Rattle.std.proofs.Common.{◌≡◌, ◌+◌}
use Rattle.rounded_map.specs.RoundedMap.{setting, repeated, sweep_down}
use Rattle.newton_upper.proofs.sweeps.sweep_on.Given as goal

-- the entries are those after the sweeps so far, each of which ticked
abbrev pub invariant-loop-sweep : goal.invariant-loop-sweep
invariant-loop-sweep g l = record {
  swept : l.classes ≡ repeated (sweep_down (setting l.system l.x.num l.x.den g.row.F)) l._sweep l.initial.classes;
  ticks : l.steps ≡ l.initial.steps + l._sweep;
}
