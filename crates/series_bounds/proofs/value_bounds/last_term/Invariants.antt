use Rattle.std.proofs.Common.{◌≡◌, ◌-◌, ◌^◌, ◌≤◌}
use Rattle.series_bounds.specs.Running.{end_up}
use Rattle.series_bounds.proofs.value_bounds.last_term.Given as goal

abbrev pub invariant-powers : goal.invariant-powers
invariant-powers g l = record {
  first : 1 ≤ l.place;
  within : l.place ≤ 4096;
  below : l.power ≤ 2 ^ g.row.F;
  search : end_up g.row.F l.a 4095 1 l.a ≡ end_up g.row.F l.a (4096 - l.place) l.place l.power;
}

abbrev pub decreases-powers : goal.decreases-powers
decreases-powers g l = 4096 - l.place
