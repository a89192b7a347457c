use Rattle.std.proofs.Common.{◌≡◌, ◌^◌, ◌≤◌}
use Rattle.fixed_enclosure.specs.Rounded.{Side}
use Rattle.series_bounds.specs.Series.{Kind, carried}
use Rattle.series_bounds.proofs.value_bounds.sequence_from_hi.Given as goal

abbrev pub invariant-loop-place : goal.invariant-loop-place
invariant-loop-place g l = record {
  below : l.power ≤ 2 ^ g.row.F;
  here : l.power ≡ carried Side.Up Kind.Seq g.row.F l.a.0 l.place;
}
