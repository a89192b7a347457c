use Rattle.std.proofs.Common.{◌≡◌, suc, ◌+◌, ◌-◌, arith, sym}
use Rattle.rounded_map.specs.CountedKinds.{series_of_counted}
use Rattle.rounded_map.proofs.SlopesRunning.{slope-first, slope-more}
use Rattle.rounded_map.proofs.counted_derivative.slope_sum.Goals as goal

pub loop-place-init : goal.loop-place-init
loop-place-init g c = record {
  whole = slope-first (series_of_counted c.args.kind) g.row.F c.args.low c.args.high c.args.part _ _ (omega arith) c.power_of_two-term.ensures.exact;
  within = omega arith;
}

pub loop-place-preserved : goal.loop-place-preserved
loop-place-preserved g c = record {
  whole =
      let left : c.args.high - c.loop-place.place ≡ suc (c.args.high - (c.loop-place.place + 1)) = omega arith in
      slope-more (series_of_counted c.args.kind) c.args.low c.loop-place.place c.loop-place.sum g.row.F c.args.part _ _ c.loop-place.term c.in_ok-fitting.fitting _ _ _ left (sym c.in_ok-fitting.ensures.exact) c.next_term-term.ensures.exact c.kept-sum.ensures.exact c.loop-place.invariant.whole;
  within = omega (arith, c.loop-place.invariant.within, c.kept-sum.ensures.within);
}
