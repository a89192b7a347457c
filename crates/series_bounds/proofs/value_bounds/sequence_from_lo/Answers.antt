use Rattle.std.proofs.Common.{◌≡◌, ◌∙◌, ap, arith}
use Rattle.fixed_enclosure.specs.Rounded.{Side}
use Rattle.series_bounds.specs.Series.{Kind, carried}
use Rattle.series_bounds.proofs.Ends.{seq_down-zero, seq_down-later, seq_from_down-full}
use Rattle.series_bounds.proofs.value_bounds.sequence_from_lo.Goals as goal

pub returns-then-low-eq0 : goal.returns-then-low-eq0
returns-then-low-eq0 g c = record { exact = c.seq.ensures.exact ∙ seq_down-zero g.row.F c.args.a.0 c.args.low c.if-low-eq0.true }

pub returns-then-from-power_of_two : goal.returns-then-from-power_of_two
returns-then-from-power_of_two g c = record { exact = seq_from_down-full g.row.F c.args.a.0 c.args.low (omega arith) (omega arith) }

pub returns : goal.returns
returns g c =
    let last : c.loop-place.place ≡ c.args.low = omega arith in
    record { exact = c.mul.ensures.exact ∙ seq_down-later g.row.F c.args.a.0 c.args.low c.loop-place.power c.seq-2.result.0 (omega arith) (c.loop-place.invariant.here ∙ ap (λ i. carried Side.Down Kind.Seq g.row.F c.args.a.0 i) last) c.seq-2.ensures.exact }
