use Rattle.std.proofs.Common.{◌≡◌, ◌∙◌, ap, arith}
use Rattle.std.specs.Prelude.{option_and_then}
use Rattle.fixed_enclosure.specs.Rounded.{Side, mul_up}
use Rattle.series_bounds.specs.Series.{Kind, carried}
use Rattle.series_bounds.proofs.Ends.{seq_up-zero, seq_up-later, seq_from_up-none}
use Rattle.series_bounds.proofs.value_bounds.sequence_from_hi.Goals as goal

pub returns-then-low-eq0 : goal.returns-then-low-eq0
returns-then-low-eq0 g c = record { exact = c.seq.ensures.exact ∙ seq_up-zero g.row.F c.args.a.0 c.args.low c.if-low-eq0.true }

pub returns-then-from-power_of_two : goal.returns-then-from-power_of_two
returns-then-from-power_of_two g c = record { exact = seq_from_up-none g.row.F c.args.a.0 c.args.low (omega arith) (omega arith) }

pub returns-in_err-seq : goal.returns-in_err-seq
returns-in_err-seq g c =
    let last : c.loop-place.place ≡ c.args.low = omega arith in
    let power = c.loop-place.invariant.here ∙ ap (λ i. carried Side.Up Kind.Seq g.row.F c.args.a.0 i) last in
    record { exact = rw c.from_residual.ensures (ap (λ o. option_and_then (mul_up g.row.F c.loop-place.power) o) c.in_err-seq.ensures.exact ∙ seq_up-later g.row.F c.args.a.0 c.args.low c.loop-place.power (omega arith) power) }

pub returns : goal.returns
returns g c =
    let last : c.loop-place.place ≡ c.args.low = omega arith in
    let power = c.loop-place.invariant.here ∙ ap (λ i. carried Side.Up Kind.Seq g.row.F c.args.a.0 i) last in
    record { exact = c.mul.ensures.exact ∙ ap (λ o. option_and_then (mul_up g.row.F c.loop-place.power) o) c.in_ok-seq.ensures.exact ∙ seq_up-later g.row.F c.args.a.0 c.args.low c.loop-place.power (omega arith) power }
