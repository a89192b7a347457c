use Rattle.std.proofs.Common.{sym, refl, arith}
use Rattle.series_bounds.specs.Running.{kind_of}
use Rattle.series_bounds.proofs.Steps.{one_bits, lower-starts, lower-next, lower-past-before, lower-past-after, lower-last, lower-zero, lower-full, none_summed, carried_bits-down}
use Rattle.series_bounds.proofs.sums.lower_sum.Goals as goal
use Rattle.series_bounds.proofs.sums.lower_sum.Goals.{then-place-i-via-then-place-i, then-place-i-via-else-place-i+then-carried-eq0, then-place-i-via-else-place-i+else-carried-eq0+then-sum}

pub terms-init : goal.terms-init
terms-init g c = record {
  within = omega arith;
  start = λ h. refl;
  first = λ h. omega (arith, one_bits g.row.F (omega arith));
  runs = lower-starts (kind_of c.args.kind) g.row.F c.args.a c.args.low c.args.i c.power_of_two-carried.result c.power_of_two-carried.ensures.exact;
}

pub returns-then-place-low : goal.returns-then-place-low
returns-then-place-low g c = record { exact = sym (lower-past-before (kind_of c.args.kind) g.row.F c.args.a c.args.low c.args.i c.terms.place c.terms.sum c.terms.carried _ c.term_down-term.result c.terms.invariant.within c.terms.invariant.runs c.term_down-term.ensures.exact (omega arith) (omega arith)) }

pub returns-else-place-low : goal.returns-else-place-low
returns-else-place-low g c = record { exact = sym (lower-past-after (kind_of c.args.kind) g.row.F c.args.a c.args.low c.args.i c.terms.place c.terms.sum c.terms.carried _ c.term_down-term.result c.terms.invariant.within c.terms.invariant.runs c.term_down-term.ensures.exact (omega arith) (omega arith)) }

pub returns-then-place-i : goal.returns-then-place-i
returns-then-place-i g c = record {
  exact = elim c.then-place-i.branch [
    | then-place-i-via-then-place-i w ↦ lower-last (kind_of c.args.kind) g.row.F c.args.a c.args.low c.args.i c.terms.place c.terms.sum c.terms.carried _ c.term_down-term.result c.kept_of.result c.saturating_add-sum.result c.terms.invariant.within c.terms.invariant.runs c.term_down-term.ensures.exact (omega arith) c.kept_of.ensures.exact c.saturating_add-sum.ensures (omega arith)
    | then-place-i-via-else-place-i+then-carried-eq0 w ↦ lower-zero (kind_of c.args.kind) g.row.F c.args.a c.args.low c.args.i c.terms.place c.terms.sum c.terms.carried _ c.term_down-term.result c.kept_of.result c.saturating_add-sum.result c.terms.invariant.within c.terms.invariant.runs c.term_down-term.ensures.exact (omega arith) c.kept_of.ensures.exact c.saturating_add-sum.ensures (omega arith)
    | then-place-i-via-else-place-i+else-carried-eq0+then-sum w ↦ lower-full (kind_of c.args.kind) g.row.F c.args.a c.args.low c.args.i c.terms.place c.terms.sum c.terms.carried _ c.term_down-term.result c.kept_of.result c.saturating_add-sum.result c.terms.invariant.within c.terms.invariant.runs c.term_down-term.ensures.exact (omega arith) c.kept_of.ensures.exact c.saturating_add-sum.ensures c.terms.invariant.start (omega arith)
  ];
}

pub carry_down-carried-requires-clause-in_range : goal.carry_down-carried-requires-clause-in_range
carry_down-carried-requires-clause-in_range g c = carried_bits-down (kind_of c.args.kind) c.terms.place c.terms.carried c.term_down-term.result (omega arith) c.terms.invariant.first c.term_down-term.ensures.exact (omega arith)

pub terms-preserved : goal.terms-preserved
terms-preserved g c = record {
  within = omega arith;
  start = none_summed c.args.low c.terms.place c.terms.sum c.term_down-term.result c.kept_of.result c.saturating_add-sum.result c.kept_of.ensures.exact c.saturating_add-sum.ensures c.terms.invariant.start;
  first = λ h. omega arith;
  runs = lower-next (kind_of c.args.kind) g.row.F c.args.a c.args.low c.args.i c.terms.place c.terms.sum c.terms.carried _ c.term_down-term.result c.kept_of.result c.saturating_add-sum.result c.carry_down-carried.result (omega arith) c.terms.invariant.runs c.term_down-term.ensures.exact (omega arith) c.kept_of.ensures.exact c.saturating_add-sum.ensures c.carry_down-carried.ensures.exact;
}
