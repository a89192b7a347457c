use Rattle.std.proofs.Common.{◌≡◌, ◌+◌, ◌-◌, sym, ◌∙◌, subst, refl, arith}
use Rattle.std.specs.Prelude.{IfSome}
use Rattle.series_bounds.specs.Running.{kind_of}
use Rattle.series_bounds.proofs.Steps.{one_bits, upper-starts, upper-next, upper-past, upper-over, upper-flat, carried_up-later, carried_up-starts, carried-next, carried_bits-up}
use Rattle.series_bounds.proofs.sums.upper_sum.Goals as goal

pub terms-init : goal.terms-init
terms-init g c = record {
  within = omega arith;
  first = λ h. omega (arith, one_bits g.row.F (omega arith));
  below = omega arith;
  bits = omega (arith, one_bits g.row.F (omega arith));
  here = carried_up-starts (kind_of c.args.kind) g.row.F c.args.a c.power_of_two-carried.result c.power_of_two-carried.ensures.exact;
  runs = upper-starts (kind_of c.args.kind) g.row.F c.args.a c.args.most c.args.low c.args.i c.power_of_two-carried.result c.power_of_two-carried.ensures.exact;
}

pub returns-then-term-gt-GREATEST-clause-exact : goal.returns-then-term-gt-GREATEST-clause-exact
returns-then-term-gt-GREATEST-clause-exact g c = sym (upper-past (kind_of c.args.kind) g.row.F c.args.a c.args.most c.args.low c.args.i c.terms.place c.terms.sum c.terms.carried _ c.term_up-term.result c.terms.invariant.within c.terms.invariant.runs c.term_up-term.ensures.exact (omega arith))

pub returns-then-total-from-clause-exact : goal.returns-then-total-from-clause-exact
returns-then-total-from-clause-exact g c = sym (upper-over (kind_of c.args.kind) g.row.F c.args.a c.args.most c.args.low c.args.i c.terms.place c.terms.sum c.terms.carried _ c.term_up-term.result c.kept_of.result (c.terms.sum + c.kept_of.result) c.terms.invariant.within c.terms.invariant.runs c.term_up-term.ensures.exact (omega arith) c.kept_of.ensures.exact refl (omega arith))

pub returns-then-place-i-clause-in_range : goal.returns-then-place-i-clause-in_range
returns-then-place-i-clause-in_range g c = carried_bits-up (kind_of c.args.kind) c.terms.place c.terms.carried c.term_up-term.result (omega arith) c.terms.invariant.first c.term_up-term.ensures.exact (omega arith)

pub carry_up-carried-requires-clause-in_range : goal.carry_up-carried-requires-clause-in_range
carry_up-carried-requires-clause-in_range g c = carried_bits-up (kind_of c.args.kind) c.terms.place c.terms.carried c.term_up-term.result (omega arith) c.terms.invariant.first c.term_up-term.ensures.exact (omega arith)

pub returns-then-is_flat-clause-exact : goal.returns-then-is_flat-clause-exact
returns-then-is_flat-clause-exact g c = c.flat_sum.ensures.exact ∙ sym (upper-flat (kind_of c.args.kind) g.row.F c.args.a c.args.most c.args.low c.args.i c.terms.place c.terms.sum c.terms.carried _ c.term_up-term.result c.kept_of.result (c.from.result + c.from-in-terms.result) c.terms.invariant.within c.terms.invariant.runs c.term_up-term.ensures.exact (omega arith) c.kept_of.ensures.exact (omega arith) (c.if-is_flat.ensures.flat refl))

pub returns-then-is_flat-clause-last : goal.returns-then-is_flat-clause-last
returns-then-is_flat-clause-last g c =
    let later = carried_up-later (kind_of c.args.kind) g.row.F c.args.a (c.args.i - c.terms.place) c.terms.place c.args.i c.terms.carried (omega arith) c.terms.invariant.here (c.if-is_flat.ensures.flat refl) in
    subst (λ q. IfSome c.flat_sum.result (λ s. s.carried ≡ q)) later c.flat_sum.ensures.last

pub terms-preserved : goal.terms-preserved
terms-preserved g c = record {
  within = omega arith;
  first = λ h. omega arith;
  below = omega arith;
  bits = c.carry_up-carried.ensures.within;
  here = carried-next (kind_of c.args.kind) g.row.F c.args.a c.terms.place c.terms.carried c.carry_up-carried.result c.terms.invariant.here c.carry_up-carried.ensures.exact;
  runs = upper-next (kind_of c.args.kind) g.row.F c.args.a c.args.most c.args.low c.args.i c.terms.place c.terms.sum c.terms.carried _ c.term_up-term.result c.kept_of.result (c.from.result + c.from-in-terms.result) c.carry_up-carried.result (omega arith) c.terms.invariant.runs c.term_up-term.ensures.exact (omega arith) c.kept_of.ensures.exact (omega arith) c.carry_up-carried.ensures.exact;
}
