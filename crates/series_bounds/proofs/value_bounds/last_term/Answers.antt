use Rattle.std.proofs.Common.{◌^◌, refl, arith, inl, inr}
use Rattle.std.proofs.Math.Nat.{le_trans}
use Rattle.std.proofs.lemmas.Nat.{pow_pos}
use Rattle.series_bounds.proofs.Ends.{end-next, end-found, last-is, falls-up}
use Rattle.series_bounds.proofs.value_bounds.last_term.Goals as goal
use Rattle.series_bounds.proofs.value_bounds.last_term.Goals.{then-powers-test+else-place-lt-MOST_TERMS, else-powers-test}

pub powers-preserved : goal.powers-preserved
powers-preserved g c = record {
  first = omega arith;
  within = omega arith;
  below = le_trans (rw c.carry_up-power.ensures.exact (falls-up c.powers.power c.args.a (2 ^ g.row.F) (pow_pos g.row.F) (omega arith))) c.powers.invariant.below;
  search = end-next g.row.F c.args.a c.powers.place c.powers.power c.carry_up-power.result _ (omega arith) (omega arith) c.carry_up-power.ensures.exact c.powers.invariant.search;
}

pub returns-clause-exact : goal.returns-clause-exact
returns-clause-exact g c = rw (c.max.ensures, c.saturating_sub.ensures) (last-is g.row.F c.args.a c.args.low c.powers.place 4095 refl (elim c.powers-test.branch [
  | then-powers-test+else-place-lt-MOST_TERMS w ↦ end-found g.row.F c.args.a c.powers.place c.powers.power _ (inr (omega arith)) c.powers.invariant.search
  | else-powers-test w ↦ end-found g.row.F c.args.a c.powers.place c.powers.power _ (inl (omega arith)) c.powers.invariant.search
]))
