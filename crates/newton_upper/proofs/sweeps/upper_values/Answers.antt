use Rattle.std.proofs.Common.{◌∙◌, List, ℕ, Some, sym, ap, arith}
use Rattle.rounded_map.specs.RoundedMap.{setting, all_values, values_up}
use Rattle.newton_upper.specs.Candidates.{upper_values}
use Rattle.newton_upper.proofs.Columns.{written-whole}
use Rattle.newton_upper.proofs.FixedTest.{all-there, one-missing}
use Rattle.newton_upper.proofs.sweeps.upper_values.Goals as goal

pub returns-in-Ok-clause-exact : goal.returns-in-Ok-clause-exact
unfolding upper_values
returns-in-Ok-clause-exact g c =
    ap (λ (v : List ℕ). Some v) (c.of.ensures.same ∙ written-whole _ _ _ (omega arith)) ∙ sym (all-there c.eval_hi.new.nodes) ∙ ap all_values c.in-Ok.ensures.values

pub returns-in-Err-clause-exact : goal.returns-in-Err-clause-exact
unfolding upper_values
returns-in-Err-clause-exact g c =
    sym (one-missing (values_up (setting c.args.system.now c.args.x.num c.args.x.den g.row.F) c.args.classes.now) c.in-Err.field-0.node.0 c.in-Err.ensures.fault.within c.in-Err.ensures.fault.missing)
