use Rattle.std.proofs.Common.{◌≡◌, ◌∙◌, length, sym, ap, arith}
use Rattle.newton_upper.specs.Below.{all_below}
use Rattle.newton_upper.specs.Candidates.{widened_entry, widened}
use Rattle.newton_upper.proofs.ResultsBelow.{all-missing}
use Rattle.newton_upper.proofs.sweeps.widened.Goals as goal

pub returns-in_default-clause-exact : goal.returns-in_default-clause-exact
unfolding widened
returns-in_default-clause-exact c =
    sym (all-missing (widened_entry c.args.y.now c.args.dual.now c.args.factor) c.loop-c.c (length c.args.y.now) (sym c.widened_entry.ensures ∙ c.in_default.is) c.loop-c-test.true)

pub returns-clause-exact : goal.returns-clause-exact
unfolding widened
returns-clause-exact c =
    let all : c.loop-c.c ≡ length c.args.y.now = omega arith in
    sym c.loop-c.invariant.entries ∙ ap (all_below (widened_entry c.args.y.now c.args.dual.now c.args.factor)) all
