use Rattle.std.proofs.Common.{◌≡◌, ◌∙◌, ◌+◌, ℕ, get_or, length, sym, ap, arith}
use Rattle.fixed_enclosure.specs.Rounded.{if_fits}
use Rattle.newton_upper.specs.Below.{all_below}
use Rattle.newton_upper.specs.Newton.{sum_entry, sum_of_vectors}
use Rattle.newton_upper.proofs.ResultsBelow.{all-missing}
use Rattle.newton_upper.proofs.sweeps.sum_of_vectors.Goals as goal

pub returns-in_default-clause-exact : goal.returns-in_default-clause-exact
unfolding sum_of_vectors
returns-in_default-clause-exact c =
    sym (all-missing (sum_entry c.args.left.now c.args.right.now) c.loop-c.c (length c.args.left.now)
    (sym (c.fit.ensures.exact ∙ ap (λ (a : ℕ). if_fits (a + c.from-in-loop-c.result)) c.from.ensures ∙ ap (λ (b : ℕ). if_fits (get_or c.args.left.now c.loop-c.c 0 + b)) c.from-in-loop-c.ensures) ∙ c.in_default.is) c.loop-c-test.true)

pub returns-clause-exact : goal.returns-clause-exact
unfolding sum_of_vectors
returns-clause-exact c =
    let all : c.loop-c.c ≡ length c.args.left.now = omega arith in
    sym c.loop-c.invariant.entries ∙ ap (all_below (sum_entry c.args.left.now c.args.right.now)) all
