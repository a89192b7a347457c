use Rattle.std.proofs.Common.{◌∙◌, ◌-◌, arith, get_or}
use Rattle.rounded_map.proofs.Entries.{swept-more, swept-all}
use Rattle.newton_upper.proofs.Columns.{there-at, at_each-self}
use Rattle.newton_upper.proofs.newton.take_units_off.Goals as goal

pub loop-c-preserved : goal.loop-c-preserved
loop-c-preserved c =
    swept-more (λ a b. a - 256) c.loop-c.entries c.args.entries.now c.loop-c.c c.saturating_sub.result (get_or c.args.entries.now c.loop-c.c 0) _ (omega arith) (there-at c.args.entries.now c.loop-c.c c.loop-c-test.true) c.saturating_sub.ensures c.loop-c.invariant

pub returns : goal.returns
returns c = swept-all (λ a b. a - 256) c.loop-c.entries c.args.entries.now c.loop-c.c _ (omega arith) c.loop-c.invariant ∙ at_each-self (λ v. v - 256) c.args.entries.now
