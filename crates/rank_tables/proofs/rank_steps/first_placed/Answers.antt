use Rattle.std.proofs.Common.{◌≡◌, map, drop, arith, ◌∙◌, ap, subst}
use Rattle.rank_tables.specs.Grids.{number_at}
use Rattle.rank_tables.specs.RankSteps.{TellStack, visit_of}
use Rattle.rank_tables.specs.Visits.{all_visited}
use Rattle.rank_tables.proofs.StackTold.{drop-no_step}
use Rattle.rank_tables.proofs.rank_steps.first_placed.Goals as goal

pub returns-in-Some : goal.returns-in-Some
returns-in-Some c =
    let past = c.loop-i-test.false in
    let e : c.loop-i.i ≡ 0 = omega arith in
    record {
      first = record {
        rest = c.pop.new.self;
        all = subst (λ z. TellStack z (all_visited c.args.system.now (number_at c.args.counts.now) (map visit_of c.args.steps.now))) c.in-Some.ensures.items
            (subst (λ z. TellStack c.loop-i.stack (all_visited c.args.system.now (number_at c.args.counts.now) (map visit_of z))) (ap (λ n. drop n c.args.steps.now) e ∙ drop-no_step c.args.steps.now) c.loop-i.invariant);
      };
    }
