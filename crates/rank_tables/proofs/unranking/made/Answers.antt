use Rattle.std.proofs.Common.{subst}
use Rattle.rank_tables.specs.Grids.{number_at}
use Rattle.rank_tables.proofs.Replaced.{IsUnderWay, under_way-on, under_way-end}
use Rattle.rank_tables.proofs.unranking.made.Goals as goal

pub returns-in_default : goal.returns-in_default
returns-in_default c = record { fulfils = under_way-end c.args.system.now c.args.counts.now.sizes (number_at c.args.counts.now) c.args.task c.steps.tasks c.steps.shape.items c.in_default.ensures.none c.steps.invariant }

pub steps-preserved : goal.steps-preserved
steps-preserved c =
    under_way-on c.args.system.now c.args.counts.now.sizes (number_at c.args.counts.now) c.args.task c.in-Some.next c.pop.new.self c.replace.new.tasks c.steps.shape.items c.replace.new.shape.items
    (subst (λ z. IsUnderWay c.args.system.now c.args.counts.now.sizes (number_at c.args.counts.now) c.args.task z c.steps.shape.items) c.in-Some.ensures.items c.steps.invariant) c.in_ok-replace.ensures.replaced
