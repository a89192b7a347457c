use Rattle.std.proofs.Common.{◌+◌, ◌-◌, ◌*◌, arith, refl, sym, subst}
use Rattle.rank_tables.specs.Capped.{Tells}
use Rattle.rank_tables.specs.TableRule.{sum_below}
use Rattle.rank_tables.proofs.rank_steps.joined.Goals as goal

pub returns : goal.returns
returns c = record {
  joined = record {
    size = refl;
    fits = omega arith;
    place = λ f g x y h k a b. c.plus-2.ensures (sum_below c.args.first.size (λ j. f j * g (c.args.first.size + c.args.rest.size - j)) + x * g c.args.rest.size) y
        (c.plus.ensures (sum_below c.args.first.size (λ j. f j * g (c.args.first.size + c.args.rest.size - j))) (x * g c.args.rest.size) (c.sum_before-before.ensures f g h k)
        (c.times-lesser.ensures x (g c.args.rest.size) a (subst (λ v. Tells v (g c.args.rest.size)) (sym c.at.ensures.exact) (k c.args.rest.size (omega arith)))))
        b;
  };
}
