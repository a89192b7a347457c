use Rattle.std.proofs.Common.{◌≡◌, ◌-◌, ◌*◌, add-one, arith, subst, sym}
use Rattle.rank_tables.specs.Capped.{Tells}
use Rattle.rank_tables.specs.TableRule.{sum_below}
use Rattle.rank_tables.proofs.grid.Grid.sum_before.Goals as goal

pub loop-j-preserved : goal.loop-j-preserved
loop-j-preserved c = λ f g h k.
    (let left = subst (λ v. Tells v (f c.loop-j.j)) (sym c.at.ensures.exact) (h c.loop-j.j (omega arith)) in
    let right = subst (λ v. Tells v (g (c.args.n - c.loop-j.j))) (sym c.at-in-loop-j.ensures.exact) (k (c.args.n - c.loop-j.j) (omega arith)) in
    subst (λ m. Tells c.plus-sum.result (sum_below m (λ j. f j * g (c.args.n - j)))) (sym (add-one c.loop-j.j))
    (c.plus-sum.ensures (sum_below c.loop-j.j (λ j. f j * g (c.args.n - j))) (f c.loop-j.j * g (c.args.n - c.loop-j.j)) (c.loop-j.invariant f g h k) (c.times.ensures (f c.loop-j.j) (g (c.args.n - c.loop-j.j)) left right)))

pub returns : goal.returns
returns c = λ f g h k.
    (let past = c.loop-j-test.false in
    let end = c.loop-j.auto.j-end in
    let e : c.loop-j.j ≡ c.args.terms = omega arith in
    subst (λ m. Tells c.loop-j.sum (sum_below m (λ j. f j * g (c.args.n - j)))) e (c.loop-j.invariant f g h k))
