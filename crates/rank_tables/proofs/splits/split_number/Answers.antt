use Rattle.std.proofs.Common.{◌≡◌, ◌+◌, ◌-◌, ◌*◌, ◌^◌, ◌<◌, ◌≤◌, suc, arith, refl, sym, subst, add-one}
use Rattle.rank_tables.specs.Capped.{Tells}
use Rattle.rank_tables.specs.TableRule.{sum_below}
use Rattle.rank_tables.proofs.SumTerms.{split-at}
use Rattle.rank_tables.proofs.splits.split_number.Goals as goal
use Rattle.rank_tables.proofs.splits.split_number.Goals.{in_default-via-in-Some+else-term-more, in_default-via-in_default}

pub loop-j-preserved : goal.loop-j-preserved
loop-j-preserved c = λ f g h k.
    (let left = subst (λ v. Tells v (f c.loop-j.j)) (sym c.at.ensures.exact) (h c.loop-j.j (omega arith)) in
    let right = subst (λ v. Tells v (g (c.args.n - c.loop-j.j))) (sym c.at-rests.ensures.exact) (k (c.args.n - c.loop-j.j) (omega arith)) in
    let term = c.times.ensures (f c.loop-j.j) (g (c.args.n - c.loop-j.j)) left right in
    let is : c.in-Some.term ≡ f c.loop-j.j * g (c.args.n - c.loop-j.j) = subst (λ v. Tells v (f c.loop-j.j * g (c.args.n - c.loop-j.j))) c.in-Some.is term in
    let so_far = c.loop-j.invariant f g h k in
    let step : sum_below (suc c.loop-j.j) (λ i. f i * g (c.args.n - i)) ≡ sum_below c.loop-j.j (λ i. f i * g (c.args.n - i)) + f c.loop-j.j * g (c.args.n - c.loop-j.j) = refl in
    let fits = c.if-term-more.true in
    subst (λ m. c.args.number ≡ sum_below m (λ i. f i * g (c.args.n - i)) + (c.loop-j.more - c.in-Some.term)) (sym (add-one c.loop-j.j)) (omega arith))

pub returns-in_default : goal.returns-in_default
returns-in_default c = λ f g h k lt.
    (let left = subst (λ v. Tells v (f c.loop-j.j)) (sym c.at.ensures.exact) (h c.loop-j.j (omega arith)) in
    let right = subst (λ v. Tells v (g (c.args.n - c.loop-j.j))) (sym c.at-rests.ensures.exact) (k (c.args.n - c.loop-j.j) (omega arith)) in
    let term = c.times.ensures (f c.loop-j.j) (g (c.args.n - c.loop-j.j)) left right in
    let below : c.loop-j.more < f c.loop-j.j * g (c.args.n - c.loop-j.j) = elim c.in_default.branch [
      | in_default-via-in-Some+else-term-more w ↦
          let is : w.in-Some.term ≡ f c.loop-j.j * g (c.args.n - c.loop-j.j) = subst (λ v. Tells v (f c.loop-j.j * g (c.args.n - c.loop-j.j))) w.in-Some.is term in
          let past = w.if-term-more.false in
          omega arith
      | in_default-via-in_default w ↦
          let large : 2 ^ 128 ≤ f c.loop-j.j * g (c.args.n - c.loop-j.j) = subst (λ v. Tells v (f c.loop-j.j * g (c.args.n - c.loop-j.j))) w.in_default.is term in
          let fits = c.loop-j.auto.more-fits in
          omega arith
    ] in
    let parts = c.divide.ensures.divided (f c.loop-j.j) (g (c.args.n - c.loop-j.j)) right below in
    split-at f g c.args.n c.args.number c.loop-j.j c.loop-j.more c.divide.result c.divide.ensures.first (omega arith) parts.0 parts.1 (c.loop-j.invariant f g h k) parts.2)

pub returns : goal.returns
returns c = λ f g h k lt.
    (let past = c.loop-j-test.false in
    let end = c.loop-j.auto.j-end in
    let e : c.loop-j.j ≡ suc c.args.n = omega arith in
    let all = subst (λ m. c.args.number ≡ sum_below m (λ i. f i * g (c.args.n - i)) + c.loop-j.more) e (c.loop-j.invariant f g h k) in
    let whole : sum_below (suc c.args.n) (λ i. f i * g (c.args.n - i)) ≡ sum_below c.args.n (λ i. f i * g (c.args.n - i)) + f c.args.n * g (c.args.n - c.args.n) = refl in
    absurd (omega arith))
