-- A step goes on after an option that fails, and so do all before it; where the room fails, none is found.
use Rattle.std.proofs.Common.{◌≡◌, ◌+◌, arith, false, sym, ◌∙◌, ap, refl}
use Rattle.count_draw.specs.Table.{Filling, reaches_at}
use Rattle.count_draw.proofs.PartialValues.{least-none, fails-earlier, fails-before}
use Rattle.count_draw.proofs.partial_sums.CountSums.bracket.Goals as goal

pub returns-then-to-self-clause-none : goal.returns-then-to-self-clause-none
returns-then-to-self-clause-none g c =
    let failing : reaches_at g.row.F c.args.self.now c.args.v c.steps.to ≡ false = sym c.reaches.ensures.exact ∙ c.if-reaches.false in
    let room : c.args.self.now.room ≡ c.self.inside.room = ap (λ (t : Filling). t.room) (sym c.self.view_is) in
    least-none g.row.F c.args.self.now c.args.v (fails-earlier g.row.F c.args.self.now c.args.v c.args.self.now.room c.steps.to (omega arith) failing)

pub steps-preserved : goal.steps-preserved
steps-preserved g c =
    let kept = c.steps.invariant in
    let failing : reaches_at g.row.F c.args.self.now c.args.v c.steps.to ≡ false = sym c.reaches.ensures.exact ∙ c.if-reaches.false in
    let low : c.args.self.now.low ≡ c.self.inside.low = ap (λ (t : Filling). t.low) (sym c.self.view_is) in
    let room : c.args.self.now.room ≡ c.self.inside.room = ap (λ (t : Filling). t.room) (sym c.self.view_is) in
    record {
      low = omega (arith, kept.low, kept.order);
      order = omega (arith, kept.low, kept.order, c.min-to.ensures);
      room = omega (arith, c.min-to.ensures);
      before = λ j from below. fails-before g.row.F c.args.self.now c.args.v c.steps.to (c.steps.to + 1) j refl below failing;
    }
