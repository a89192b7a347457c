-- Where the middle fails, so do all before the option after it; where nothing lies between, the other is found.
use Rattle.std.proofs.Common.{◌≡◌, ◌+◌, ◌-◌, ◌/◌, arith, false, sym, ◌∙◌, refl}
use Rattle.count_draw.specs.Table.{reaches_at}
use Rattle.count_draw.proofs.PartialValues.{fails-before, least-between}
use Rattle.count_draw.proofs.partial_sums.CountSums.least_between.Goals as goal

pub halves-preserved : goal.halves-preserved
halves-preserved g c =
    let kept = c.halves.invariant in
    let failing : reaches_at g.row.F c.args.self.now c.args.v (c.halves.from + (c.halves.to - c.halves.from) / 2) ≡ false = sym c.reaches.ensures.exact ∙ c.if-reaches.false in
    record {
      low = omega (arith, kept.low);
      order = omega arith;
      room = kept.room;
      before = λ j from below. fails-before g.row.F c.args.self.now c.args.v (c.halves.from + (c.halves.to - c.halves.from) / 2) (c.halves.from + (c.halves.to - c.halves.from) / 2 + 1) j refl below failing;
      reaching = kept.reaching;
    }

pub returns-clause-exact : goal.returns-clause-exact
returns-clause-exact g c = least-between g.row.F c.args.self.now c.args.v c.halves.from c.halves.to c.halves.invariant (omega arith)
