-- Where the middle is below v, so are all before the option after it; where nothing lies between, the other is found.
use Rattle.std.proofs.Common.{◌≡◌, ◌+◌, ◌-◌, ◌/◌, ◌≤◌, arith, false, refl}
use Rattle.std.proofs.lemmas.Bool.{lt-leb}
use Rattle.count_draw.specs.Table.{lower_at, reaches_at}
use Rattle.count_draw.proofs.PartialValues.{fails-before, least-between}
use Rattle.count_draw.proofs.prefix_sums.LowerRow.least_between.Goals as goal

pub halves-preserved-then-self-middle : goal.halves-preserved-then-self-middle
halves-preserved-then-self-middle g c =
    let bracket = c.halves.invariant.bracket in
    let inside : c.halves.from + (c.halves.to - c.halves.from) / 2 ≤ c.args.self.now.run.place = omega (arith, c.halves.invariant.kept, c.halves-test.true) in
    let failing : reaches_at g.row.F c.args.sums.now c.args.v (c.halves.from + (c.halves.to - c.halves.from) / 2) ≡ false = lt-leb c.args.v (lower_at g.row.F c.args.sums.now (c.halves.from + (c.halves.to - c.halves.from) / 2)) (omega (arith, c.if-self-middle.true, c.requires.row.kept.at (c.halves.from + (c.halves.to - c.halves.from) / 2) inside)) in
    record {
      bracket = record {
        low = omega (arith, bracket.low);
        order = omega (arith, c.halves-test.true);
        room = bracket.room;
        before = λ j from below. fails-before g.row.F c.args.sums.now c.args.v (c.halves.from + (c.halves.to - c.halves.from) / 2) (c.halves.from + (c.halves.to - c.halves.from) / 2 + 1) j refl below failing;
        reaching = bracket.reaching;
      };
      kept = c.halves.invariant.kept;
    }

pub returns-clause-exact : goal.returns-clause-exact
returns-clause-exact g c = least-between g.row.F c.args.sums.now c.args.v c.halves.from c.halves.to c.halves.invariant.bracket (omega (arith, c.halves-test.false))
