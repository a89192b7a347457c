-- Where the value at the further run is below v, so are those of all options before it.
use Rattle.std.proofs.Common.{◌≡◌, false, arith}
use Rattle.std.proofs.lemmas.Bool.{lt-leb}
use Rattle.count_draw.specs.Table.{lower_at, reaches_at}
use Rattle.count_draw.proofs.PartialValues.{fails-earlier}
use Rattle.count_draw.proofs.prefix_sums.LowerRow.start_for.Goals as goal

pub returns-then-self-v-clause-before : goal.returns-then-self-v-clause-before
returns-then-self-v-clause-before g c =
    let far = c.args.self.now.far in
    let failing : reaches_at g.row.F c.args.sums.now c.args.v c.args.self.now.far.place ≡ false = lt-leb c.args.v (lower_at g.row.F c.args.sums.now c.args.self.now.far.place) (omega (arith, c.requires.row.far.summed, c.if-self-v.true)) in
    record { before = λ j from less. fails-earlier g.row.F c.args.sums.now c.args.v j c.args.self.now.far.place (omega arith) failing }
