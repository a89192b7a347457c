-- Where the last kept option up to the room is below v, so are all before it.
use Rattle.std.proofs.Common.{◌≡◌, ◌≤◌, false, arith}
use Rattle.std.proofs.lemmas.Bool.{lt-leb}
use Rattle.count_draw.specs.Table.{lower_at, reaches_at}
use Rattle.count_draw.proofs.PartialValues.{fails-earlier}
use Rattle.count_draw.proofs.prefix_sums.LowerRow.least_kept.Goals as goal
use Rattle.count_draw.proofs.prefix_sums.LowerRow.least_kept.Goals.{then-to-from-via-then-to-from, then-to-from-via-else-to-from+then-self-to}

pub returns-then-to-from-clause-none : goal.returns-then-to-from-clause-none
returns-then-to-from-clause-none g c =
    let inside : c.min-to.result ≤ c.args.self.now.run.place = omega (arith, c.min-to.ensures) in
    elim c.then-to-from.branch [
      | then-to-from-via-then-to-from w ↦ record { upto = λ j from kept within. let never : ⊥ = omega (arith, w.if-to-from.true, c.min-to.ensures, c.low-from.ensures.first, c.room.ensures.asked) in absurd never }
      | then-to-from-via-else-to-from+then-self-to w ↦
          let failing : reaches_at g.row.F c.args.sums.now c.args.v c.min-to.result ≡ false = lt-leb c.args.v (lower_at g.row.F c.args.sums.now c.min-to.result) (omega (arith, w.if-self-to.true, c.requires.row.kept.at c.min-to.result inside)) in
          record { upto = λ j from kept within. fails-earlier g.row.F c.args.sums.now c.args.v j c.min-to.result (omega (arith, c.min-to.ensures, c.room.ensures.asked)) failing }
    ]
