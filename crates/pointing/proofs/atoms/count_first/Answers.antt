use Rattle.std.proofs.Common.{arith, take, get_or}
use Rattle.std.specs.Prelude.{false}
use Rattle.pointing.proofs.AtomMarks.{count-next, count-one, count-none}
use Rattle.pointing.proofs.atoms.count_first.Goals as goal
use Rattle.pointing.proofs.atoms.count_first.Goals.{then-mark, else-mark}

pub loop-mark-preserved : goal.loop-mark-preserved
loop-mark-preserved c =
    let bs = take c.min.result c.args.marks.now in
    let m = count-next bs c.loop-mark.mark-index c.loop-mark-test.true in
    let so_far = c.loop-mark.invariant.counted in
    let few = c.loop-mark.invariant.few in
    elim c.if-mark.branch [
      | then-mark w ↦ let is = w.count-is in let k = count-one (get_or bs c.loop-mark.mark-index false) w.if-mark.true in record { counted = omega arith; few = omega arith }
      | else-mark w ↦ let is = w.count-is in let k = count-none (get_or bs c.loop-mark.mark-index false) w.if-mark.false in record { counted = omega arith; few = omega arith }
    ]
