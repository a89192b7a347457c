use Rattle.std.proofs.Common.{get_or, arith, sym, ◌∙◌}
use Rattle.well_founded.specs.EmptyObjects.{answer_at}
use Rattle.pointing.proofs.AtomMarks.{count-more, count-one, count-none}
use Rattle.pointing.proofs.atoms.count_marked.Goals as goal
use Rattle.pointing.proofs.atoms.count_marked.Goals.{then-is_marked, else-is_marked}

pub loop-part-preserved : goal.loop-part-preserved
loop-part-preserved c =
    let f = answer_at c.args.marks.now in
    let m = count-more f c.args.parts.now c.loop-part.part-index (record { 0 = 0 }) c.loop-part-test.true in
    let so_far = c.loop-part.invariant.counted in
    let few = c.loop-part.invariant.few in
    elim c.if-is_marked.branch [
      | then-is_marked w ↦ let is = w.count-is in let k = count-one (f (get_or c.args.parts.now c.loop-part.part-index (record { 0 = 0 })).0) (sym c.is_marked.ensures ∙ w.if-is_marked.true) in record { counted = omega arith; few = omega arith }
      | else-is_marked w ↦ let is = w.count-is in let k = count-none (f (get_or c.args.parts.now c.loop-part.part-index (record { 0 = 0 })).0) (sym c.is_marked.ensures ∙ w.if-is_marked.false) in record { counted = omega arith; few = omega arith }
    ]
