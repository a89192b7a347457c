use Rattle.std.proofs.Common.{get_or, arith, sym, ◌∙◌}
use Rattle.well_founded.specs.EmptyObjects.{answer_at}
use Rattle.pointing.proofs.AtomMarks.{count-more, count-one, count-none}
use Rattle.pointing.proofs.resolving.marked_part.Goals as goal
use Rattle.pointing.proofs.resolving.marked_part.Goals.{then-is_marked+else-left-eq0, else-is_marked}

pub loop-i-preserved : goal.loop-i-preserved
loop-i-preserved c =
    let f = answer_at c.args.marks.now in
    let m = count-more f c.args.parts.now c.loop-i.i (record { 0 = 0 }) c.loop-i-test.true in
    let so_far = c.loop-i.invariant in
    elim c.if-is_marked.branch [
      | then-is_marked+else-left-eq0 w ↦ let is = w.left-is in let some = w.if-left-eq0.false in let k = count-one (f (get_or c.args.parts.now c.loop-i.i (record { 0 = 0 })).0) (sym c.is_marked.ensures ∙ w.if-is_marked.true) in omega arith
      | else-is_marked w ↦ let is = w.left-is in let k = count-none (f (get_or c.args.parts.now c.loop-i.i (record { 0 = 0 })).0) (sym c.is_marked.ensures ∙ w.if-is_marked.false) in omega arith
    ]
