use Rattle.std.proofs.Common.{arith, ◌∙◌, sym}
use Rattle.well_founded.proofs.Marked.{widened-start, widened-set, widened-keep, widened-all}
use Rattle.well_founded.proofs.inhabited.mark_more.Goals as goal
use Rattle.well_founded.proofs.inhabited.mark_more.Goals.{then-not-is_marked+then-gets, else-not-is_marked, else-not-is_marked-via-then-not-is_marked+else-gets, else-not-is_marked-via-else-not-is_marked}

pub loop-e-init : goal.loop-e-init
loop-e-init c = widened-start _ _ _ c.requires.all_right

pub loop-e-preserved : goal.loop-e-preserved
loop-e-preserved c = elim c.if-not-is_marked.branch [
  | then-not-is_marked+then-gets w ↦ widened-set _ _ _ _ _ _ _ _ c.loop-e.invariant (omega (arith, c.node_count-e-end.ensures.count)) (sym c.is_marked.ensures ∙ w.if-not-is_marked.true) (w.gets.ensures.0 w.if-gets.true) w.marks-is w.marked-is
  | else-not-is_marked w ↦ elim w.else-not-is_marked.branch [
    | else-not-is_marked-via-then-not-is_marked+else-gets v ↦ widened-keep _ _ _ _ _ _ _ _ c.loop-e.invariant (λ g. absurd (let k = v.gets.ensures.1 g in cc)) w.marks-is w.marked-is
    | else-not-is_marked-via-else-not-is_marked v ↦ widened-keep _ _ _ _ _ _ _ _ c.loop-e.invariant (λ g. sym c.is_marked.ensures ∙ v.if-not-is_marked.false) w.marks-is w.marked-is
  ]
]

pub returns : goal.returns
returns c = record {
  right = c.loop-e.invariant.right;
  fewer = c.loop-e.invariant.fewer;
  closed = λ z. widened-all _ _ _ _ _ _ c.loop-e.invariant (omega (arith, c.node_count-e-end.ensures.count)) z;
}
