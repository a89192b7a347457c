use Rattle.std.proofs.Common.{arith, sym, ◌∙◌}
use Rattle.well_founded.proofs.Pointed.{one-start, one-next, one-all}
use Rattle.well_founded.proofs.size_zero_references.of_one.Goals as goal
use Rattle.well_founded.proofs.size_zero_references.of_one.Goals.{then-all_zero, else-all_zero}

pub loop-part-init : goal.loop-part-init
loop-part-init c = one-start _ _ _ _ c.empty-set.ensures

pub loop-part-preserved : goal.loop-part-preserved
loop-part-preserved c = one-next _ _ _ _ _ _ _ _ _ _ (record { 0 = 0 }) c.loop-part.invariant c.loop-part-test.true c.is_marked-is_zero.ensures c.set_of.ensures c.beside-set.ensures (elim c.if-all_zero.branch [
  | then-all_zero w ↦ (λ k. (w.if-all_zero.true, sym w.all_zero-is ∙ k), λ k. w.all_zero-is ∙ k.1)
  | else-all_zero w ↦ (λ k. absurd (let e = w.all_zero-is in cc), λ k. absurd (let e = w.if-all_zero.false in let f = k.0 in cc))
])

pub returns : goal.returns
returns c = one-all _ _ _ _ _ _ (omega arith) c.loop-part.invariant
