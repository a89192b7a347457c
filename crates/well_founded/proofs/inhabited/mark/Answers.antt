use Rattle.std.proofs.Common.{◌≡◌, length, IsTrue, arith, subst, sym, ◌∙◌, ap}
use Rattle.well_founded.specs.Marking.{AreMarked}
use Rattle.well_founded.proofs.Marked.{are-marked}
use Rattle.well_founded.proofs.Rows.{written-back}
use Rattle.well_founded.proofs.inhabited.mark.Goals as goal

pub returns : goal.returns
returns c =
    let same_length : length c.mark_more.new.marks ≡ length c.loop.marks.items = c.mark_more.auto.marks ∙ ap length c.deref_mut.ensures.value in
    subst (λ marks. AreMarked c.args.system.now (IsTrue c.args.atoms) marks) (sym (written-back _ _ _ same_length (omega (arith, c.deref_mut.ensures.len, ap length c.deref_mut.ensures.value)))) (are-marked _ _ _ (same_length ∙ c.loop.invariant.one_per_node) c.mark_more.ensures.right (c.mark_more.ensures.closed c.loop-test.false))
