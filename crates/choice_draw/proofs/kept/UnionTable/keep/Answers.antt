-- What is put is right for all bits that begin with the cell.
use Rattle.std.proofs.Common.{◌≡◌, length, arith, sym, ap, subst}
use Rattle.choice_draw.specs.KeptChoices.{KeptBounds, TakesFirst, AreKept, choice_by}
use Rattle.choice_draw.proofs.KeptBounds.{kept-more, written-whole}
use Rattle.choice_draw.proofs.kept.UnionTable.keep.Goals as goal

pub invariant_of-self : goal.invariant_of-self
invariant_of-self c =
    let kept : KeptBounds = record { first = c.self.inside.first; second = c.self.inside.second } in
    let same : length c.deref_mut.result.now ≡ length c.self.inside.choices.items = ap length c.deref_mut.ensures.value in
    let before : AreKept kept c.deref_mut.result.now = subst (AreKept kept) (sym c.deref_mut.ensures.value) c.self.invariant in
    subst (AreKept kept) (sym (written-whole _ _ _ (omega (arith, c.put_all.ensures.length, same))))
    (kept-more kept c.deref_mut.result.now c.put_all.new.choices c.args.option c.args.cell c.put_all.ensures.length before (subst (λ u. TakesFirst (choice_by u) c.args.option c.args.cell) (sym c.self.view_is) c.requires) c.put_all.ensures.inside c.put_all.ensures.outside)
