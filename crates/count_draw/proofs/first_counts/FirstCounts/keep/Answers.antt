-- What is put is right for all bits that begin with the cell.
use Rattle.std.proofs.Common.{◌≡◌, length, arith, sym, ap, subst}
use Rattle.class_system.specs.Views.{spec_range}
use Rattle.count_draw.specs.Kinds.{series_of_kind}
use Rattle.count_draw.specs.FirstCounts.{CountBounds, TakesAtRoom, AreKept, choice_by}
use Rattle.count_draw.proofs.FirstPlaces.{kept-more, written-whole}
use Rattle.count_draw.proofs.first_counts.FirstCounts.keep.Goals as goal

pub invariant_of-self : goal.invariant_of-self
invariant_of-self c =
    let by : CountBounds = record { bits = c.self.inside.bits; kind = series_of_kind c.self.inside.kind; range = spec_range c.self.inside.range; first = c.self.inside.first; second = c.self.inside.second } in
    let same : length c.deref_mut.result.now ≡ length c.self.inside.counts.items = ap length c.deref_mut.ensures.value in
    let before : AreKept by c.deref_mut.result.now = subst (AreKept by) (sym c.deref_mut.ensures.value) c.self.invariant in
    subst (AreKept by) (sym (written-whole _ _ _ (omega (arith, c.put_all.ensures.length, same))))
    (kept-more by c.deref_mut.result.now c.put_all.new.counts c.args.count c.args.cell c.put_all.ensures.length before (subst (λ u. TakesAtRoom (choice_by u) c.args.count c.args.cell) (sym c.self.view_is) c.requires) c.put_all.ensures.inside c.put_all.ensures.outside)
