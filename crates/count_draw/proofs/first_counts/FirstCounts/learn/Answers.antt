-- The table is for the oracle's bounds, or was begun for them.
use Rattle.std.proofs.Common.{◌≤◌, arith, refl, sym, subst}
use Rattle.class_system.specs.Views.{spec_range}
use Rattle.count_draw.specs.Answer.{OnCount}
use Rattle.count_draw.specs.Kinds.{series_of_kind}
use Rattle.count_draw.specs.FirstCounts.{AreCountsFor, TakesAtRoom, counted_choice}
use Rattle.count_draw.proofs.FirstBounds.{takes-by}
use Rattle.count_draw.proofs.first_counts.FirstCounts.learn.Goals as goal
use Rattle.count_draw.proofs.first_counts.FirstCounts.learn.Goals.{then-not-is_for+else-not-is_for-2, else-not-is_for}

pub keep-requires : goal.keep-requires
keep-requires g c =
    let bits = c.in-Count.cell.b in
    let counted = c.args.counted.now in
    let table = g.O.Oracle.table c.args.oracle.now in
    let takes = subst (λ d. OnCount d (λ i cell. cell.b ≤ 11 → TakesAtRoom (counted_choice (series_of_kind counted.kind) g.row.F (spec_range counted.range) table counted.part.0 c.args.node.0) i cell)) c.in-Count.is c.requires.takes in
    let here : AreCountsFor (series_of_kind counted.kind) g.row.F (spec_range counted.range) table counted.part.0 c.args.node.0 bits c.if-not-is_for.self = elim c.if-not-is_for.branch [
      | then-not-is_for+else-not-is_for-2 w ↦ subst (λ u. AreCountsFor (series_of_kind counted.kind) g.row.F (spec_range counted.range) table counted.part.0 c.args.node.0 bits u) (sym w.self-is) (w.if-not-is_for-2.ensures.bounds refl)
      | else-not-is_for w ↦ subst (λ u. AreCountsFor (series_of_kind counted.kind) g.row.F (spec_range counted.range) table counted.part.0 c.args.node.0 bits u) (sym w.self-is) (w.if-not-is_for.ensures.bounds refl)
    ] in
    takes-by (series_of_kind counted.kind) g.row.F (spec_range counted.range) table counted.part.0 c.args.node.0 c.if-not-is_for.self bits here c.in-Count.value c.in-Count.cell (omega arith) (takes (omega arith))
