-- The loop's tests are those of the definition, at the sums of the bounds of the first parts.
use Rattle.std.proofs.Common.{◌≡◌, ◌+◌, ◌*◌, ◌^◌, ◌⊎◌, inl, inr, min, suc, map, length, get_or, true, arith, sym, ◌∙◌, ap}
use Rattle.std.specs.Prelude.{nat_le}
use Rattle.std.proofs.lemmas.Bool.{eq-eqb}
use Rattle.std.proofs.lemmas.List.{length-map}
use Rattle.std.proofs.Math.ListN.{get_or-map}
use Rattle.class_system.specs.Views.{number}
use Rattle.choice_draw.specs.Decision.{taken}
use Rattle.choice_draw.proofs.UnionScan.{scan-step, scan-choice, union_choice_at, taken-then_some}
use Rattle.choice_draw.proofs.union.decide_by_table.Goals as goal
use Rattle.choice_draw.proofs.union.decide_by_table.Goals.{then-i-parts-via-then-i-parts, then-i-parts-via-else-i-parts+then-ends_before, then-i-eq0, else-i-eq0}

pub loop-i-preserved : goal.loop-i-preserved
loop-i-preserved g c =
    let node = g.O.Oracle.table c.args.oracle.now c.level_at-level.result in
    let parts = map number c.args.parts.now in
    let count = length-map c.args.parts.now number in
    scan-step node c.args.node.0 parts c.args.cell c.loop-i.i c.loop-i.lo c.loop-i.hi_before (get_or c.args.parts.now c.loop-i.i (record { 0 = 0 })).0 c.saturating_add-lo.result c.loop-i.invariant (omega arith) (get_or-map number c.args.parts.now c.loop-i.i (record { 0 = 0 }))
    (rw (← c.in_ok-bounds.ensures.table) c.saturating_add-lo.ensures) c.saturating_add-hi_before.result
    (rw (← c.in_ok-bounds.ensures.table) c.saturating_add-hi_before.ensures) (λ last. c.if-i-parts.false (last ∙ count))
    (rw (← c.in_ok-whole.ensures.table) (sym c.ends_before.ensures.exact ∙ c.if-ends_before.false))

pub returns-then-i-parts-clause-exact : goal.returns-then-i-parts-clause-exact
returns-then-i-parts-clause-exact g c =
    let node = g.O.Oracle.table c.args.oracle.now c.level_at-level.result in
    let parts = map number c.args.parts.now in
    let whole = c.in_ok-whole.ensures.table in
    let count = length-map c.args.parts.now number in
    let passing : (c.loop-i.i + 1 ≡ length parts) ⊎ (nat_le (suc c.args.cell.k * (node c.args.node.0).hi) (2 ^ c.args.cell.b * c.saturating_add-lo.result) ≡ true) =
    elim c.then-i-parts.branch [
      | then-i-parts-via-then-i-parts w ↦ inl (w.if-i-parts.true ∙ sym count)
      | then-i-parts-via-else-i-parts+then-ends_before w ↦ inr (rw (← whole) (sym w.ends_before.ensures.exact ∙ w.if-ends_before.true))
    ] in
    let reached : ((c.loop-i.i ≡ 0) × (c.if-i-eq0.reached ≡ true)) ⊎ ((c.loop-i.i ≡ 0 → ⊥) × (c.if-i-eq0.reached ≡ nat_le (2 ^ c.args.cell.b * min c.loop-i.hi_before (node c.args.node.0).hi) (c.args.cell.k * (node c.args.node.0).lo))) =
    elim c.if-i-eq0.branch [
      | then-i-eq0 w ↦ inl (w.if-i-eq0.true, w.reached-is ∙ eq-eqb c.loop-i.i 0 w.if-i-eq0.true)
      | else-i-eq0 w ↦ inr (w.if-i-eq0.false, rw (← whole) (w.reached-is ∙ w.begins_after-reached.ensures.exact ∙ ap (λ n. nat_le (2 ^ c.args.cell.b * n) (c.args.cell.k * c.in_ok-whole.whole.lo)) w.min.ensures))
    ] in
    let decided = scan-choice node c.args.node.0 parts c.args.cell c.loop-i.i c.loop-i.lo c.loop-i.hi_before (get_or c.args.parts.now c.loop-i.i (record { 0 = 0 })).0 c.saturating_add-lo.result c.loop-i.invariant (omega arith) (get_or-map number c.args.parts.now c.loop-i.i (record { 0 = 0 }))
    (rw (← c.in_ok-bounds.ensures.table) c.saturating_add-lo.ensures) passing c.if-i-eq0.reached (rw (← whole) (omega arith)) reached in
    ap taken c.then_some.ensures ∙ taken-then_some c.if-i-eq0.reached c.loop-i.i ∙ sym decided ∙ ap (λ level. union_choice_at (g.O.Oracle.table c.args.oracle.now) level c.args.node.0 parts c.args.cell) c.level_at-level.ensures.exact
