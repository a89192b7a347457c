-- What the bits took before they take again, with each room that isn't below it.
use Rattle.std.proofs.Common.{◌≡◌, ◌+◌, ◌≤◌, arith, refl, sym, ◌∙◌, ap, subst, Some}
use Rattle.bz_model.specs.Spec.{range_at, IsInRange}
use Rattle.bz_model.specs.Cell.{IsCell}
use Rattle.bit_tape.specs.Tape.{bits_of_source}
use Rattle.choice_draw.specs.Decision.{Choice}
use Rattle.choice_draw.specs.Draw.{Draw}
use Rattle.choice_draw.specs.Answer.{IsDraw}
use Rattle.choice_draw.specs.IdealOfCell.{IsIdealOfCell}
use Rattle.choice_draw.proofs.KeptDraws.{draw-found}
use Rattle.count_draw.specs.declared.kind.CountChoice.TheVariants.{Take}
use Rattle.count_draw.specs.Decision.{count_decision}
use Rattle.count_draw.specs.FirstCounts.{peeked_cell}
use Rattle.count_draw.specs.ComparedCounts.{IsKeptCount, kept_for}
use Rattle.count_draw.proofs.ComparingCounts.{kept-there}
use Rattle.count_draw.proofs.CountedNodes.{IsCountedAs, suits, part_inside}
use Rattle.count_draw.proofs.FirstBounds.{takes-from}
use Rattle.count_draw.proofs.CountsIdeal.{choice-ideal, choice-ranged}
use Rattle.count_draw.proofs.OtherRooms.{takes-within}
use Rattle.count_draw.proofs.count.draw_count_ahead.Goals as goal

pub returns-clause-drawn : goal.returns-clause-drawn
returns-clause-drawn g c = λ contents belongs.
    let s = c.args.system.now in
    let x = g.O.Oracle.x c.args.oracle.now in
    let table = g.O.Oracle.table c.args.oracle.now in
    let first = c.in_ok-first.first in
    let by = c.index-tables.result.now.firsts in
    let same : by ≡ kept_for c.args.kept.now c.args.node.0 = kept-there c.args.kept.now c.args.node.0 c.in_ok-place.place c.index-tables.result.now c.in_ok-place.ensures.place c.in_ok-place.ensures.inside c.index-tables.ensures in
    let k : IsKeptCount s g.row.F table c.args.node.0 c.from.result by = subst (IsKeptCount s g.row.F table c.args.node.0 c.from.result) (sym same) (c.if-not-is_for.ensures.bounds refl) in
    let cell = peeked_cell c.peek-ahead.result.word first.bits in
    let sound = rw c.requires.spec at c.known.ensures.sound in
    let at : IsCountedAs s c.args.node.0 k.part k.kind k.range = record { node = k.node; range = k.has_range; suits = suits s c.args.node.0 k.part k.kind k.range c.known-2.ensures.sound k.node k.has_range } in
    let inside = part_inside s c.args.node.0 k.part k.kind c.known-2.ensures.sound k.node in
    let taken = takes-from k.kind g.row.F k.range table k.part c.args.node.0 by c.from.result k.bounds first.count cell (omega (arith, c.from.ensures)) c.in_ok-first.ensures.takes in
    let takes = takes-within s x g.row.F c.args.node.0 k.part k.kind k.range table at sound inside c.args.room first.count cell taken c.in_ok-first.ensures.room in
    let told = bits_of_source c.args.tape.now.source contents in
    let start = c.args.tape.now.used in
    let decide = count_decision s g.row.F table c.args.node.0 c.args.room in
    let drawn = draw-found decide told start c.skip.new.self.used c.peek-ahead.result.word c.peek-ahead.result.count first.count cell takes refl c.in_ok-first.ensures.ahead (c.peek-ahead.ensures.next contents belongs) (c.skip.ensures.used ∙ ap (λ d. start + d.b) c.cell-cell.ensures.exact) in
    subst (λ d. IsDraw decide told start c.skip.new.self.used (Draw.Decided (Choice.Take c.from-2.result) d)) (sym c.cell-cell.ensures.exact)
    (subst (λ n. IsDraw decide told start c.skip.new.self.used (Draw.Decided (Choice.Take n) cell)) (sym c.from-2.ensures) drawn)

pub returns-clause-ideal : goal.returns-clause-ideal
returns-clause-ideal g c =
    let s = c.args.system.now in
    let x = g.O.Oracle.x c.args.oracle.now in
    let table = g.O.Oracle.table c.args.oracle.now in
    let first = c.in_ok-first.first in
    let by = c.index-tables.result.now.firsts in
    let same : by ≡ kept_for c.args.kept.now c.args.node.0 = kept-there c.args.kept.now c.args.node.0 c.in_ok-place.place c.index-tables.result.now c.in_ok-place.ensures.place c.in_ok-place.ensures.inside c.index-tables.ensures in
    let k : IsKeptCount s g.row.F table c.args.node.0 c.from.result by = subst (IsKeptCount s g.row.F table c.args.node.0 c.from.result) (sym same) (c.if-not-is_for.ensures.bounds refl) in
    let cell = peeked_cell c.peek-ahead.result.word first.bits in
    let sound = rw c.requires.spec at c.known.ensures.sound in
    let at : IsCountedAs s c.args.node.0 k.part k.kind k.range = record { node = k.node; range = k.has_range; suits = suits s c.args.node.0 k.part k.kind k.range c.known-2.ensures.sound k.node k.has_range } in
    let inside = part_inside s c.args.node.0 k.part k.kind c.known-2.ensures.sound k.node in
    let taken = takes-from k.kind g.row.F k.range table k.part c.args.node.0 by c.from.result k.bounds first.count cell (omega (arith, c.from.ensures)) c.in_ok-first.ensures.takes in
    let takes = takes-within s x g.row.F c.args.node.0 k.part k.kind k.range table at sound inside c.args.room first.count cell taken c.in_ok-first.ensures.room in
    let ideal = choice-ideal s x g.row.F c.args.node.0 k.part k.kind k.range table at sound inside c.args.room cell takes.is_cell (Some (Take first.count)) takes.takes in
    subst (λ d. IsIdealOfCell s x c.args.node.0 d c.from-2.result) (sym c.cell-cell.ensures.exact) (subst (λ n. IsIdealOfCell s x c.args.node.0 cell n) (sym c.from-2.ensures) ideal)

pub returns-clause-in_range : goal.returns-clause-in_range
returns-clause-in_range g c =
    let s = c.args.system.now in
    let x = g.O.Oracle.x c.args.oracle.now in
    let table = g.O.Oracle.table c.args.oracle.now in
    let first = c.in_ok-first.first in
    let by = c.index-tables.result.now.firsts in
    let same : by ≡ kept_for c.args.kept.now c.args.node.0 = kept-there c.args.kept.now c.args.node.0 c.in_ok-place.place c.index-tables.result.now c.in_ok-place.ensures.place c.in_ok-place.ensures.inside c.index-tables.ensures in
    let k : IsKeptCount s g.row.F table c.args.node.0 c.from.result by = subst (IsKeptCount s g.row.F table c.args.node.0 c.from.result) (sym same) (c.if-not-is_for.ensures.bounds refl) in
    let cell = peeked_cell c.peek-ahead.result.word first.bits in
    let sound = rw c.requires.spec at c.known.ensures.sound in
    let at : IsCountedAs s c.args.node.0 k.part k.kind k.range = record { node = k.node; range = k.has_range; suits = suits s c.args.node.0 k.part k.kind k.range c.known-2.ensures.sound k.node k.has_range } in
    let inside = part_inside s c.args.node.0 k.part k.kind c.known-2.ensures.sound k.node in
    let taken = takes-from k.kind g.row.F k.range table k.part c.args.node.0 by c.from.result k.bounds first.count cell (omega (arith, c.from.ensures)) c.in_ok-first.ensures.takes in
    let takes = takes-within s x g.row.F c.args.node.0 k.part k.kind k.range table at sound inside c.args.room first.count cell taken c.in_ok-first.ensures.room in
    let ranged = choice-ranged s x g.row.F c.args.node.0 k.part k.kind k.range table at sound inside c.args.room cell takes.is_cell (Some (Take first.count)) takes.takes in
    subst (λ n. IsInRange n (range_at s c.args.node.0) × (n ≤ c.args.room)) (sym c.from-2.ensures) ranged

pub returns-clause-cell : goal.returns-clause-cell
returns-clause-cell g c =
    let s = c.args.system.now in
    let x = g.O.Oracle.x c.args.oracle.now in
    let table = g.O.Oracle.table c.args.oracle.now in
    let first = c.in_ok-first.first in
    let by = c.index-tables.result.now.firsts in
    let same : by ≡ kept_for c.args.kept.now c.args.node.0 = kept-there c.args.kept.now c.args.node.0 c.in_ok-place.place c.index-tables.result.now c.in_ok-place.ensures.place c.in_ok-place.ensures.inside c.index-tables.ensures in
    let k : IsKeptCount s g.row.F table c.args.node.0 c.from.result by = subst (IsKeptCount s g.row.F table c.args.node.0 c.from.result) (sym same) (c.if-not-is_for.ensures.bounds refl) in
    let cell = peeked_cell c.peek-ahead.result.word first.bits in
    let sound = rw c.requires.spec at c.known.ensures.sound in
    let at : IsCountedAs s c.args.node.0 k.part k.kind k.range = record { node = k.node; range = k.has_range; suits = suits s c.args.node.0 k.part k.kind k.range c.known-2.ensures.sound k.node k.has_range } in
    let inside = part_inside s c.args.node.0 k.part k.kind c.known-2.ensures.sound k.node in
    let taken = takes-from k.kind g.row.F k.range table k.part c.args.node.0 by c.from.result k.bounds first.count cell (omega (arith, c.from.ensures)) c.in_ok-first.ensures.takes in
    let takes = takes-within s x g.row.F c.args.node.0 k.part k.kind k.range table at sound inside c.args.room first.count cell taken c.in_ok-first.ensures.room in
    subst (λ d. IsCell d.k d.b) (sym c.cell-cell.ensures.exact) takes.is_cell
