-- The draw over the bits given goes on as the definition's does, bit by bit or some bits at once; each choice is decided by the oracle's table, which is sound.
use Rattle.std.proofs.Common.{◌≡◌, ℕ, ◌+◌, ◌<◌, ◌≤◌, true, false, Some, None, arith, sym, ◌∙◌, ap, subst}
use Rattle.bz_model.specs.Spec.{range_at, IsInRange}
use Rattle.bz_model.specs.Cell.{IsCell}
use Rattle.class_system.specs.Views.{spec_range}
use Rattle.bit_tape.specs.Tape.{bits_of_source}
use Rattle.bit_tape.proofs.Leaving.{leaves-none, leaves-more}
use Rattle.choice_draw.specs.Decision.{level_for, level_of}
use Rattle.choice_draw.specs.Draw.{Draw}
use Rattle.choice_draw.specs.Answer.{IsDraw}
use Rattle.choice_draw.specs.Further.{further_cell}
use Rattle.choice_draw.specs.IdealOfCell.{IsIdealOfCell, IsOverOfCell}
use Rattle.choice_draw.proofs.Ticks.{oracle-none, oracle-more}
use Rattle.choice_draw.proofs.GivenDraws.{IsUnderWay, draw-begins, draw-on, draw-decides, draw-ends, draw-fails, draw-straddles}
use Rattle.choice_draw.proofs.KeptDraws.{leaves-skipped}
use Rattle.choice_draw.proofs.FurtherCells.{further-on, further-ends}
use Rattle.count_draw.specs.Kinds.{series_of_kind}
use Rattle.count_draw.specs.Decision.{count_decision, choice_meant}
use Rattle.count_draw.specs.FirstCounts.{counted_choice}
use Rattle.count_draw.proofs.CountedNodes.{decision-by}
use Rattle.count_draw.proofs.CountsIdeal.{choice-ideal, choice-ranged, choice-over_none, answer-take, answer-over}
use Rattle.count_draw.proofs.FurtherCounts.{decisions-undecided}
use Rattle.count_draw.proofs.ToldCounts.{told-answer, answer-leaves}
use Rattle.count_draw.proofs.leaps.draw_by_rows.Goals as goal

pub bits-init : goal.bits-init
bits-init g c = record {
  few_bits = omega arith;
  below = omega arith;
  used = omega arith;
  raised = omega arith;
  oracle = oracle-none g.O.Oracle.spec g.O.Oracle.x g.O.Oracle.table g.O.Oracle.cost g.O.Oracle.raised c.args.oracle.now c.args.steps.now;
  tape = leaves-none g.S.Shelf.content g.S.Shelf.faults c.args.shelf.now c.args.tape.now c.requires.belongs;
  draws = draw-begins (count_decision c.args.system.now g.row.F (g.O.Oracle.table c.args.oracle.now) c.args.node.0 c.args.room) (bits_of_source c.args.tape.now.source (g.S.Shelf.content c.args.shelf.now)) c.args.tape.now.used;
}

pub bits-preserved : goal.bits-preserved
bits-preserved g c =
    let kept = c.bits.invariant in
    let counted = c.counted_at-counted.result in
    let at = c.counted_at-counted.ensures in
    let table = g.O.Oracle.table c.args.oracle.now in
    let other = g.O.Oracle.table c.raise.new.self in
    let same = c.raise.ensures.table ∙ kept.oracle.table in
    let kind = series_of_kind counted.kind in
    let range = spec_range counted.range in
    let half = c.half_of-cell.result in
    let word = c.peek-ahead.result.word in
    let decide = count_decision c.args.system.now g.row.F table c.args.node.0 c.args.room in
    let source = bits_of_source c.args.tape.now.source (g.S.Shelf.content c.args.shelf.now) in
    let start = c.args.tape.now.used in
    let told = rw (kept.tape.source, kept.tape.content) at c.in-Bit.ensures.tells in
    let undecided = decision-by c.args.system.now g.row.F c.args.node.0 counted.part.0 c.args.room kind range table other half None (record { node = at.node; range = at.range; suits = at.suits }) same c.in_default.ensures.exact in
    let one_more : half.b ≡ c.bits.cell.b + 1 = omega (arith, ap (λ h. h.b) c.half_of-cell.ensures.exact) in
    let way = draw-on decide source start c.bits.cell c.bits.tape.used kept.draws c.in-Bit.bit half c.next_bit.new.self.used (omega arith) told c.half_of-cell.ensures.exact c.in-Bit.ensures.leaves undecided in
    let left = leaves-more g.S.Shelf.content g.S.Shelf.faults false c.args.shelf.now c.bits.shelf c.next_bit.new.shelf c.args.tape.now c.bits.tape c.next_bit.new.self kept.tape c.in-Bit.ensures.tape in
    let shown = rw (left.source, left.content) at (c.peek-ahead.ensures.next (g.S.Shelf.content c.next_bit.new.shelf) left.belongs) in
    let rises : g.O.Oracle.raised c.bits.oracle ≤ g.O.Oracle.raised c.raise.new.self = omega (arith, c.raise.ensures.raised) in
    let six : g.O.Oracle.raised c.raise.new.self ≤ 6 = omega (arith, kept.raised, c.raise.ensures.raised, c.known.ensures.raised, c.level_at.ensures.to_six) in
    let many = c.min-many.result in
    let level : level_for (half.b + many) ≡ level_of half = omega arith in
    let total : half.b + many ≤ 60 = omega arith in
    let all : c.further-cell.result.b ≡ half.b + many = ap (λ d. d.b) c.further-cell.ensures.exact in
    let none = decisions-undecided c.args.system.now (g.O.Oracle.x c.args.oracle.now) g.row.F c.args.node.0 counted.part.0 kind range table (record { node = at.node; range = at.range; suits = at.suits }) (rw c.requires.spec at c.known.ensures.sound) at.part c.args.room half word c.half_of-cell.ensures.cell.some_bits other same many (omega arith) total level c.in_default-least_further.ensures.none in
    record {
      few_bits = omega (arith, all, total);
      below = c.further-cell.ensures.cell.below;
      used = omega (arith, kept.used, c.in-Bit.ensures.leaves, one_more, c.skip-in-bits.ensures.used, all);
      raised = omega (arith, kept.raised, c.raise.ensures.raised, c.level_at.ensures.exact, one_more, all, level);
      oracle = oracle-more g.O.Oracle.spec g.O.Oracle.x g.O.Oracle.table g.O.Oracle.cost g.O.Oracle.raised c.args.oracle.now c.bits.oracle c.raise.new.self c.args.steps.now c.bits.steps c.raise.new.steps c.known.ensures.costs six kept.oracle (record { spec = c.raise.ensures.spec; x = c.raise.ensures.x; table = c.raise.ensures.table; cost = c.raise.ensures.cost; rises = rises; ticks = c.raise.ensures.ticks });
      tape = leaves-more g.S.Shelf.content g.S.Shelf.faults false c.args.shelf.now c.next_bit.new.shelf c.next_bit.new.shelf c.args.tape.now c.next_bit.new.self c.skip-in-bits.new.self left (leaves-skipped g.S.Shelf.content g.S.Shelf.faults c.next_bit.new.shelf many c.next_bit.new.self c.skip-in-bits.new.self left.belongs c.skip-in-bits.ensures);
      draws = subst (λ d. IsUnderWay decide source start d c.skip-in-bits.new.self.used) (sym c.further-cell.ensures.exact) (subst (IsUnderWay decide source start (further_cell half word many)) (sym c.skip-in-bits.ensures.used)
          (further-on decide source start half c.next_bit.new.self.used word c.peek-ahead.result.count way (omega arith) c.peek-ahead.ensures.few shown many (omega arith) total none));
    }

pub returns-in-Some-clause-drawn : goal.returns-in-Some-clause-drawn
returns-in-Some-clause-drawn g c =
    let kept = c.bits.invariant in
    let told = rw (kept.tape.source, kept.tape.content) at c.in-Bit.ensures.tells in
    let counted = c.counted_at-counted.result in
    let at = c.counted_at-counted.ensures in
    let decided = decision-by c.args.system.now g.row.F c.args.node.0 counted.part.0 c.args.room (series_of_kind counted.kind) (spec_range counted.range) (g.O.Oracle.table c.args.oracle.now) (g.O.Oracle.table c.raise.new.self) c.half_of-cell.result (Some (choice_meant c.in-Some.choice)) (record { node = at.node; range = at.range; suits = at.suits }) (c.raise.ensures.table ∙ kept.oracle.table) c.in-Some.ensures.exact in
    rw c.of.ensures.exact
    (told-answer (count_decision c.args.system.now g.row.F (g.O.Oracle.table c.args.oracle.now) c.args.node.0 c.args.room) (bits_of_source c.args.tape.now.source (g.S.Shelf.content c.args.shelf.now)) c.args.tape.now.used c.next_bit.new.self.used c.in-Some.choice c.half_of-cell.result
    (draw-decides (count_decision c.args.system.now g.row.F (g.O.Oracle.table c.args.oracle.now) c.args.node.0 c.args.room) (bits_of_source c.args.tape.now.source (g.S.Shelf.content c.args.shelf.now)) c.args.tape.now.used c.bits.cell c.bits.tape.used kept.draws c.in-Bit.bit c.half_of-cell.result (choice_meant c.in-Some.choice) c.next_bit.new.self.used (omega arith) kept.used told c.half_of-cell.ensures.exact c.half_of-cell.ensures.cell c.in-Bit.ensures.leaves decided))

pub returns-in-Some-clause-ideal : goal.returns-in-Some-clause-ideal
returns-in-Some-clause-ideal g c =
    let kept = c.bits.invariant in
    let counted = c.counted_at-counted.result in
    let at = c.counted_at-counted.ensures in
    let decided = decision-by c.args.system.now g.row.F c.args.node.0 counted.part.0 c.args.room (series_of_kind counted.kind) (spec_range counted.range) (g.O.Oracle.table c.args.oracle.now) (g.O.Oracle.table c.raise.new.self) c.half_of-cell.result (Some (choice_meant c.in-Some.choice)) (record { node = at.node; range = at.range; suits = at.suits }) (c.raise.ensures.table ∙ kept.oracle.table) c.in-Some.ensures.exact in
    rw c.of.ensures.exact
    (answer-take (λ i cell. IsIdealOfCell c.args.system.now (g.O.Oracle.x c.args.oracle.now) c.args.node.0 cell i) c.in-Some.choice c.half_of-cell.result
    (choice-ideal c.args.system.now (g.O.Oracle.x c.args.oracle.now) g.row.F c.args.node.0 counted.part.0 (series_of_kind counted.kind) (spec_range counted.range) (g.O.Oracle.table c.args.oracle.now)
    (record { node = at.node; range = at.range; suits = at.suits }) (rw c.requires.spec at c.known.ensures.sound) at.part c.args.room c.half_of-cell.result c.half_of-cell.ensures.cell (Some c.in-Some.choice) decided))

pub returns-in-Some-clause-over : goal.returns-in-Some-clause-over
returns-in-Some-clause-over g c =
    let kept = c.bits.invariant in
    let counted = c.counted_at-counted.result in
    let at = c.counted_at-counted.ensures in
    let decided = decision-by c.args.system.now g.row.F c.args.node.0 counted.part.0 c.args.room (series_of_kind counted.kind) (spec_range counted.range) (g.O.Oracle.table c.args.oracle.now) (g.O.Oracle.table c.raise.new.self) c.half_of-cell.result (Some (choice_meant c.in-Some.choice)) (record { node = at.node; range = at.range; suits = at.suits }) (c.raise.ensures.table ∙ kept.oracle.table) c.in-Some.ensures.exact in
    rw c.of.ensures.exact
    (answer-over (λ cell. IsOverOfCell c.args.system.now (g.O.Oracle.x c.args.oracle.now) c.args.node.0 cell c.args.room) c.in-Some.choice c.half_of-cell.result
    (choice-over_none c.args.system.now (g.O.Oracle.x c.args.oracle.now) g.row.F c.args.node.0 counted.part.0 (series_of_kind counted.kind) (spec_range counted.range) (g.O.Oracle.table c.args.oracle.now)
    (record { node = at.node; range = at.range; suits = at.suits }) (rw c.requires.spec at c.known.ensures.sound) at.part c.args.room c.half_of-cell.result c.half_of-cell.ensures.cell (Some c.in-Some.choice) decided))

pub returns-in-Some-clause-in_range : goal.returns-in-Some-clause-in_range
returns-in-Some-clause-in_range g c =
    let kept = c.bits.invariant in
    let counted = c.counted_at-counted.result in
    let at = c.counted_at-counted.ensures in
    let decided = decision-by c.args.system.now g.row.F c.args.node.0 counted.part.0 c.args.room (series_of_kind counted.kind) (spec_range counted.range) (g.O.Oracle.table c.args.oracle.now) (g.O.Oracle.table c.raise.new.self) c.half_of-cell.result (Some (choice_meant c.in-Some.choice)) (record { node = at.node; range = at.range; suits = at.suits }) (c.raise.ensures.table ∙ kept.oracle.table) c.in-Some.ensures.exact in
    rw c.of.ensures.exact
    (answer-take (λ i cell. IsInRange i (range_at c.args.system.now c.args.node.0) × (i ≤ c.args.room)) c.in-Some.choice c.half_of-cell.result
    (choice-ranged c.args.system.now (g.O.Oracle.x c.args.oracle.now) g.row.F c.args.node.0 counted.part.0 (series_of_kind counted.kind) (spec_range counted.range) (g.O.Oracle.table c.args.oracle.now)
    (record { node = at.node; range = at.range; suits = at.suits }) (rw c.requires.spec at c.known.ensures.sound) at.part c.args.room c.half_of-cell.result c.half_of-cell.ensures.cell (Some c.in-Some.choice) decided))

pub returns-in-Some-clause-oracle : goal.returns-in-Some-clause-oracle
returns-in-Some-clause-oracle g c =
    let kept = c.bits.invariant in
    let rises : g.O.Oracle.raised c.bits.oracle ≤ g.O.Oracle.raised c.raise.new.self = omega (arith, c.raise.ensures.raised) in
    let six : g.O.Oracle.raised c.raise.new.self ≤ 6 = omega (arith, kept.raised, c.raise.ensures.raised, c.known.ensures.raised, c.level_at.ensures.to_six) in
    oracle-more g.O.Oracle.spec g.O.Oracle.x g.O.Oracle.table g.O.Oracle.cost g.O.Oracle.raised c.args.oracle.now c.bits.oracle c.raise.new.self c.args.steps.now c.bits.steps c.raise.new.steps c.known.ensures.costs six kept.oracle (record { spec = c.raise.ensures.spec; x = c.raise.ensures.x; table = c.raise.ensures.table; cost = c.raise.ensures.cost; rises = rises; ticks = c.raise.ensures.ticks })

pub returns-in-Some-clause-tape : goal.returns-in-Some-clause-tape
returns-in-Some-clause-tape g c =
    rw c.of.ensures.exact
    (answer-leaves g.S.Shelf.content g.S.Shelf.faults c.args.shelf.now c.next_bit.new.shelf c.args.tape.now c.next_bit.new.self c.in-Some.choice c.half_of-cell.result
    (leaves-more g.S.Shelf.content g.S.Shelf.faults false c.args.shelf.now c.bits.shelf c.next_bit.new.shelf c.args.tape.now c.bits.tape c.next_bit.new.self c.bits.invariant.tape c.in-Bit.ensures.tape))

pub returns-in-Some-least_further-clause-drawn : goal.returns-in-Some-least_further-clause-drawn
returns-in-Some-least_further-clause-drawn g c =
    let kept = c.bits.invariant in
    let counted = c.counted_at-counted.result in
    let at = c.counted_at-counted.ensures in
    let table = g.O.Oracle.table c.args.oracle.now in
    let other = g.O.Oracle.table c.raise.new.self in
    let same = c.raise.ensures.table ∙ kept.oracle.table in
    let kind = series_of_kind counted.kind in
    let range = spec_range counted.range in
    let half = c.half_of-cell.result in
    let word = c.peek-ahead.result.word in
    let decide = count_decision c.args.system.now g.row.F table c.args.node.0 c.args.room in
    let source = bits_of_source c.args.tape.now.source (g.S.Shelf.content c.args.shelf.now) in
    let start = c.args.tape.now.used in
    let told = rw (kept.tape.source, kept.tape.content) at c.in-Bit.ensures.tells in
    let undecided = decision-by c.args.system.now g.row.F c.args.node.0 counted.part.0 c.args.room kind range table other half None (record { node = at.node; range = at.range; suits = at.suits }) same c.in_default.ensures.exact in
    let one_more : half.b ≡ c.bits.cell.b + 1 = omega (arith, ap (λ h. h.b) c.half_of-cell.ensures.exact) in
    let way = draw-on decide source start c.bits.cell c.bits.tape.used kept.draws c.in-Bit.bit half c.next_bit.new.self.used (omega arith) told c.half_of-cell.ensures.exact c.in-Bit.ensures.leaves undecided in
    let left = leaves-more g.S.Shelf.content g.S.Shelf.faults false c.args.shelf.now c.bits.shelf c.next_bit.new.shelf c.args.tape.now c.bits.tape c.next_bit.new.self kept.tape c.in-Bit.ensures.tape in
    let shown = rw (left.source, left.content) at (c.peek-ahead.ensures.next (g.S.Shelf.content c.next_bit.new.shelf) left.belongs) in
    let found = c.in-Some-least_further.found in
    let last = c.further-last.result in
    let decided = decision-by c.args.system.now g.row.F c.args.node.0 counted.part.0 c.args.room kind range table other last (Some (choice_meant found.choice)) (record { node = at.node; range = at.range; suits = at.suits }) same
    (subst (λ d. Some (choice_meant found.choice) ≡ counted_choice kind g.row.F range other counted.part.0 c.args.node.0 c.args.room d) (sym c.further-last.ensures.exact) c.in-Some-least_further.ensures.decides) in
    let exact = c.further-last.ensures.exact in
    let none : (j : ℕ) → 1 ≤ j → j < found.bits → decide (further_cell half word j) ≡ None = λ j some less. decision-by c.args.system.now g.row.F c.args.node.0 counted.part.0 c.args.room kind range table other (further_cell half word j) None (record { node = at.node; range = at.range; suits = at.suits }) same (sym (c.in-Some-least_further.ensures.none_before j some less)) in
    let ends = further-ends decide source start half c.next_bit.new.self.used word c.peek-ahead.result.count way (omega arith) c.peek-ahead.ensures.few shown found.bits (choice_meant found.choice) undecided (let b = c.in-Some-least_further.ensures.bits in omega (arith, b)) (let b = c.in-Some-least_further.ensures.bits in omega (arith, b)) (omega (arith, kept.used, c.in-Bit.ensures.leaves, one_more))
    (subst (λ d. IsCell d.k d.b) exact c.further-last.ensures.cell) none (ap decide (sym exact) ∙ decided) in
    rw c.of-in-Some-least_further.ensures.exact
    (told-answer decide source start c.skip.new.self.used found.choice last
    (subst (λ d. IsDraw decide source start c.skip.new.self.used (Draw.Decided (choice_meant found.choice) d)) (sym exact)
    (subst (λ n. IsDraw decide source start n (Draw.Decided (choice_meant found.choice) (further_cell half word found.bits))) (sym c.skip.ensures.used) ends)))

pub returns-in-Some-least_further-clause-ideal : goal.returns-in-Some-least_further-clause-ideal
returns-in-Some-least_further-clause-ideal g c =
    let kept = c.bits.invariant in
    let counted = c.counted_at-counted.result in
    let at = c.counted_at-counted.ensures in
    let table = g.O.Oracle.table c.args.oracle.now in
    let other = g.O.Oracle.table c.raise.new.self in
    let same = c.raise.ensures.table ∙ kept.oracle.table in
    let kind = series_of_kind counted.kind in
    let range = spec_range counted.range in
    let found = c.in-Some-least_further.found in
    let last = c.further-last.result in
    let decided = decision-by c.args.system.now g.row.F c.args.node.0 counted.part.0 c.args.room kind range table other last (Some (choice_meant found.choice)) (record { node = at.node; range = at.range; suits = at.suits }) same
    (subst (λ d. Some (choice_meant found.choice) ≡ counted_choice kind g.row.F range other counted.part.0 c.args.node.0 c.args.room d) (sym c.further-last.ensures.exact) c.in-Some-least_further.ensures.decides) in
    rw c.of-in-Some-least_further.ensures.exact
    (answer-take (λ i cell. IsIdealOfCell c.args.system.now (g.O.Oracle.x c.args.oracle.now) c.args.node.0 cell i) found.choice last
    (choice-ideal c.args.system.now (g.O.Oracle.x c.args.oracle.now) g.row.F c.args.node.0 counted.part.0 kind range table
    (record { node = at.node; range = at.range; suits = at.suits }) (rw c.requires.spec at c.known.ensures.sound) at.part c.args.room last c.further-last.ensures.cell (Some found.choice) decided))

pub returns-in-Some-least_further-clause-over : goal.returns-in-Some-least_further-clause-over
returns-in-Some-least_further-clause-over g c =
    let kept = c.bits.invariant in
    let counted = c.counted_at-counted.result in
    let at = c.counted_at-counted.ensures in
    let table = g.O.Oracle.table c.args.oracle.now in
    let other = g.O.Oracle.table c.raise.new.self in
    let same = c.raise.ensures.table ∙ kept.oracle.table in
    let kind = series_of_kind counted.kind in
    let range = spec_range counted.range in
    let found = c.in-Some-least_further.found in
    let last = c.further-last.result in
    let decided = decision-by c.args.system.now g.row.F c.args.node.0 counted.part.0 c.args.room kind range table other last (Some (choice_meant found.choice)) (record { node = at.node; range = at.range; suits = at.suits }) same
    (subst (λ d. Some (choice_meant found.choice) ≡ counted_choice kind g.row.F range other counted.part.0 c.args.node.0 c.args.room d) (sym c.further-last.ensures.exact) c.in-Some-least_further.ensures.decides) in
    rw c.of-in-Some-least_further.ensures.exact
    (answer-over (λ cell. IsOverOfCell c.args.system.now (g.O.Oracle.x c.args.oracle.now) c.args.node.0 cell c.args.room) found.choice last
    (choice-over_none c.args.system.now (g.O.Oracle.x c.args.oracle.now) g.row.F c.args.node.0 counted.part.0 kind range table
    (record { node = at.node; range = at.range; suits = at.suits }) (rw c.requires.spec at c.known.ensures.sound) at.part c.args.room last c.further-last.ensures.cell (Some found.choice) decided))

pub returns-in-Some-least_further-clause-in_range : goal.returns-in-Some-least_further-clause-in_range
returns-in-Some-least_further-clause-in_range g c =
    let kept = c.bits.invariant in
    let counted = c.counted_at-counted.result in
    let at = c.counted_at-counted.ensures in
    let table = g.O.Oracle.table c.args.oracle.now in
    let other = g.O.Oracle.table c.raise.new.self in
    let same = c.raise.ensures.table ∙ kept.oracle.table in
    let kind = series_of_kind counted.kind in
    let range = spec_range counted.range in
    let found = c.in-Some-least_further.found in
    let last = c.further-last.result in
    let decided = decision-by c.args.system.now g.row.F c.args.node.0 counted.part.0 c.args.room kind range table other last (Some (choice_meant found.choice)) (record { node = at.node; range = at.range; suits = at.suits }) same
    (subst (λ d. Some (choice_meant found.choice) ≡ counted_choice kind g.row.F range other counted.part.0 c.args.node.0 c.args.room d) (sym c.further-last.ensures.exact) c.in-Some-least_further.ensures.decides) in
    rw c.of-in-Some-least_further.ensures.exact
    (answer-take (λ i cell. IsInRange i (range_at c.args.system.now c.args.node.0) × (i ≤ c.args.room)) found.choice last
    (choice-ranged c.args.system.now (g.O.Oracle.x c.args.oracle.now) g.row.F c.args.node.0 counted.part.0 kind range table
    (record { node = at.node; range = at.range; suits = at.suits }) (rw c.requires.spec at c.known.ensures.sound) at.part c.args.room last c.further-last.ensures.cell (Some found.choice) decided))

pub returns-in-Some-least_further-clause-oracle : goal.returns-in-Some-least_further-clause-oracle
returns-in-Some-least_further-clause-oracle g c =
    let kept = c.bits.invariant in
    let rises : g.O.Oracle.raised c.bits.oracle ≤ g.O.Oracle.raised c.raise.new.self = omega (arith, c.raise.ensures.raised) in
    let six : g.O.Oracle.raised c.raise.new.self ≤ 6 = omega (arith, kept.raised, c.raise.ensures.raised, c.known.ensures.raised, c.level_at.ensures.to_six) in
    oracle-more g.O.Oracle.spec g.O.Oracle.x g.O.Oracle.table g.O.Oracle.cost g.O.Oracle.raised c.args.oracle.now c.bits.oracle c.raise.new.self c.args.steps.now c.bits.steps c.raise.new.steps c.known.ensures.costs six kept.oracle (record { spec = c.raise.ensures.spec; x = c.raise.ensures.x; table = c.raise.ensures.table; cost = c.raise.ensures.cost; rises = rises; ticks = c.raise.ensures.ticks })

pub returns-in-Some-least_further-clause-tape : goal.returns-in-Some-least_further-clause-tape
returns-in-Some-least_further-clause-tape g c =
    let kept = c.bits.invariant in
    let left = leaves-more g.S.Shelf.content g.S.Shelf.faults false c.args.shelf.now c.bits.shelf c.next_bit.new.shelf c.args.tape.now c.bits.tape c.next_bit.new.self kept.tape c.in-Bit.ensures.tape in
    let found = c.in-Some-least_further.found in
    let last = c.further-last.result in
    rw c.of-in-Some-least_further.ensures.exact
    (answer-leaves g.S.Shelf.content g.S.Shelf.faults c.args.shelf.now c.next_bit.new.shelf c.args.tape.now c.skip.new.self found.choice last
    (leaves-more g.S.Shelf.content g.S.Shelf.faults false c.args.shelf.now c.next_bit.new.shelf c.next_bit.new.shelf c.args.tape.now c.next_bit.new.self c.skip.new.self left (leaves-skipped g.S.Shelf.content g.S.Shelf.faults c.next_bit.new.shelf found.bits c.next_bit.new.self c.skip.new.self left.belongs c.skip.ensures)))

pub returns-in-Ended-clause-drawn : goal.returns-in-Ended-clause-drawn
returns-in-Ended-clause-drawn g c =
    let kept = c.bits.invariant in
    let told = rw (kept.tape.source, kept.tape.content) at c.in-Ended.ensures.tells in
    draw-ends (count_decision c.args.system.now g.row.F (g.O.Oracle.table c.args.oracle.now) c.args.node.0 c.args.room) (bits_of_source c.args.tape.now.source (g.S.Shelf.content c.args.shelf.now)) c.args.tape.now.used c.bits.cell c.bits.tape.used kept.draws c.next_bit.new.self.used (omega arith) kept.used told (ap (λ t. t.used) c.in-Ended.ensures.leaves)

pub returns-in-Ended-clause-tape : goal.returns-in-Ended-clause-tape
returns-in-Ended-clause-tape g c = leaves-more g.S.Shelf.content g.S.Shelf.faults false c.args.shelf.now c.bits.shelf c.next_bit.new.shelf c.args.tape.now c.bits.tape c.next_bit.new.self c.bits.invariant.tape c.in-Ended.ensures.tape

pub returns-in-ReadFault-clause-drawn : goal.returns-in-ReadFault-clause-drawn
returns-in-ReadFault-clause-drawn g c = draw-fails (count_decision c.args.system.now g.row.F (g.O.Oracle.table c.args.oracle.now) c.args.node.0 c.args.room) (bits_of_source c.args.tape.now.source (g.S.Shelf.content c.args.shelf.now)) c.args.tape.now.used c.bits.cell c.bits.tape.used c.bits.invariant.draws c.next_bit.new.self.used (omega arith) c.bits.invariant.used (ap (λ t. t.used) c.in-ReadFault.ensures.leaves)

pub returns-in-ReadFault-clause-tape : goal.returns-in-ReadFault-clause-tape
returns-in-ReadFault-clause-tape g c = leaves-more g.S.Shelf.content g.S.Shelf.faults true c.args.shelf.now c.bits.shelf c.next_bit.new.shelf c.args.tape.now c.bits.tape c.next_bit.new.self c.bits.invariant.tape c.in-ReadFault.ensures.tape

pub returns-clause-drawn : goal.returns-clause-drawn
returns-clause-drawn g c = draw-straddles (count_decision c.args.system.now g.row.F (g.O.Oracle.table c.args.oracle.now) c.args.node.0 c.args.room) (bits_of_source c.args.tape.now.source (g.S.Shelf.content c.args.shelf.now)) c.args.tape.now.used c.bits.cell c.bits.tape.used c.bits.invariant.draws (omega arith) c.bits.invariant.below c.bits.invariant.used
