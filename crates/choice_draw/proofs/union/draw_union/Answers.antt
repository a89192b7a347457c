-- The draw over the bits given goes on as the definition's does, bit by bit or some bits at once; each value is decided by the oracle's table, which is sound.
use Rattle.std.proofs.Common.{◌≡◌, ℕ, ◌+◌, ◌<◌, ◌≤◌, false, true, map, length, Some, None, arith, sym, ◌∙◌, ap, subst}
use Rattle.std.proofs.lemmas.List.{length-map}
use Rattle.bz_model.specs.Spec.{Node}
use Rattle.bz_model.specs.Cell.{IsCell}
use Rattle.bit_tape.specs.Tape.{bits_of_source}
use Rattle.bit_tape.proofs.Leaving.{leaves-none, leaves-more}
use Rattle.class_system.specs.Views.{number}
use Rattle.choice_draw.specs.Decision.{Choice, level_for, level_of, union_choice, union_decision}
use Rattle.choice_draw.specs.Draw.{Draw}
use Rattle.choice_draw.specs.Answer.{IsDraw}
use Rattle.choice_draw.specs.Further.{further_cell}
use Rattle.choice_draw.proofs.FurtherCells.{further-on, further-ends}
use Rattle.choice_draw.proofs.KeptDraws.{leaves-skipped}
use Rattle.choice_draw.proofs.UnionHalves.{decisions-undecided}
use Rattle.choice_draw.proofs.UnionParts.{within}
use Rattle.choice_draw.proofs.UnionIdeal.{decision-by, union-ideal}
use Rattle.choice_draw.proofs.Ticks.{oracle-none, oracle-more}
use Rattle.choice_draw.proofs.GivenDraws.{IsUnderWay, draw-begins, draw-on, draw-decides, draw-ends, draw-fails, draw-straddles}
use Rattle.choice_draw.proofs.union.draw_union.Goals as goal

pub bits-init : goal.bits-init
bits-init g c = record {
  few_bits = omega arith;
  below = omega arith;
  used = omega arith;
  raised = omega arith;
  oracle = oracle-none g.O.Oracle.spec g.O.Oracle.x g.O.Oracle.table g.O.Oracle.cost g.O.Oracle.raised c.args.oracle.now c.args.steps.now;
  tape = leaves-none g.S.Shelf.content g.S.Shelf.faults c.args.shelf.now c.args.tape.now c.requires.belongs;
  draws = draw-begins (union_decision c.args.system.now (g.O.Oracle.table c.args.oracle.now) c.args.node.0) (bits_of_source c.args.tape.now.source (g.S.Shelf.content c.args.shelf.now)) c.args.tape.now.used;
}

pub decide_by_table-requires-clause-node : goal.decide_by_table-requires-clause-node
decide_by_table-requires-clause-node g c = rw (c.raise.ensures.spec ∙ c.bits.invariant.oracle.spec ∙ c.requires.spec) (within c.args.system.now.nodes c.args.node.0 (Node.Union c.requires.union.parts) c.requires.union.here)

pub bits-preserved : goal.bits-preserved
bits-preserved g c =
    let kept = c.bits.invariant in
    let table = g.O.Oracle.table c.args.oracle.now in
    let other = g.O.Oracle.table c.raise.new.self in
    let same = c.raise.ensures.table ∙ kept.oracle.table in
    let parts = c.parts_of-parts.result.now in
    let half = c.half_of-cell.result in
    let word = c.peek-ahead.result.word in
    let decide = union_decision c.args.system.now table c.args.node.0 in
    let source = bits_of_source c.args.tape.now.source (g.S.Shelf.content c.args.shelf.now) in
    let start = c.args.tape.now.used in
    let told = rw (kept.tape.source, kept.tape.content) at c.in-Bit.ensures.tells in
    let undecided = decision-by c.args.system.now table other c.args.node.0 (map number parts) half None same c.parts_of-parts.ensures.parts c.in_default.ensures.exact in
    let one_more : half.b ≡ c.bits.cell.b + 1 = omega (arith, ap (λ h. h.b) c.half_of-cell.ensures.exact) in
    let way = draw-on decide source start c.bits.cell c.bits.tape.used kept.draws c.in-Bit.bit half c.next_bit.new.self.used (omega arith) told c.half_of-cell.ensures.exact c.in-Bit.ensures.leaves undecided in
    let left = leaves-more g.S.Shelf.content g.S.Shelf.faults false c.args.shelf.now c.bits.shelf c.next_bit.new.shelf c.args.tape.now c.bits.tape c.next_bit.new.self kept.tape c.in-Bit.ensures.tape in
    let shown = rw (left.source, left.content) at (c.peek-ahead.ensures.next (g.S.Shelf.content c.next_bit.new.shelf) left.belongs) in
    let rises : g.O.Oracle.raised c.bits.oracle ≤ g.O.Oracle.raised c.raise.new.self = omega (arith, c.raise.ensures.raised) in
    let six : g.O.Oracle.raised c.raise.new.self ≤ 6 = omega (arith, kept.raised, c.raise.ensures.raised, c.known.ensures.raised, c.level_at.ensures.to_six) in
    let many = c.min-many.result in
    let level : level_for (half.b + many) ≡ level_of half = omega arith in
    let total : half.b + many ≤ 60 = omega arith in
    let all : c.further-cell.result.b ≡ half.b + many = ap (λ d. d.b) c.further-cell.ensures.exact in
    let two : 2 ≤ length (map number parts) = omega (arith, length-map parts number, c.parts_of-parts.ensures.some) in
    let none = decisions-undecided c.args.system.now (g.O.Oracle.x c.args.oracle.now) g.row.F c.args.node.0 parts table c.requires.union c.parts_of-parts.ensures.parts two c.parts_of-parts.ensures.in_range (rw c.requires.spec at c.known.ensures.sound) other same half word c.half_of-cell.ensures.cell.some_bits many (omega arith) total level c.in_default-least_further.ensures.none in
    record {
      few_bits = omega (arith, all, total);
      below = c.further-cell.ensures.cell.below;
      used = omega (arith, kept.used, c.in-Bit.ensures.leaves, one_more, c.skip-in-bits.ensures.used, all);
      raised = omega (arith, kept.raised, c.raise.ensures.raised, c.level_at.ensures.exact, one_more, all, level);
      oracle = oracle-more g.O.Oracle.spec g.O.Oracle.x g.O.Oracle.table g.O.Oracle.cost g.O.Oracle.raised c.args.oracle.now c.bits.oracle c.raise.new.self c.args.steps.now c.bits.steps c.raise.new.steps c.known.ensures.costs six kept.oracle (record { spec = c.raise.ensures.spec; x = c.raise.ensures.x; table = c.raise.ensures.table; cost = c.raise.ensures.cost; rises = rises; ticks = c.raise.ensures.ticks });
      tape = leaves-more g.S.Shelf.content g.S.Shelf.faults false c.args.shelf.now c.next_bit.new.shelf c.next_bit.new.shelf c.args.tape.now c.next_bit.new.self c.skip-in-bits.new.self left (leaves-skipped g.S.Shelf.content g.S.Shelf.faults c.next_bit.new.shelf many c.next_bit.new.self c.skip-in-bits.new.self left.belongs c.skip-in-bits.ensures);
      draws = subst (λ d. IsUnderWay decide source start d c.skip-in-bits.new.self.used) (sym c.further-cell.ensures.exact) (subst (IsUnderWay decide source start (further_cell half word many)) (sym c.skip-in-bits.ensures.used)
          (further-on decide source start half c.next_bit.new.self.used word c.peek-ahead.result.count way (omega arith) c.peek-ahead.ensures.few shown many (omega arith) total none));
    }

pub returns-in-Some-least_further-clause-drawn : goal.returns-in-Some-least_further-clause-drawn
returns-in-Some-least_further-clause-drawn g c =
    let kept = c.bits.invariant in
    let table = g.O.Oracle.table c.args.oracle.now in
    let other = g.O.Oracle.table c.raise.new.self in
    let same = c.raise.ensures.table ∙ kept.oracle.table in
    let parts = c.parts_of-parts.result.now in
    let half = c.half_of-cell.result in
    let word = c.peek-ahead.result.word in
    let decide = union_decision c.args.system.now table c.args.node.0 in
    let source = bits_of_source c.args.tape.now.source (g.S.Shelf.content c.args.shelf.now) in
    let start = c.args.tape.now.used in
    let told = rw (kept.tape.source, kept.tape.content) at c.in-Bit.ensures.tells in
    let undecided = decision-by c.args.system.now table other c.args.node.0 (map number parts) half None same c.parts_of-parts.ensures.parts c.in_default.ensures.exact in
    let one_more : half.b ≡ c.bits.cell.b + 1 = omega (arith, ap (λ h. h.b) c.half_of-cell.ensures.exact) in
    let way = draw-on decide source start c.bits.cell c.bits.tape.used kept.draws c.in-Bit.bit half c.next_bit.new.self.used (omega arith) told c.half_of-cell.ensures.exact c.in-Bit.ensures.leaves undecided in
    let left = leaves-more g.S.Shelf.content g.S.Shelf.faults false c.args.shelf.now c.bits.shelf c.next_bit.new.shelf c.args.tape.now c.bits.tape c.next_bit.new.self kept.tape c.in-Bit.ensures.tape in
    let shown = rw (left.source, left.content) at (c.peek-ahead.ensures.next (g.S.Shelf.content c.next_bit.new.shelf) left.belongs) in
    let found = c.in-Some-least_further.found in
    let last = c.further-last.result in
    let exact = c.further-last.ensures.exact in
    let few = c.in-Some-least_further.ensures.bits in
    let decided = decision-by c.args.system.now table other c.args.node.0 (map number parts) (further_cell half word found.bits) (Some (Choice.Take found.option)) same c.parts_of-parts.ensures.parts c.in-Some-least_further.ensures.decides in
    let none : (j : ℕ) → 1 ≤ j → j < found.bits → decide (further_cell half word j) ≡ None = λ j some less. decision-by c.args.system.now table other c.args.node.0 (map number parts) (further_cell half word j) None same c.parts_of-parts.ensures.parts (sym (c.in-Some-least_further.ensures.none_before j some less)) in
    let ends = further-ends decide source start half c.next_bit.new.self.used word c.peek-ahead.result.count way (omega arith) c.peek-ahead.ensures.few shown found.bits (Choice.Take found.option) undecided (omega (arith, few)) (omega (arith, few)) (omega (arith, kept.used, c.in-Bit.ensures.leaves, one_more))
    (subst (λ d. IsCell d.k d.b) exact c.further-last.ensures.cell) none decided in
    rw c.from.ensures
    (subst (λ d. IsDraw decide source start c.skip.new.self.used (Draw.Decided (Choice.Take found.option) d)) (sym exact)
    (subst (λ n. IsDraw decide source start n (Draw.Decided (Choice.Take found.option) (further_cell half word found.bits))) (sym c.skip.ensures.used) ends))

pub returns-in-Some-least_further-clause-ideal : goal.returns-in-Some-least_further-clause-ideal
returns-in-Some-least_further-clause-ideal g c =
    let kept = c.bits.invariant in
    let parts = c.parts_of-parts.result.now in
    let found = c.in-Some-least_further.found in
    rw c.from.ensures
    (union-ideal c.args.system.now (g.O.Oracle.x c.args.oracle.now) g.row.F c.args.node.0 parts (g.O.Oracle.table c.args.oracle.now) c.further-last.result c.requires.union c.parts_of-parts.ensures.parts
    (omega (arith, length-map parts number, c.parts_of-parts.ensures.some)) c.parts_of-parts.ensures.in_range (rw c.requires.spec at c.known.ensures.sound) c.further-last.ensures.cell (Some found.option)
    (subst (λ d. Some (Choice.Take found.option) ≡ union_choice (g.O.Oracle.table c.args.oracle.now) c.args.node.0 (map number parts) d) (sym c.further-last.ensures.exact) (rw (c.raise.ensures.table ∙ kept.oracle.table) at c.in-Some-least_further.ensures.decides)))

pub returns-in-Some-least_further-clause-oracle : goal.returns-in-Some-least_further-clause-oracle
returns-in-Some-least_further-clause-oracle g c =
    let kept = c.bits.invariant in
    let rises : g.O.Oracle.raised c.bits.oracle ≤ g.O.Oracle.raised c.raise.new.self = omega (arith, c.raise.ensures.raised) in
    let six : g.O.Oracle.raised c.raise.new.self ≤ 6 = omega (arith, kept.raised, c.raise.ensures.raised, c.known.ensures.raised, c.level_at.ensures.to_six) in
    oracle-more g.O.Oracle.spec g.O.Oracle.x g.O.Oracle.table g.O.Oracle.cost g.O.Oracle.raised c.args.oracle.now c.bits.oracle c.raise.new.self c.args.steps.now c.bits.steps c.raise.new.steps c.known.ensures.costs six kept.oracle (record { spec = c.raise.ensures.spec; x = c.raise.ensures.x; table = c.raise.ensures.table; cost = c.raise.ensures.cost; rises = rises; ticks = c.raise.ensures.ticks })

pub returns-in-Some-least_further-clause-tape : goal.returns-in-Some-least_further-clause-tape
returns-in-Some-least_further-clause-tape g c =
    let kept = c.bits.invariant in
    let left = leaves-more g.S.Shelf.content g.S.Shelf.faults false c.args.shelf.now c.bits.shelf c.next_bit.new.shelf c.args.tape.now c.bits.tape c.next_bit.new.self kept.tape c.in-Bit.ensures.tape in
    let found = c.in-Some-least_further.found in
    leaves-more g.S.Shelf.content g.S.Shelf.faults false c.args.shelf.now c.next_bit.new.shelf c.next_bit.new.shelf c.args.tape.now c.next_bit.new.self c.skip.new.self left (leaves-skipped g.S.Shelf.content g.S.Shelf.faults c.next_bit.new.shelf found.bits c.next_bit.new.self c.skip.new.self left.belongs c.skip.ensures)

pub returns-in-Some-clause-drawn : goal.returns-in-Some-clause-drawn
returns-in-Some-clause-drawn g c =
    let kept = c.bits.invariant in
    let told = rw (kept.tape.source, kept.tape.content) at c.in-Bit.ensures.tells in
    let decided = decision-by c.args.system.now (g.O.Oracle.table c.args.oracle.now) (g.O.Oracle.table c.raise.new.self) c.args.node.0 (map number c.parts_of-parts.result.now) c.half_of-cell.result (Some (Choice.Take c.in-Some.option)) (c.raise.ensures.table ∙ kept.oracle.table) c.parts_of-parts.ensures.parts c.in-Some.ensures.exact in
    draw-decides (union_decision c.args.system.now (g.O.Oracle.table c.args.oracle.now) c.args.node.0) (bits_of_source c.args.tape.now.source (g.S.Shelf.content c.args.shelf.now)) c.args.tape.now.used c.bits.cell c.bits.tape.used kept.draws c.in-Bit.bit c.half_of-cell.result (Choice.Take c.from-value.result) c.next_bit.new.self.used (omega arith) kept.used told c.half_of-cell.ensures.exact c.half_of-cell.ensures.cell c.in-Bit.ensures.leaves
    (decided ∙ ap (λ i. Some (Choice.Take i)) (sym c.from-value.ensures))

pub returns-in-Some-clause-ideal : goal.returns-in-Some-clause-ideal
returns-in-Some-clause-ideal g c =
    let kept = c.bits.invariant in
    rw c.from-value.ensures
    (union-ideal c.args.system.now (g.O.Oracle.x c.args.oracle.now) g.row.F c.args.node.0 c.parts_of-parts.result.now (g.O.Oracle.table c.args.oracle.now) c.half_of-cell.result c.requires.union c.parts_of-parts.ensures.parts
    (omega (arith, length-map c.parts_of-parts.result.now number, c.parts_of-parts.ensures.some)) c.parts_of-parts.ensures.in_range (rw c.requires.spec at c.known.ensures.sound) c.half_of-cell.ensures.cell (Some c.in-Some.option)
    (rw (c.raise.ensures.table ∙ kept.oracle.table) at c.in-Some.ensures.exact))

pub returns-in-Some-clause-oracle : goal.returns-in-Some-clause-oracle
returns-in-Some-clause-oracle g c =
    let kept = c.bits.invariant in
    let rises : g.O.Oracle.raised c.bits.oracle ≤ g.O.Oracle.raised c.raise.new.self = omega (arith, c.raise.ensures.raised) in
    let six : g.O.Oracle.raised c.raise.new.self ≤ 6 = omega (arith, kept.raised, c.raise.ensures.raised, c.known.ensures.raised, c.level_at.ensures.to_six) in
    oracle-more g.O.Oracle.spec g.O.Oracle.x g.O.Oracle.table g.O.Oracle.cost g.O.Oracle.raised c.args.oracle.now c.bits.oracle c.raise.new.self c.args.steps.now c.bits.steps c.raise.new.steps c.known.ensures.costs six kept.oracle (record { spec = c.raise.ensures.spec; x = c.raise.ensures.x; table = c.raise.ensures.table; cost = c.raise.ensures.cost; rises = rises; ticks = c.raise.ensures.ticks })

pub returns-in-Some-clause-tape : goal.returns-in-Some-clause-tape
returns-in-Some-clause-tape g c = leaves-more g.S.Shelf.content g.S.Shelf.faults false c.args.shelf.now c.bits.shelf c.next_bit.new.shelf c.args.tape.now c.bits.tape c.next_bit.new.self c.bits.invariant.tape c.in-Bit.ensures.tape

pub returns-in-Ended-clause-drawn : goal.returns-in-Ended-clause-drawn
returns-in-Ended-clause-drawn g c =
    let kept = c.bits.invariant in
    let told = rw (kept.tape.source, kept.tape.content) at c.in-Ended.ensures.tells in
    draw-ends (union_decision c.args.system.now (g.O.Oracle.table c.args.oracle.now) c.args.node.0) (bits_of_source c.args.tape.now.source (g.S.Shelf.content c.args.shelf.now)) c.args.tape.now.used c.bits.cell c.bits.tape.used kept.draws c.next_bit.new.self.used (omega arith) kept.used told (ap (λ t. t.used) c.in-Ended.ensures.leaves)

pub returns-in-Ended-clause-tape : goal.returns-in-Ended-clause-tape
returns-in-Ended-clause-tape g c = leaves-more g.S.Shelf.content g.S.Shelf.faults false c.args.shelf.now c.bits.shelf c.next_bit.new.shelf c.args.tape.now c.bits.tape c.next_bit.new.self c.bits.invariant.tape c.in-Ended.ensures.tape

pub returns-in-ReadFault-clause-drawn : goal.returns-in-ReadFault-clause-drawn
returns-in-ReadFault-clause-drawn g c = draw-fails (union_decision c.args.system.now (g.O.Oracle.table c.args.oracle.now) c.args.node.0) (bits_of_source c.args.tape.now.source (g.S.Shelf.content c.args.shelf.now)) c.args.tape.now.used c.bits.cell c.bits.tape.used c.bits.invariant.draws c.next_bit.new.self.used (omega arith) c.bits.invariant.used (ap (λ t. t.used) c.in-ReadFault.ensures.leaves)

pub returns-in-ReadFault-clause-tape : goal.returns-in-ReadFault-clause-tape
returns-in-ReadFault-clause-tape g c = leaves-more g.S.Shelf.content g.S.Shelf.faults true c.args.shelf.now c.bits.shelf c.next_bit.new.shelf c.args.tape.now c.bits.tape c.next_bit.new.self c.bits.invariant.tape c.in-ReadFault.ensures.tape

pub returns-clause-drawn : goal.returns-clause-drawn
returns-clause-drawn g c = draw-straddles (union_decision c.args.system.now (g.O.Oracle.table c.args.oracle.now) c.args.node.0) (bits_of_source c.args.tape.now.source (g.S.Shelf.content c.args.shelf.now)) c.args.tape.now.used c.bits.cell c.bits.tape.used c.bits.invariant.draws (omega arith) c.bits.invariant.below c.bits.invariant.used
