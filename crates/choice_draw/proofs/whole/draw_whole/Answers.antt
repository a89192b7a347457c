-- The draw over the bits given goes on bit by bit as the definition's does.
use Rattle.std.proofs.Common.{arith, sym, ap, ◌∙◌, false}
use Rattle.bit_tape.specs.Tape.{bits_of_source}
use Rattle.bit_tape.proofs.Leaving.{leaves-more}
use Rattle.choice_draw.specs.Decision.{whole_decision}
use Rattle.choice_draw.proofs.GivenDraws.{draw-on, draw-decides, draw-ends, draw-fails, draw-straddles}
use Rattle.choice_draw.proofs.KeptDraws.{leaves-skipped}
use Rattle.choice_draw.proofs.SeenWholes.{shown-below, shown-on, shown-decides}
use Rattle.choice_draw.proofs.whole.draw_whole.Goals as goal

pub bits-init : goal.bits-init
bits-init g c =
    let seen = c.look_ahead-seen.ensures.seen in
    let cell = c.look_ahead-seen.result.cell in
    record {
      few_bits = omega (arith, seen.held, c.peek.ensures.few);
      below = shown-below c.peek.result.word cell (omega (arith, c.peek.type_inv)) seen.first (omega (arith, seen.held, c.peek.ensures.few));
      used = c.skip.ensures.used;
      tape = leaves-skipped g.S.Shelf.content g.S.Shelf.faults c.args.shelf.now cell.b c.args.tape.now c.skip.new.self c.requires.belongs c.skip.ensures;
      draws = shown-on (whole_decision c.args.m) (bits_of_source c.args.tape.now.source (g.S.Shelf.content c.args.shelf.now)) c.args.tape.now.used c.peek.result.word c.peek.result.count (omega (arith, c.peek.type_inv)) c.peek.ensures.few (c.peek.ensures.next (g.S.Shelf.content c.args.shelf.now) c.requires.belongs) cell c.skip.new.self.used seen.first seen.held seen.none_before (sym seen.exact ∙ c.in_default.is) c.skip.ensures.used;
    }

pub bits-preserved : goal.bits-preserved
bits-preserved g c =
    let kept = c.bits.invariant in
    let told = rw (kept.tape.source, kept.tape.content) at c.in-Bit.ensures.tells in
    record {
      few_bits = omega arith;
      below = c.half_of-cell.ensures.cell.below;
      used = omega (arith, kept.used, c.in-Bit.ensures.leaves, ap (λ h. h.b) c.half_of-cell.ensures.exact);
      tape = leaves-more g.S.Shelf.content g.S.Shelf.faults false c.args.shelf.now c.bits.shelf c.next_bit.new.shelf c.args.tape.now c.bits.tape c.next_bit.new.self kept.tape c.in-Bit.ensures.tape;
      draws = draw-on (whole_decision c.args.m) (bits_of_source c.args.tape.now.source (g.S.Shelf.content c.args.shelf.now)) c.args.tape.now.used c.bits.cell c.bits.tape.used kept.draws c.in-Bit.bit c.half_of-cell.result c.next_bit.new.self.used (omega arith) told c.half_of-cell.ensures.exact c.in-Bit.ensures.leaves (sym c.in_default-decide_whole.ensures.exact);
    }

pub returns-in-Some-clause-drawn : goal.returns-in-Some-clause-drawn
returns-in-Some-clause-drawn g c =
    let seen = c.look_ahead-seen.ensures.seen in
    let is_cell = rw (c.in-Some.is) at c.look_ahead-seen.ensures.cell in
    shown-decides (whole_decision c.args.m) (bits_of_source c.args.tape.now.source (g.S.Shelf.content c.args.shelf.now)) c.args.tape.now.used c.peek.result.word c.peek.result.count (omega (arith, c.peek.type_inv)) c.peek.ensures.few (c.peek.ensures.next (g.S.Shelf.content c.args.shelf.now) c.requires.belongs) c.look_ahead-seen.result.cell c.in-Some.value c.skip.new.self.used seen.first seen.held is_cell seen.none_before (sym seen.exact ∙ c.in-Some.is) c.skip.ensures.used

pub returns-in-Some-decide_whole-clause-drawn : goal.returns-in-Some-decide_whole-clause-drawn
returns-in-Some-decide_whole-clause-drawn g c =
    let kept = c.bits.invariant in
    let told = rw (kept.tape.source, kept.tape.content) at c.in-Bit.ensures.tells in
    draw-decides (whole_decision c.args.m) (bits_of_source c.args.tape.now.source (g.S.Shelf.content c.args.shelf.now)) c.args.tape.now.used c.bits.cell c.bits.tape.used kept.draws c.in-Bit.bit c.half_of-cell.result c.in-Some-decide_whole.value c.next_bit.new.self.used (omega arith) kept.used told c.half_of-cell.ensures.exact c.half_of-cell.ensures.cell c.in-Bit.ensures.leaves (sym c.in-Some-decide_whole.ensures.exact)

pub returns-in-Ended-clause-drawn : goal.returns-in-Ended-clause-drawn
returns-in-Ended-clause-drawn g c =
    let kept = c.bits.invariant in
    let told = rw (kept.tape.source, kept.tape.content) at c.in-Ended.ensures.tells in
    draw-ends (whole_decision c.args.m) (bits_of_source c.args.tape.now.source (g.S.Shelf.content c.args.shelf.now)) c.args.tape.now.used c.bits.cell c.bits.tape.used kept.draws c.next_bit.new.self.used (omega arith) kept.used told (ap (λ t. t.used) c.in-Ended.ensures.leaves)

pub returns-in-ReadFault-clause-drawn : goal.returns-in-ReadFault-clause-drawn
returns-in-ReadFault-clause-drawn g c = draw-fails (whole_decision c.args.m) (bits_of_source c.args.tape.now.source (g.S.Shelf.content c.args.shelf.now)) c.args.tape.now.used c.bits.cell c.bits.tape.used c.bits.invariant.draws c.next_bit.new.self.used (omega arith) c.bits.invariant.used (ap (λ t. t.used) c.in-ReadFault.ensures.leaves)

pub returns-clause-drawn : goal.returns-clause-drawn
returns-clause-drawn g c = draw-straddles (whole_decision c.args.m) (bits_of_source c.args.tape.now.source (g.S.Shelf.content c.args.shelf.now)) c.args.tape.now.used c.bits.cell c.bits.tape.used c.bits.invariant.draws (omega arith) c.bits.invariant.below c.bits.invariant.used
