use Rattle.std.proofs.Common.{false, ap, subst, arith}
use Rattle.bit_tape.specs.Tape.{LeavesTape, bits_of_source}
use Rattle.bit_tape.proofs.Leaving.{leaves-none, leaves-more}
use Rattle.choice_draw.proofs.Ticks.{oracle-none, oracle-more}
use Rattle.sample_command.specs.UnderWay.{has_failed, CanTurn, IsAtEnd, IsUnderWay, IsBroken, DrawingGoesOn}
use Rattle.sample_command.proofs.Turns.{moved-five, sent-on, cut-on}
use Rattle.sample_command.proofs.drawing.draw_to_the_end.Goals as goal

-- nothing was done yet
pub turns-init : goal.turns-init
turns-init g c = record {
  can_turn = c.requires.can_turn;
  oracle = oracle-none g.O.Oracle.spec g.O.Oracle.x g.O.Oracle.table g.O.Oracle.cost g.O.Oracle.raised c.args.oracle.now c.args.steps.now;
  six = c.requires.levels;
  tape = leaves-none g.S.Shelf.content g.S.Shelf.faults c.args.shelf.now c.args.tape.now c.requires.can_turn.ahead;
  writes = omega arith;
  under_way = λ header start p. p;
}

-- a turn had no memory
pub returns-in_default-clause-broken : goal.returns-in_default-clause-broken
returns-in_default-clause-broken g c = λ header start p.
    let inv = c.turns.invariant in
    moved-five (λ x t l s k. IsUnderWay c.args.founded.now x g.row.F t l (bits_of_source s k) c.turns.drawing c.turns.tape.used (g.O.Oracle.raised c.turns.oracle) header start (g.K.Sink.written c.turns.out) c.turns.page.items → IsBroken c.args.founded.now x g.row.F t l (bits_of_source s k) c.make_turns.new.drawing c.make_turns.new.tape.used (g.O.Oracle.raised c.make_turns.new.oracle) header start (g.K.Sink.written c.turns.out))
    (g.O.Oracle.x c.args.oracle.now) (g.O.Oracle.x c.turns.oracle) (g.O.Oracle.table c.args.oracle.now) (g.O.Oracle.table c.turns.oracle) c.args.drawing.now.limits c.turns.drawing.limits c.args.tape.now.source c.turns.tape.source (g.S.Shelf.content c.args.shelf.now) (g.S.Shelf.content c.turns.shelf) inv.oracle.x inv.oracle.table inv.can_turn.within inv.tape.source inv.tape.content
    (c.in_default.ensures.broken header start (g.K.Sink.written c.turns.out))
    (inv.under_way header start p)

pub returns-in_default-clause-oracle : goal.returns-in_default-clause-oracle
returns-in_default-clause-oracle g c = oracle-more g.O.Oracle.spec g.O.Oracle.x g.O.Oracle.table g.O.Oracle.cost g.O.Oracle.raised c.args.oracle.now c.turns.oracle c.make_turns.new.oracle c.args.steps.now c.turns.steps c.make_turns.new.steps c.requires.costs (c.make_turns.ensures.levels c.turns.invariant.six) c.turns.invariant.oracle c.make_turns.ensures.oracle

pub returns-in_default-clause-tape : goal.returns-in_default-clause-tape
returns-in_default-clause-tape g c = leaves-more g.S.Shelf.content g.S.Shelf.faults (has_failed c.make_turns.new.drawing.ending) c.args.shelf.now c.turns.shelf c.make_turns.new.shelf c.args.tape.now c.turns.tape c.make_turns.new.tape c.turns.invariant.tape c.make_turns.ensures.tape

-- the last turn ends the drawing that was under way until then
pub returns-in-Some-clause-under_way : goal.returns-in-Some-clause-under_way
returns-in-Some-clause-under_way g c = λ header start p.
    let inv = c.turns.invariant in
    moved-five (λ x t l s k. IsUnderWay c.args.founded.now x g.row.F t l (bits_of_source s k) c.turns.drawing c.turns.tape.used (g.O.Oracle.raised c.turns.oracle) header start (g.K.Sink.written c.turns.out) c.turns.page.items → IsUnderWay c.args.founded.now x g.row.F t l (bits_of_source s k) c.make_turns.new.drawing c.make_turns.new.tape.used (g.O.Oracle.raised c.make_turns.new.oracle) header start (g.K.Sink.written c.turns.out) c.make_turns.new.page.items)
    (g.O.Oracle.x c.args.oracle.now) (g.O.Oracle.x c.turns.oracle) (g.O.Oracle.table c.args.oracle.now) (g.O.Oracle.table c.turns.oracle) c.args.drawing.now.limits c.turns.drawing.limits c.args.tape.now.source c.turns.tape.source (g.S.Shelf.content c.args.shelf.now) (g.S.Shelf.content c.turns.shelf) inv.oracle.x inv.oracle.table inv.can_turn.within inv.tape.source inv.tape.content
    (c.in-Ok.ensures.under_way header start (g.K.Sink.written c.turns.out))
    (inv.under_way header start p)

pub returns-in-Some-clause-ended : goal.returns-in-Some-clause-ended
returns-in-Some-clause-ended g c =
    let inv = c.turns.invariant in
    let end = subst (DrawingGoesOn c.args.founded.now (g.O.Oracle.x c.turns.oracle) (g.O.Oracle.table c.turns.oracle) (g.S.Shelf.content c.turns.shelf) c.turns.drawing.limits c.turns.drawing c.make_turns.new.drawing c.make_turns.new.tape) c.in-Some.is c.in-Ok.ensures.goes_on in
    subst (λ t. IsAtEnd t c.args.drawing.now.limits c.make_turns.new.drawing c.in-Some.ending) inv.oracle.table (subst (λ l. IsAtEnd (g.O.Oracle.table c.turns.oracle) l c.make_turns.new.drawing c.in-Some.ending) inv.can_turn.within end)

pub returns-in-Some-clause-oracle : goal.returns-in-Some-clause-oracle
returns-in-Some-clause-oracle g c = oracle-more g.O.Oracle.spec g.O.Oracle.x g.O.Oracle.table g.O.Oracle.cost g.O.Oracle.raised c.args.oracle.now c.turns.oracle c.make_turns.new.oracle c.args.steps.now c.turns.steps c.make_turns.new.steps c.requires.costs (c.make_turns.ensures.levels c.turns.invariant.six) c.turns.invariant.oracle c.make_turns.ensures.oracle

pub returns-in-Some-clause-tape : goal.returns-in-Some-clause-tape
returns-in-Some-clause-tape g c = leaves-more g.S.Shelf.content g.S.Shelf.faults (has_failed c.make_turns.new.drawing.ending) c.args.shelf.now c.turns.shelf c.make_turns.new.shelf c.args.tape.now c.turns.tape c.make_turns.new.tape c.turns.invariant.tape c.make_turns.ensures.tape

-- after a turn that goes on the drawing is under way
pub turns-preserved : goal.turns-preserved
turns-preserved g c =
    let inv = c.turns.invariant in
    let on = subst (DrawingGoesOn c.args.founded.now (g.O.Oracle.x c.turns.oracle) (g.O.Oracle.table c.turns.oracle) (g.S.Shelf.content c.turns.shelf) c.turns.drawing.limits c.turns.drawing c.make_turns.new.drawing c.make_turns.new.tape) c.in_default-turned.is c.in-Ok.ensures.goes_on in
    record {
      can_turn = moved-five (λ x t l s k. CanTurn c.args.founded.now x k l c.make_turns.new.drawing c.make_turns.new.tape) (g.O.Oracle.x c.args.oracle.now) (g.O.Oracle.x c.turns.oracle) (g.O.Oracle.table c.args.oracle.now) (g.O.Oracle.table c.turns.oracle) c.args.drawing.now.limits c.turns.drawing.limits c.args.tape.now.source c.turns.tape.source (g.S.Shelf.content c.args.shelf.now) (g.S.Shelf.content c.turns.shelf) inv.oracle.x inv.oracle.table inv.can_turn.within inv.tape.source inv.tape.content on.0;
      oracle = oracle-more g.O.Oracle.spec g.O.Oracle.x g.O.Oracle.table g.O.Oracle.cost g.O.Oracle.raised c.args.oracle.now c.turns.oracle c.make_turns.new.oracle c.args.steps.now c.turns.steps c.make_turns.new.steps c.requires.costs (c.make_turns.ensures.levels inv.six) inv.oracle c.make_turns.ensures.oracle;
      six = c.make_turns.ensures.levels inv.six;
      tape = leaves-more g.S.Shelf.content g.S.Shelf.faults false c.args.shelf.now c.turns.shelf c.make_turns.new.shelf c.args.tape.now c.turns.tape c.make_turns.new.tape inv.tape
          (subst (λ b. LeavesTape g.S.Shelf.content g.S.Shelf.faults b c.turns.shelf c.make_turns.new.shelf c.turns.tape c.make_turns.new.tape) (ap has_failed on.0.goes_on) c.make_turns.ensures.tape);
      writes = let a = inv.writes in let b = c.send_enough.ensures.counts in omega (arith, a, b);
      under_way = λ header start p.
          sent-on c.args.founded.now (g.O.Oracle.x c.args.oracle.now) g.row.F (g.O.Oracle.table c.args.oracle.now) c.args.drawing.now.limits (bits_of_source c.args.tape.now.source (g.S.Shelf.content c.args.shelf.now)) c.make_turns.new.drawing c.make_turns.new.tape.used (g.O.Oracle.raised c.make_turns.new.oracle) header start (g.K.Sink.written c.turns.out) (g.K.Sink.written c.send_enough.new.out) c.make_turns.new.page.items c.send_enough.new.page.items c.in-Ok-send_enough.ensures.held
          (moved-five (λ x t l s k. IsUnderWay c.args.founded.now x g.row.F t l (bits_of_source s k) c.turns.drawing c.turns.tape.used (g.O.Oracle.raised c.turns.oracle) header start (g.K.Sink.written c.turns.out) c.turns.page.items → IsUnderWay c.args.founded.now x g.row.F t l (bits_of_source s k) c.make_turns.new.drawing c.make_turns.new.tape.used (g.O.Oracle.raised c.make_turns.new.oracle) header start (g.K.Sink.written c.turns.out) c.make_turns.new.page.items)
          (g.O.Oracle.x c.args.oracle.now) (g.O.Oracle.x c.turns.oracle) (g.O.Oracle.table c.args.oracle.now) (g.O.Oracle.table c.turns.oracle) c.args.drawing.now.limits c.turns.drawing.limits c.args.tape.now.source c.turns.tape.source (g.S.Shelf.content c.args.shelf.now) (g.S.Shelf.content c.turns.shelf) inv.oracle.x inv.oracle.table inv.can_turn.within inv.tape.source inv.tape.content
          (c.in-Ok.ensures.under_way header start (g.K.Sink.written c.turns.out))
          (inv.under_way header start p));
    }

-- a write failed after the turn
pub returns-in_default-send_enough-clause-broken : goal.returns-in_default-send_enough-clause-broken
returns-in_default-send_enough-clause-broken g c = λ header start p.
    let inv = c.turns.invariant in
    cut-on c.args.founded.now (g.O.Oracle.x c.args.oracle.now) g.row.F (g.O.Oracle.table c.args.oracle.now) c.args.drawing.now.limits (bits_of_source c.args.tape.now.source (g.S.Shelf.content c.args.shelf.now)) c.make_turns.new.drawing c.make_turns.new.tape.used (g.O.Oracle.raised c.make_turns.new.oracle) header start (g.K.Sink.written c.turns.out) (g.K.Sink.written c.send_enough.new.out) c.make_turns.new.page.items c.in_default-send_enough.ensures.cut
    (moved-five (λ x t l s k. IsUnderWay c.args.founded.now x g.row.F t l (bits_of_source s k) c.turns.drawing c.turns.tape.used (g.O.Oracle.raised c.turns.oracle) header start (g.K.Sink.written c.turns.out) c.turns.page.items → IsUnderWay c.args.founded.now x g.row.F t l (bits_of_source s k) c.make_turns.new.drawing c.make_turns.new.tape.used (g.O.Oracle.raised c.make_turns.new.oracle) header start (g.K.Sink.written c.turns.out) c.make_turns.new.page.items)
    (g.O.Oracle.x c.args.oracle.now) (g.O.Oracle.x c.turns.oracle) (g.O.Oracle.table c.args.oracle.now) (g.O.Oracle.table c.turns.oracle) c.args.drawing.now.limits c.turns.drawing.limits c.args.tape.now.source c.turns.tape.source (g.S.Shelf.content c.args.shelf.now) (g.S.Shelf.content c.turns.shelf) inv.oracle.x inv.oracle.table inv.can_turn.within inv.tape.source inv.tape.content
    (c.in-Ok.ensures.under_way header start (g.K.Sink.written c.turns.out))
    (inv.under_way header start p))

pub returns-in_default-send_enough-clause-oracle : goal.returns-in_default-send_enough-clause-oracle
returns-in_default-send_enough-clause-oracle g c = oracle-more g.O.Oracle.spec g.O.Oracle.x g.O.Oracle.table g.O.Oracle.cost g.O.Oracle.raised c.args.oracle.now c.turns.oracle c.make_turns.new.oracle c.args.steps.now c.turns.steps c.make_turns.new.steps c.requires.costs (c.make_turns.ensures.levels c.turns.invariant.six) c.turns.invariant.oracle c.make_turns.ensures.oracle

pub returns-in_default-send_enough-clause-tape : goal.returns-in_default-send_enough-clause-tape
returns-in_default-send_enough-clause-tape g c = leaves-more g.S.Shelf.content g.S.Shelf.faults (has_failed c.make_turns.new.drawing.ending) c.args.shelf.now c.turns.shelf c.make_turns.new.shelf c.args.tape.now c.turns.tape c.make_turns.new.tape c.turns.invariant.tape c.make_turns.ensures.tape
