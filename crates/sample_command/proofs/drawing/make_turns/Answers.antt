use Rattle.std.proofs.Common.{refl}
use Rattle.std.proofs.lemmas.Result.{IfOk-weaker, on_ok_weaker, on_err_weaker}
use Rattle.bit_tape.specs.Tape.{bits_of_source}
use Rattle.bit_tape.proofs.Leaving.{leaves-more}
use Rattle.sample_command.specs.UnderWay.{has_failed, IsUnderWay, IsBroken, DrawingGoesOn}
use Rattle.sample_command.proofs.Turns.{moved-five}
use Rattle.sample_command.proofs.TurnsAhead.{goes-on-ahead, on-own-limits, leaves-ahead}
use Rattle.sample_command.proofs.drawing.make_turns.Goals as goal

-- the drawing belongs to its specification
pub go_ahead-requires-clause-drawing : goal.go_ahead-requires-clause-drawing
go_ahead-requires-clause-drawing g c = c.requires.can_turn.belongs

-- after the turns ahead it can make another
pub turn_once-requires-clause-can_turn : goal.turn_once-requires-clause-can_turn
turn_once-requires-clause-can_turn g c = on-own-limits c.args.founded.now (g.O.Oracle.x c.args.oracle.now) (g.S.Shelf.content c.args.shelf.now) c.args.drawing.now.limits c.go_ahead.new.drawing c.go_ahead.new.tape (c.go_ahead.ensures.can_turn (g.S.Shelf.content c.args.shelf.now) c.requires.can_turn)

-- after the turns ahead and the last one it is under way
pub returns-clause-under_way : goal.returns-clause-under_way
returns-clause-under_way g c = on_ok_weaker c.turn_once.result (λ turns header start now p.
    let can = c.go_ahead.ensures.can_turn (g.S.Shelf.content c.args.shelf.now) c.requires.can_turn in
    moved-five (λ x t l s k. IsUnderWay c.args.founded.now x g.row.F t l (bits_of_source s k) c.go_ahead.new.drawing c.go_ahead.new.tape.used (g.O.Oracle.raised c.args.oracle.now) header start now c.args.page.now.items → IsUnderWay c.args.founded.now x g.row.F t l (bits_of_source s k) c.turn_once.new.drawing c.turn_once.new.tape.used (g.O.Oracle.raised c.turn_once.new.oracle) header start now c.turn_once.new.page.items)
    (g.O.Oracle.x c.args.oracle.now) (g.O.Oracle.x c.args.oracle.now) (g.O.Oracle.table c.args.oracle.now) (g.O.Oracle.table c.args.oracle.now) c.args.drawing.now.limits c.go_ahead.new.drawing.limits c.args.tape.now.source c.go_ahead.new.tape.source (g.S.Shelf.content c.args.shelf.now) (g.S.Shelf.content c.args.shelf.now) refl refl can.within c.go_ahead.ensures.source refl
    (turns header start now) (c.go_ahead.ensures.under_way (g.S.Shelf.content c.args.shelf.now) c.requires.can_turn header start now c.args.page.now.items p))
    c.turn_once.ensures.under_way

-- the last one had no memory
pub returns-clause-broken : goal.returns-clause-broken
returns-clause-broken g c = on_err_weaker c.turn_once.result (λ turns header start now p.
    let can = c.go_ahead.ensures.can_turn (g.S.Shelf.content c.args.shelf.now) c.requires.can_turn in
    moved-five (λ x t l s k. IsUnderWay c.args.founded.now x g.row.F t l (bits_of_source s k) c.go_ahead.new.drawing c.go_ahead.new.tape.used (g.O.Oracle.raised c.args.oracle.now) header start now c.args.page.now.items → IsBroken c.args.founded.now x g.row.F t l (bits_of_source s k) c.turn_once.new.drawing c.turn_once.new.tape.used (g.O.Oracle.raised c.turn_once.new.oracle) header start now)
    (g.O.Oracle.x c.args.oracle.now) (g.O.Oracle.x c.args.oracle.now) (g.O.Oracle.table c.args.oracle.now) (g.O.Oracle.table c.args.oracle.now) c.args.drawing.now.limits c.go_ahead.new.drawing.limits c.args.tape.now.source c.go_ahead.new.tape.source (g.S.Shelf.content c.args.shelf.now) (g.S.Shelf.content c.args.shelf.now) refl refl can.within c.go_ahead.ensures.source refl
    (turns header start now) (c.go_ahead.ensures.under_way (g.S.Shelf.content c.args.shelf.now) c.requires.can_turn header start now c.args.page.now.items p))
    c.turn_once.ensures.broken

-- more turns were made, or the drawing has come to its end
pub returns-clause-goes_on : goal.returns-clause-goes_on
returns-clause-goes_on g c =
    let can = c.go_ahead.ensures.can_turn (g.S.Shelf.content c.args.shelf.now) c.requires.can_turn in
    IfOk-weaker c.turn_once.result (DrawingGoesOn c.args.founded.now (g.O.Oracle.x c.args.oracle.now) (g.O.Oracle.table c.args.oracle.now) (g.S.Shelf.content c.args.shelf.now) c.go_ahead.new.drawing.limits c.go_ahead.new.drawing c.turn_once.new.drawing c.turn_once.new.tape) (DrawingGoesOn c.args.founded.now (g.O.Oracle.x c.args.oracle.now) (g.O.Oracle.table c.args.oracle.now) (g.S.Shelf.content c.args.shelf.now) c.args.drawing.now.limits c.args.drawing.now c.turn_once.new.drawing c.turn_once.new.tape)
    (λ o. goes-on-ahead c.args.founded.now (g.O.Oracle.x c.args.oracle.now) (g.O.Oracle.table c.args.oracle.now) (g.S.Shelf.content c.args.shelf.now) c.args.drawing.now.limits c.args.drawing.now c.go_ahead.new.drawing c.turn_once.new.drawing c.turn_once.new.tape o can.within c.go_ahead.ensures.turns)
    c.turn_once.ensures.goes_on

-- the turns ahead ask no shelf
pub returns-clause-tape : goal.returns-clause-tape
returns-clause-tape g c =
    let can = c.go_ahead.ensures.can_turn (g.S.Shelf.content c.args.shelf.now) c.requires.can_turn in
    leaves-more g.S.Shelf.content g.S.Shelf.faults (has_failed c.turn_once.new.drawing.ending) c.args.shelf.now c.args.shelf.now c.turn_once.new.shelf c.args.tape.now c.go_ahead.new.tape c.turn_once.new.tape
    (leaves-ahead g.S.Shelf.content g.S.Shelf.faults c.args.shelf.now c.args.tape.now c.go_ahead.new.tape c.go_ahead.ensures.source can.ahead) c.turn_once.ensures.tape
