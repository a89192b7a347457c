use Rattle.std.proofs.Common.{refl}
use Rattle.bit_tape.specs.Tape.{bits_of_source}
use Rattle.sample_command.proofs.TurnsAhead.{under-way-ahead, can-turn-ahead}
use Rattle.sample_command.proofs.drawing.go_ahead.Goals as goal

-- another turn can be made
pub returns-clause-can_turn : goal.returns-clause-can_turn
returns-clause-can_turn g c = λ contents can.
    can-turn-ahead c.a_turn_continues_a_trace.ensures c.args.founded.now can.sound (g.O.Oracle.x c.args.oracle.now) g.row.F (g.O.Oracle.table c.args.oracle.now) c.args.drawing.now.limits (bits_of_source c.args.tape.now.source contents) (g.O.Oracle.raised c.args.oracle.now) contents c.turn_ahead.result c.args.drawing.now c.turn_ahead.new.self c.args.tape.now c.turn_ahead.new.tape (c.turn_ahead.ensures.goes contents can.ahead) can c.turn_ahead.ensures.drawing (c.turn_ahead.ensures.belongs contents can.ahead)

-- the drawing is under way
pub returns-clause-under_way : goal.returns-clause-under_way
returns-clause-under_way g c = λ contents can header start now page p.
    under-way-ahead c.a_turn_continues_a_trace.ensures c.args.founded.now can.sound (g.O.Oracle.x c.args.oracle.now) g.row.F (g.O.Oracle.table c.args.oracle.now) c.args.drawing.now.limits (bits_of_source c.args.tape.now.source contents) (g.O.Oracle.raised c.args.oracle.now) c.turn_ahead.result c.args.drawing.now c.turn_ahead.new.self c.args.tape.now.used c.turn_ahead.new.tape.used refl (c.turn_ahead.ensures.goes contents can.ahead) header start now page p
