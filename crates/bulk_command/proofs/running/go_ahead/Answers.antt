use Rattle.std.proofs.Common.{refl}
use Rattle.bit_tape.specs.Tape.{bits_of_source}
use Rattle.sample_command.proofs.TurnsAhead.{can-turn-ahead}
use Rattle.bulk_command.specs.NoFiles.{empty_files}
use Rattle.bulk_command.proofs.RunTurns.{running-ahead}
use Rattle.bulk_command.proofs.running.go_ahead.Goals as goal

-- the drawing belongs to its specification
pub turn_ahead-requires-clause-drawing : goal.turn_ahead-requires-clause-drawing
turn_ahead-requires-clause-drawing g c = c.requires.can_turn.belongs

-- another turn can be made
pub returns-clause-can_turn : goal.returns-clause-can_turn
returns-clause-can_turn g c =
    can-turn-ahead c.a_turn_continues_a_trace.ensures c.args.founded.now c.requires.can_turn.sound (g.O.Oracle.x c.args.oracle.now) g.row.F (g.O.Oracle.table c.args.oracle.now) c.args.drawing.now.limits (bits_of_source c.args.tape.now.source empty_files) (g.O.Oracle.raised c.args.oracle.now) empty_files c.turn_ahead.result c.args.drawing.now c.turn_ahead.new.self c.args.tape.now c.turn_ahead.new.tape (c.turn_ahead.ensures.goes empty_files c.requires.can_turn.ahead) c.requires.can_turn c.turn_ahead.ensures.drawing (c.turn_ahead.ensures.belongs empty_files c.requires.can_turn.ahead)

-- the run is under way
pub returns-clause-under_way : goal.returns-clause-under_way
returns-clause-under_way g c = λ p.
    running-ahead c.a_turn_continues_a_trace.ensures c.args.founded.now c.requires.can_turn.sound (g.O.Oracle.x c.args.oracle.now) g.row.F (g.O.Oracle.table c.args.oracle.now) c.args.drawing.now.limits c.args.tape.now.source (g.O.Oracle.raised c.args.oracle.now) c.turn_ahead.result c.args.drawing.now c.turn_ahead.new.self c.args.tape.now.used c.turn_ahead.new.tape.used refl (c.turn_ahead.ensures.goes empty_files c.requires.can_turn.ahead) p
