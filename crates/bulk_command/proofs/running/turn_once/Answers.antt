use Rattle.std.proofs.Common.{refl, sym, ap, subst, None}
use Rattle.bit_tape.specs.Tape.{TapeState, bits_of_source}
use Rattle.size_window.specs.declared.turned.Turned.TheVariants as answer
use Rattle.sample_command.proofs.OneTurn.{can-turn-on, at-end}
use Rattle.sample_command.specs.UnderWay.{DrawingGoesOn}
use Rattle.bulk_command.specs.Running.{IsRunning}
use Rattle.bulk_command.specs.NoFiles.{empty_files}
use Rattle.bulk_command.proofs.RunTurns.{running-on, still-running}
use Rattle.bulk_command.proofs.running.turn_once.Goals as goal

-- the run goes on, and nothing was kept
pub returns-in-Going-clause-under_way : goal.returns-in-Going-clause-under_way
returns-in-Going-clause-under_way g c = λ p.
    running-on c.args.founded.now (g.O.Oracle.x c.args.oracle.now) g.row.F (g.O.Oracle.table c.args.oracle.now) c.args.drawing.now.limits c.args.tape.now.source c.args.drawing.now c.turn.new.self c.args.tape.now.used c.turn.new.tape.used answer.Going
    (record { law = c.a_turn_continues_a_trace.ensures; sound = c.requires.can_turn.sound; within = c.requires.can_turn.within; turn = c.in-Going.ensures.turned (λ e. absurd (cc)); counted = c.in-Going.ensures.counted })
    (g.O.Oracle.raised c.args.oracle.now) (g.O.Oracle.raised c.turn.new.oracle) c.turn.ensures.raised p

pub returns-in-Going-clause-goes_on : goal.returns-in-Going-clause-goes_on
returns-in-Going-clause-goes_on g c =
    can-turn-on c.args.founded.now (g.O.Oracle.x c.args.oracle.now) g.row.F (g.O.Oracle.table c.args.oracle.now) c.args.drawing.now.limits (bits_of_source c.args.tape.now.source empty_files) empty_files c.args.drawing.now c.turn.new.self c.args.tape.now c.turn.new.tape answer.Going
    (record { law = c.a_turn_continues_a_trace.ensures; sound = c.requires.can_turn.sound; within = c.requires.can_turn.within; turn = c.in-Going.ensures.turned (λ e. absurd (cc)); counted = c.in-Going.ensures.counted })
    c.requires.can_turn refl refl c.turn.ensures.drawing c.turn.ensures.tape.belongs

-- an object was kept, and is let go
pub returns-in-Kept-clause-under_way : goal.returns-in-Kept-clause-under_way
returns-in-Kept-clause-under_way g c = λ p.
    subst (λ d. IsRunning c.args.founded.now (g.O.Oracle.x c.args.oracle.now) g.row.F (g.O.Oracle.table c.args.oracle.now) c.args.drawing.now.limits c.args.tape.now.source d c.turn.new.tape.used (g.O.Oracle.raised c.turn.new.oracle)) (sym c.take_back.ensures)
    (running-on c.args.founded.now (g.O.Oracle.x c.args.oracle.now) g.row.F (g.O.Oracle.table c.args.oracle.now) c.args.drawing.now.limits c.args.tape.now.source c.args.drawing.now c.turn.new.self c.args.tape.now.used c.turn.new.tape.used (answer.Kept c.in-Kept.entry)
    (record { law = c.a_turn_continues_a_trace.ensures; sound = c.requires.can_turn.sound; within = c.requires.can_turn.within; turn = c.in-Kept.ensures.turned (λ e. absurd (cc)); counted = c.in-Kept.ensures.counted })
    (g.O.Oracle.raised c.args.oracle.now) (g.O.Oracle.raised c.turn.new.oracle) c.turn.ensures.raised p)

pub returns-in-Kept-clause-goes_on : goal.returns-in-Kept-clause-goes_on
returns-in-Kept-clause-goes_on g c =
    subst (λ d. DrawingGoesOn c.args.founded.now (g.O.Oracle.x c.args.oracle.now) (g.O.Oracle.table c.args.oracle.now) empty_files c.args.drawing.now.limits c.args.drawing.now d c.turn.new.tape None) (sym c.take_back.ensures)
    (can-turn-on c.args.founded.now (g.O.Oracle.x c.args.oracle.now) g.row.F (g.O.Oracle.table c.args.oracle.now) c.args.drawing.now.limits (bits_of_source c.args.tape.now.source empty_files) empty_files c.args.drawing.now c.turn.new.self c.args.tape.now c.turn.new.tape (answer.Kept c.in-Kept.entry)
    (record { law = c.a_turn_continues_a_trace.ensures; sound = c.requires.can_turn.sound; within = c.requires.can_turn.within; turn = c.in-Kept.ensures.turned (λ e. absurd (cc)); counted = c.in-Kept.ensures.counted })
    c.requires.can_turn refl refl c.turn.ensures.drawing c.turn.ensures.tape.belongs)

-- the run has come to its end
pub returns-in-Finished-clause-under_way : goal.returns-in-Finished-clause-under_way
returns-in-Finished-clause-under_way g c = λ p.
    running-on c.args.founded.now (g.O.Oracle.x c.args.oracle.now) g.row.F (g.O.Oracle.table c.args.oracle.now) c.args.drawing.now.limits c.args.tape.now.source c.args.drawing.now c.turn.new.self c.args.tape.now.used c.turn.new.tape.used (answer.Finished c.in-Finished.ending)
    (record { law = c.a_turn_continues_a_trace.ensures; sound = c.requires.can_turn.sound; within = c.requires.can_turn.within; turn = c.in-Finished.ensures.turned (λ e. absurd (cc)); counted = c.in-Finished.ensures.counted })
    (g.O.Oracle.raised c.args.oracle.now) (g.O.Oracle.raised c.turn.new.oracle) c.turn.ensures.raised p

pub returns-in-Finished-clause-goes_on : goal.returns-in-Finished-clause-goes_on
returns-in-Finished-clause-goes_on g c =
    at-end c.args.founded.now (g.O.Oracle.x c.args.oracle.now) empty_files (g.O.Oracle.table c.args.oracle.now) c.args.drawing.now.limits c.args.drawing.now c.turn.new.self c.args.tape.now c.in-Finished.ending c.requires.can_turn c.in-Finished.ensures.counted
    (λ e. (c.in-Finished.ensures.done c.requires.can_turn.goes_on).0 e) (λ e. ((c.in-Finished.ensures.turn_limit c.requires.can_turn.goes_on).0 e).1) (c.in-Finished.ensures.undecided c.requires.can_turn.goes_on)

-- a turn had no memory
pub returns-in-OutOfMemory-clause-under_way : goal.returns-in-OutOfMemory-clause-under_way
returns-in-OutOfMemory-clause-under_way g c = λ p.
    let still = c.in-OutOfMemory.ensures.no_memory refl in
    still-running c.args.founded.now (g.O.Oracle.x c.args.oracle.now) g.row.F (g.O.Oracle.table c.args.oracle.now) c.args.drawing.now.limits c.args.tape.now.source c.args.drawing.now c.turn.new.self c.args.tape.now.used c.turn.new.tape.used (g.O.Oracle.raised c.args.oracle.now) (g.O.Oracle.raised c.turn.new.oracle) still.0 (ap (λ (t : TapeState). t.used) still.1) (ap g.O.Oracle.raised still.2) p
