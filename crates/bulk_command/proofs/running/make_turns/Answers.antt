use Rattle.std.proofs.Common.{refl, subst}
use Rattle.std.proofs.lemmas.Result.{IfOk-weaker}
use Rattle.bit_tape.specs.Tape.{TapeSource, CountsFault}
use Rattle.sample_command.specs.UnderWay.{DrawingGoesOn, has_failed}
use Rattle.sample_command.proofs.TurnsAhead.{goes-on-ahead, on-own-limits}
use Rattle.bulk_command.specs.NoFiles.{empty_files, no_faults}
use Rattle.bulk_command.specs.Running.{IsRunning}
use Rattle.bulk_command.proofs.RunTurns.{moved-four}
use Rattle.bulk_command.proofs.running.make_turns.Goals as goal

-- after the turns ahead the drawing can make another
pub turn_once-requires-clause-can_turn : goal.turn_once-requires-clause-can_turn
turn_once-requires-clause-can_turn g c = on-own-limits c.args.founded.now (g.O.Oracle.x c.args.oracle.now) empty_files c.args.drawing.now.limits c.go_ahead.new.drawing c.go_ahead.new.tape c.go_ahead.ensures.can_turn

-- after the turns ahead and the last one the run is under way
pub returns-clause-under_way : goal.returns-clause-under_way
returns-clause-under_way g c = λ p.
    moved-four (λ x t l s. IsRunning c.args.founded.now x g.row.F t l s c.go_ahead.new.drawing c.go_ahead.new.tape.used (g.O.Oracle.raised c.args.oracle.now) → IsRunning c.args.founded.now x g.row.F t l s c.turn_once.new.drawing c.turn_once.new.tape.used (g.O.Oracle.raised c.turn_once.new.oracle))
    (g.O.Oracle.x c.args.oracle.now) (g.O.Oracle.x c.args.oracle.now) (g.O.Oracle.table c.args.oracle.now) (g.O.Oracle.table c.args.oracle.now) c.args.drawing.now.limits c.go_ahead.new.drawing.limits c.args.tape.now.source c.go_ahead.new.tape.source refl refl c.go_ahead.ensures.can_turn.within c.go_ahead.ensures.source
    c.turn_once.ensures.under_way (c.go_ahead.ensures.under_way p)

-- more turns were made, or the run has come to its end
pub returns-clause-goes_on : goal.returns-clause-goes_on
returns-clause-goes_on g c =
    IfOk-weaker c.turn_once.result (DrawingGoesOn c.args.founded.now (g.O.Oracle.x c.args.oracle.now) (g.O.Oracle.table c.args.oracle.now) empty_files c.go_ahead.new.drawing.limits c.go_ahead.new.drawing c.turn_once.new.drawing c.turn_once.new.tape) (DrawingGoesOn c.args.founded.now (g.O.Oracle.x c.args.oracle.now) (g.O.Oracle.table c.args.oracle.now) empty_files c.args.drawing.now.limits c.args.drawing.now c.turn_once.new.drawing c.turn_once.new.tape)
    (λ o. goes-on-ahead c.args.founded.now (g.O.Oracle.x c.args.oracle.now) (g.O.Oracle.table c.args.oracle.now) empty_files c.args.drawing.now.limits c.args.drawing.now c.go_ahead.new.drawing c.turn_once.new.drawing c.turn_once.new.tape o c.go_ahead.ensures.can_turn.within c.go_ahead.ensures.turns)
    c.turn_once.ensures.goes_on

-- the turns ahead ask no shelf
pub returns-clause-reads : goal.returns-clause-reads
returns-clause-reads g c = subst (λ (s : TapeSource). CountsFault (has_failed c.turn_once.new.drawing.ending) s no_faults no_faults) c.go_ahead.ensures.source c.turn_once.ensures.reads
