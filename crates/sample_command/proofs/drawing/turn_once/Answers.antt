use Rattle.std.proofs.Common.{refl, sym, subst, ap, append-nil, [], None}
use Rattle.bit_tape.specs.Tape.{TapeState, BelongsToShelf, bits_of_source}
use Rattle.size_window.specs.Turn.{entry_of}
use Rattle.size_window.specs.declared.turned.Turned.TheVariants as answer
use Rattle.sample_command.specs.UnderWay.{DrawingGoesOn, IsUnderWay}
use Rattle.sample_command.proofs.OneTurn.{entry-is-of, can-turn-on, at-end}
use Rattle.sample_command.proofs.Turns.{under-way-on, broken-on, broken-still}
use Rattle.sample_command.proofs.drawing.turn_once.Goals as goal

-- what is kept is of class 0
pub append_entry-requires-clause-is_of : goal.append_entry-requires-clause-is_of
append_entry-requires-clause-is_of g c =
    entry-is-of c.args.founded.now (g.O.Oracle.x c.args.oracle.now) g.row.F (g.O.Oracle.table c.args.oracle.now) c.args.drawing.now.limits (bits_of_source c.args.tape.now.source (g.S.Shelf.content c.args.shelf.now)) c.args.drawing.now c.turn.new.self c.args.tape.now.used c.turn.new.tape.used (answer.Kept c.in-Kept.entry)
    (record { law = c.a_turn_continues_a_trace.ensures; sound = c.requires.can_turn.sound; within = c.requires.can_turn.within; turn = c.in-Kept.ensures.turned (λ e. absurd (cc)); counted = c.in-Kept.ensures.counted })
    (entry_of c.in-Kept.entry) c.requires.can_turn.so_far refl

-- an entry has its labels
pub append_entry-requires-clause-labels : goal.append_entry-requires-clause-labels
append_entry-requires-clause-labels g c = c.in-Kept.ensures.labels

-- the drawing goes on, and nothing was kept
pub returns-in-Going-clause-under_way : goal.returns-in-Going-clause-under_way
returns-in-Going-clause-under_way g c = λ header start now p.
    let told = bits_of_source c.args.tape.now.source (g.S.Shelf.content c.args.shelf.now) in
    subst (IsUnderWay c.args.founded.now (g.O.Oracle.x c.args.oracle.now) g.row.F (g.O.Oracle.table c.args.oracle.now) c.args.drawing.now.limits told c.turn.new.self c.turn.new.tape.used (g.O.Oracle.raised c.turn.new.oracle) header start now) (append-nil c.args.page.now.items)
    (under-way-on c.args.founded.now (g.O.Oracle.x c.args.oracle.now) g.row.F (g.O.Oracle.table c.args.oracle.now) c.args.drawing.now.limits told c.args.drawing.now c.turn.new.self c.args.tape.now.used c.turn.new.tape.used answer.Going
    (record { law = c.a_turn_continues_a_trace.ensures; sound = c.requires.can_turn.sound; within = c.requires.can_turn.within; turn = c.in-Going.ensures.turned (λ e. absurd (cc)); counted = c.in-Going.ensures.counted })
    (g.O.Oracle.raised c.args.oracle.now) (g.O.Oracle.raised c.turn.new.oracle) c.turn.ensures.raised header start now c.args.page.now.items p [] refl)

pub returns-in-Going-clause-goes_on : goal.returns-in-Going-clause-goes_on
returns-in-Going-clause-goes_on g c =
    can-turn-on c.args.founded.now (g.O.Oracle.x c.args.oracle.now) g.row.F (g.O.Oracle.table c.args.oracle.now) c.args.drawing.now.limits (bits_of_source c.args.tape.now.source (g.S.Shelf.content c.args.shelf.now)) (g.S.Shelf.content c.args.shelf.now) c.args.drawing.now c.turn.new.self c.args.tape.now c.turn.new.tape answer.Going
    (record { law = c.a_turn_continues_a_trace.ensures; sound = c.requires.can_turn.sound; within = c.requires.can_turn.within; turn = c.in-Going.ensures.turned (λ e. absurd (cc)); counted = c.in-Going.ensures.counted })
    c.requires.can_turn refl refl c.turn.ensures.drawing
    (subst (λ k. BelongsToShelf k c.turn.new.tape) c.turn.ensures.tape.content c.turn.ensures.tape.belongs)

-- an object was kept, and its lines are appended
pub returns-in-Ok-clause-under_way : goal.returns-in-Ok-clause-under_way
returns-in-Ok-clause-under_way g c =
    let (more, of, lines) = c.in-Ok.ensures.ok in
    let told = bits_of_source c.args.tape.now.source (g.S.Shelf.content c.args.shelf.now) in
    λ header start now p.
    subst (λ d. IsUnderWay c.args.founded.now (g.O.Oracle.x c.args.oracle.now) g.row.F (g.O.Oracle.table c.args.oracle.now) c.args.drawing.now.limits told d c.turn.new.tape.used (g.O.Oracle.raised c.turn.new.oracle) header start now c.append_entry.new.page.items) (sym c.take_back.ensures)
    (subst (IsUnderWay c.args.founded.now (g.O.Oracle.x c.args.oracle.now) g.row.F (g.O.Oracle.table c.args.oracle.now) c.args.drawing.now.limits told c.turn.new.self c.turn.new.tape.used (g.O.Oracle.raised c.turn.new.oracle) header start now) (sym lines)
    (under-way-on c.args.founded.now (g.O.Oracle.x c.args.oracle.now) g.row.F (g.O.Oracle.table c.args.oracle.now) c.args.drawing.now.limits told c.args.drawing.now c.turn.new.self c.args.tape.now.used c.turn.new.tape.used (answer.Kept c.in-Kept.entry)
    (record { law = c.a_turn_continues_a_trace.ensures; sound = c.requires.can_turn.sound; within = c.requires.can_turn.within; turn = c.in-Kept.ensures.turned (λ e. absurd (cc)); counted = c.in-Kept.ensures.counted })
    (g.O.Oracle.raised c.args.oracle.now) (g.O.Oracle.raised c.turn.new.oracle) c.turn.ensures.raised header start now c.args.page.now.items p more of))

pub returns-in-Ok-clause-goes_on : goal.returns-in-Ok-clause-goes_on
returns-in-Ok-clause-goes_on g c =
    subst (λ d. DrawingGoesOn c.args.founded.now (g.O.Oracle.x c.args.oracle.now) (g.O.Oracle.table c.args.oracle.now) (g.S.Shelf.content c.args.shelf.now) c.args.drawing.now.limits c.args.drawing.now d c.turn.new.tape None) (sym c.take_back.ensures)
    (can-turn-on c.args.founded.now (g.O.Oracle.x c.args.oracle.now) g.row.F (g.O.Oracle.table c.args.oracle.now) c.args.drawing.now.limits (bits_of_source c.args.tape.now.source (g.S.Shelf.content c.args.shelf.now)) (g.S.Shelf.content c.args.shelf.now) c.args.drawing.now c.turn.new.self c.args.tape.now c.turn.new.tape (answer.Kept c.in-Kept.entry)
    (record { law = c.a_turn_continues_a_trace.ensures; sound = c.requires.can_turn.sound; within = c.requires.can_turn.within; turn = c.in-Kept.ensures.turned (λ e. absurd (cc)); counted = c.in-Kept.ensures.counted })
    c.requires.can_turn refl refl c.turn.ensures.drawing
    (subst (λ k. BelongsToShelf k c.turn.new.tape) c.turn.ensures.tape.content c.turn.ensures.tape.belongs))

-- an object was kept, and there is no memory for its lines
pub returns-in-Err-clause-broken : goal.returns-in-Err-clause-broken
returns-in-Err-clause-broken g c = λ header start now p.
    broken-on c.args.founded.now (g.O.Oracle.x c.args.oracle.now) g.row.F (g.O.Oracle.table c.args.oracle.now) c.args.drawing.now.limits (bits_of_source c.args.tape.now.source (g.S.Shelf.content c.args.shelf.now)) c.args.drawing.now c.turn.new.self c.args.tape.now.used c.turn.new.tape.used (answer.Kept c.in-Kept.entry)
    (record { law = c.a_turn_continues_a_trace.ensures; sound = c.requires.can_turn.sound; within = c.requires.can_turn.within; turn = c.in-Kept.ensures.turned (λ e. absurd (cc)); counted = c.in-Kept.ensures.counted })
    (g.O.Oracle.raised c.args.oracle.now) (g.O.Oracle.raised c.turn.new.oracle) c.turn.ensures.raised header start now c.args.page.now.items p

-- the drawing has come to its end
pub returns-in-Finished-clause-under_way : goal.returns-in-Finished-clause-under_way
returns-in-Finished-clause-under_way g c = λ header start now p.
    let told = bits_of_source c.args.tape.now.source (g.S.Shelf.content c.args.shelf.now) in
    subst (IsUnderWay c.args.founded.now (g.O.Oracle.x c.args.oracle.now) g.row.F (g.O.Oracle.table c.args.oracle.now) c.args.drawing.now.limits told c.turn.new.self c.turn.new.tape.used (g.O.Oracle.raised c.turn.new.oracle) header start now) (append-nil c.args.page.now.items)
    (under-way-on c.args.founded.now (g.O.Oracle.x c.args.oracle.now) g.row.F (g.O.Oracle.table c.args.oracle.now) c.args.drawing.now.limits told c.args.drawing.now c.turn.new.self c.args.tape.now.used c.turn.new.tape.used (answer.Finished c.in-Finished.ending)
    (record { law = c.a_turn_continues_a_trace.ensures; sound = c.requires.can_turn.sound; within = c.requires.can_turn.within; turn = c.in-Finished.ensures.turned (λ e. absurd (cc)); counted = c.in-Finished.ensures.counted })
    (g.O.Oracle.raised c.args.oracle.now) (g.O.Oracle.raised c.turn.new.oracle) c.turn.ensures.raised header start now c.args.page.now.items p [] refl)

pub returns-in-Finished-clause-goes_on : goal.returns-in-Finished-clause-goes_on
returns-in-Finished-clause-goes_on g c =
    at-end c.args.founded.now (g.O.Oracle.x c.args.oracle.now) (g.S.Shelf.content c.args.shelf.now) (g.O.Oracle.table c.args.oracle.now) c.args.drawing.now.limits c.args.drawing.now c.turn.new.self c.args.tape.now c.in-Finished.ending c.requires.can_turn c.in-Finished.ensures.counted
    (λ e. (c.in-Finished.ensures.done c.requires.can_turn.goes_on).0 e) (λ e. ((c.in-Finished.ensures.turn_limit c.requires.can_turn.goes_on).0 e).1) (c.in-Finished.ensures.undecided c.requires.can_turn.goes_on)

-- a turn had no memory
pub returns-in-OutOfMemory-clause-broken : goal.returns-in-OutOfMemory-clause-broken
returns-in-OutOfMemory-clause-broken g c = λ header start now p.
    let still = c.in-OutOfMemory.ensures.no_memory refl in
    broken-still c.args.founded.now (g.O.Oracle.x c.args.oracle.now) g.row.F (g.O.Oracle.table c.args.oracle.now) c.args.drawing.now.limits (bits_of_source c.args.tape.now.source (g.S.Shelf.content c.args.shelf.now)) c.args.drawing.now c.turn.new.self c.args.tape.now.used c.turn.new.tape.used (g.O.Oracle.raised c.args.oracle.now) (g.O.Oracle.raised c.turn.new.oracle) header start now c.args.page.now.items still.0 (ap (λ (t : TapeState). t.used) still.1) (ap g.O.Oracle.raised still.2) p
