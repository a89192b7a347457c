-- The visit of a sequence, set or cycle.
use Rattle.std.proofs.Common.{refl, ◌∙◌, ap, subst}
use Rattle.class_system.specs.Sound.{IsSound}
use Rattle.count_draw.proofs.CountedNodes.{part_inside}
use Rattle.bit_tape.specs.Tape.{LeavesTape, bits_of_source}
use Rattle.shape_sampler.specs.State.{SessionState}
use Rattle.shape_sampler.specs.contracts.session.Session.{the_view}
use Rattle.shape_sampler.proofs.CountVisits.{IsRoomFor, count-settle, counted-draws, counted-by-bits, counted-session, count-cell, over-cell, count-few, count-fault}
use Rattle.shape_sampler.proofs.Plain.{none-given}
use Rattle.shape_sampler.proofs.session.Session.visit_counted.Goals as goal

pub room_for-room-requires-clause-in_range : goal.room_for-room-requires-clause-in_range
room_for-room-requires-clause-in_range g c =
    let sound : IsSound c.args.founded.now = rw c.system-system.ensures.system at c.known-2.ensures.sound in
    part_inside c.args.founded.now c.args.node.0 c.args.part.0 c.requires.counted.kind sound c.requires.counted.here

pub returns-clause-draws : goal.returns-clause-draws
returns-clause-draws g c =
    let now : SessionState = record { root = c.self.inside.root.0; whole = c.self.inside.whole; pending = c.put_counted.new.pending.items; tokens = c.put_counted.new.shape.items; cells = c.put_counted.new.cells.items; room = c.self.inside.room; stopped = c.stop_of-self-inside.result } in
    let settled = count-settle c.args.node c.args.part.0 c.draw_count_kept-drawn.result (the_view c.self.inside) c.args.self.now now c.answer_to_count-told.result c.reserve_drawn.new.pending.items c.reserve_drawn.new.shape.items c.reserve_drawn.new.cells.items c.self.view_is refl refl refl c.reserve_drawn.ensures.pending c.reserve_drawn.ensures.tokens c.reserve_drawn.ensures.cells c.put_counted.ensures.pending c.put_counted.ensures.tokens c.put_counted.ensures.cells c.stop_of-self-inside.ensures c.answer_to_count-told.ensures in
    counted-draws c.args.node c.args.part.0 c.args.self.now now c.requires.first c.draw_count_kept-drawn.result c.answer_to_count-told.result c.answer_to_count-told.ensures settled c.args.tape.now.used c.draw_count_kept-drawn.new.tape.used c.draw_count_kept-drawn.ensures.drawn.uses c.draw_count_kept-drawn.ensures.drawn.cell

pub returns-clause-exact : goal.returns-clause-exact
returns-clause-exact g c =
    let now : SessionState = record { root = c.self.inside.root.0; whole = c.self.inside.whole; pending = c.put_counted.new.pending.items; tokens = c.put_counted.new.shape.items; cells = c.put_counted.new.cells.items; room = c.self.inside.room; stopped = c.stop_of-self-inside.result } in
    let settled = count-settle c.args.node c.args.part.0 c.draw_count_kept-drawn.result (the_view c.self.inside) c.args.self.now now c.answer_to_count-told.result c.reserve_drawn.new.pending.items c.reserve_drawn.new.shape.items c.reserve_drawn.new.cells.items c.self.view_is refl refl refl c.reserve_drawn.ensures.pending c.reserve_drawn.ensures.tokens c.reserve_drawn.ensures.cells c.put_counted.ensures.pending c.put_counted.ensures.tokens c.put_counted.ensures.cells c.stop_of-self-inside.ensures c.answer_to_count-told.ensures in
    let room_at : IsRoomFor c.args.founded.now c.args.part.0 c.args.self.now.room c.room_for-room.result = record { free = c.room_for-room.ensures.free; taking = λ none. c.room_for-room.ensures.taking none ∙ ap (λ (st : SessionState). st.room) c.self.view_is } in
    counted-by-bits c.args.node c.args.part.0 c.args.self.now now c.requires.first c.draw_count_kept-drawn.result c.answer_to_count-told.result c.answer_to_count-told.ensures settled c.args.founded.now c.requires.counted c.room_for-room.result room_at g.row.F (g.O.Oracle.table c.args.oracle.now) (bits_of_source c.args.tape.now.source (g.S.Shelf.content c.args.shelf.now)) c.args.tape.now.used c.draw_count_kept-drawn.new.tape.used (rw c.system-system.ensures.system at c.draw_count_kept-drawn.ensures.drawn)

pub returns-clause-session : goal.returns-clause-session
returns-clause-session g c = λ b.
    let now : SessionState = record { root = c.self.inside.root.0; whole = c.self.inside.whole; pending = c.put_counted.new.pending.items; tokens = c.put_counted.new.shape.items; cells = c.put_counted.new.cells.items; room = c.self.inside.room; stopped = c.stop_of-self-inside.result } in
    let settled = count-settle c.args.node c.args.part.0 c.draw_count_kept-drawn.result (the_view c.self.inside) c.args.self.now now c.answer_to_count-told.result c.reserve_drawn.new.pending.items c.reserve_drawn.new.shape.items c.reserve_drawn.new.cells.items c.self.view_is refl refl refl c.reserve_drawn.ensures.pending c.reserve_drawn.ensures.tokens c.reserve_drawn.ensures.cells c.put_counted.ensures.pending c.put_counted.ensures.tokens c.put_counted.ensures.cells c.stop_of-self-inside.ensures c.answer_to_count-told.ensures in
    let room_at : IsRoomFor c.args.founded.now c.args.part.0 c.args.self.now.room c.room_for-room.result = record { free = c.room_for-room.ensures.free; taking = λ none. c.room_for-room.ensures.taking none ∙ ap (λ (st : SessionState). st.room) c.self.view_is } in
    let sound : IsSound c.args.founded.now = rw c.system-system.ensures.system at c.known-2.ensures.sound in
    counted-session c.args.node c.args.part.0 c.args.self.now now c.requires.first c.draw_count_kept-drawn.result c.answer_to_count-told.result c.answer_to_count-told.ensures settled c.args.founded.now c.requires.counted c.room_for-room.result room_at (g.O.Oracle.x c.args.oracle.now) sound c.known.ensures.well_founded (c.known.ensures.decided c.args.part.0) (count-cell c.draw_count_kept-drawn.result c.draw_count_kept-drawn.new.tape.used c.draw_count_kept-drawn.ensures.drawn.cell) (over-cell c.draw_count_kept-drawn.result c.draw_count_kept-drawn.new.tape.used c.draw_count_kept-drawn.ensures.drawn.cell) (rw c.system-system.ensures.system at c.draw_count_kept-drawn.ensures.ideal) (rw c.system-system.ensures.system at c.draw_count_kept-drawn.ensures.over) (rw c.system-system.ensures.system at c.draw_count_kept-drawn.ensures.in_range) b

pub put_counted-requires-clause-cell : goal.put_counted-requires-clause-cell
put_counted-requires-clause-cell g c = count-cell c.draw_count_kept-drawn.result c.draw_count_kept-drawn.new.tape.used c.draw_count_kept-drawn.ensures.drawn.cell

pub put_counted-requires-clause-over : goal.put_counted-requires-clause-over
put_counted-requires-clause-over g c = over-cell c.draw_count_kept-drawn.result c.draw_count_kept-drawn.new.tape.used c.draw_count_kept-drawn.ensures.drawn.cell

pub returns-clause-used : goal.returns-clause-used
returns-clause-used g c = count-few c.draw_count_kept-drawn.result c.args.tape.now.used c.draw_count_kept-drawn.new.tape.used c.draw_count_kept-drawn.ensures.drawn.cell c.draw_count_kept-drawn.ensures.drawn.uses

pub returns-clause-tape : goal.returns-clause-tape
returns-clause-tape g c = subst (λ b. LeavesTape g.S.Shelf.content g.S.Shelf.faults b c.args.shelf.now c.draw_count_kept-drawn.new.shelf c.args.tape.now c.draw_count_kept-drawn.new.tape) (count-fault c.args.node c.put_counted.new.pending.items c.draw_count_kept-drawn.result c.answer_to_count-told.result c.args.self.now.stopped c.requires.running c.answer_to_count-told.ensures) c.draw_count_kept-drawn.ensures.tape

pub returns-then-is_err-clause-exact : goal.returns-then-is_err-clause-exact
returns-then-is_err-clause-exact g c = none-given c.args.founded.now g.row.F (g.O.Oracle.table c.args.oracle.now) (bits_of_source c.args.tape.now.source (g.S.Shelf.content c.args.shelf.now)) c.args.self.now _ c.args.tape.now.used
