-- A sequence, set or cycle whose number of parts is decided by bits that are read ahead.
use Rattle.std.proofs.Common.{◌≡◌, ◌∙◌, refl, ap, subst, length, ◌<◌}
use Rattle.class_system.specs.Sound.{IsSound}
use Rattle.count_draw.specs.declared.drawn_count.CountDrawn.TheVariants as counted
use Rattle.count_draw.proofs.CountedNodes.{part_inside}
use Rattle.shape_sampler.specs.declared.stepped.Stepped.TheVariants.{Moved}
use Rattle.shape_sampler.specs.contracts.session.Session.{the_view}
use Rattle.shape_sampler.specs.State.{SessionState, count_answer, PutsParts}
use Rattle.shape_sampler.proofs.CountVisits.{IsRoomFor, count-settle}
use Rattle.shape_sampler.proofs.CountMoves.{counted-moved, counted-moves}
use Rattle.shape_sampler.proofs.session.Session.move_counted.Goals as goal

pub room_for-room-requires-clause-in_range : goal.room_for-room-requires-clause-in_range
room_for-room-requires-clause-in_range g c =
    let sound : IsSound c.args.founded.now = rw c.system-system.ensures.system at c.known-2.ensures.sound in
    part_inside c.args.founded.now c.args.node.0 c.args.part.0 c.requires.counted.kind sound c.requires.counted.here

pub returns-clause-moved : goal.returns-clause-moved
returns-clause-moved g c = λ told.
    let now : SessionState = record { root = c.self.inside.root.0; whole = c.self.inside.whole; pending = c.put_counted.new.pending.items; tokens = c.put_counted.new.shape.items; cells = c.put_counted.new.cells.items; room = c.self.inside.room; stopped = c.self.inside.stopped } in
    let stopped = ap (λ (st : SessionState). st.stopped) c.self.view_is ∙ c.requires.running in
    let drawn = counted.Count c.in-Some.taken.count c.in-Some.taken.cell in
    let many : 1 < length c.args.self.now.pending = subst (λ (st : SessionState). 1 < length st.pending) c.self.view_is (c.has_more.ensures.0 (cc)) in
    let same : c.reserve_drawn.new.pending.items ≡ c.args.self.now.pending = c.reserve_drawn.ensures.pending ∙ ap (λ (st : SessionState). st.pending) c.self.view_is in
    let puts = subst (λ es. PutsParts c.args.part.0 drawn es c.put_counted.new.pending.items) same c.put_counted.ensures.pending in
    let answered : Moved ≡ count_answer c.args.node drawn c.put_counted.new.pending.items = counted-moved c.args.node c.args.part.0 c.in-Some.taken.count c.in-Some.taken.cell c.args.self.now.pending c.put_counted.new.pending.items c.requires.first many puts in
    let settled = count-settle c.args.node c.args.part.0 drawn (the_view c.self.inside) c.args.self.now now Moved c.reserve_drawn.new.pending.items c.reserve_drawn.new.shape.items c.reserve_drawn.new.cells.items c.self.view_is refl refl refl c.reserve_drawn.ensures.pending c.reserve_drawn.ensures.tokens c.reserve_drawn.ensures.cells c.put_counted.ensures.pending c.put_counted.ensures.tokens c.put_counted.ensures.cells stopped answered in
    let room_at : IsRoomFor c.args.founded.now c.args.part.0 c.args.self.now.room c.room_for-room.result = record { free = c.room_for-room.ensures.free; taking = λ none. c.room_for-room.ensures.taking none ∙ ap (λ (st : SessionState). st.room) c.self.view_is } in
    let sound : IsSound c.args.founded.now = rw c.system-system.ensures.system at c.known-2.ensures.sound in
    counted-moves c.args.founded.now (g.O.Oracle.x c.args.oracle.now) g.row.F (g.O.Oracle.table c.args.oracle.now) (g.O.Oracle.raised c.args.oracle.now) c.args.node c.args.part.0 c.in-Some.taken.count c.in-Some.taken.cell c.args.self.now now c.args.tape.now c.draw_count_ahead-taken.new.tape c.requires.running c.requires.first answered settled c.requires.counted c.room_for-room.result room_at sound c.known.ensures.well_founded (c.known.ensures.decided c.args.part.0) c.requires.session c.in-Some.ensures.cell (rw c.system-system.ensures.system at c.in-Some.ensures.ideal) (rw c.system-system.ensures.system at c.in-Some.ensures.in_range) c.in-Some.ensures.skips c.in-Some.ensures.raised (rw c.system-system.ensures.system at c.in-Some.ensures.drawn)
