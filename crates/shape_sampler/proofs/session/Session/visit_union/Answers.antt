-- A union's visit.
use Rattle.std.proofs.Common.{◌≡◌, ◌<◌, length, map, refl, ap, subst}
use Rattle.class_system.specs.Views.{number}
use Rattle.bz_model.specs.Spec.{node_at}
use Rattle.choice_draw.specs.Decision.{union_parts}
use Rattle.choice_draw.specs.Answer.{OnValue}
use Rattle.bit_tape.specs.Tape.{LeavesTape, bits_of_source}
use Rattle.shape_sampler.specs.State.{SessionState}
use Rattle.shape_sampler.specs.contracts.session.Session.{the_view}
use Rattle.shape_sampler.proofs.Union.{settle, answer-leaves, answer-draws, answer-by-bits, answer-session, cell-of, draw-few, draw-fault}
use Rattle.shape_sampler.proofs.Plain.{none-given}
use Rattle.shape_sampler.proofs.session.Session.visit_union.Goals as goal

pub returns-clause-leaves : goal.returns-clause-leaves
returns-clause-leaves g c =
    let now : SessionState = record { root = c.self.inside.root.0; whole = c.self.inside.whole; pending = c.put_drawn.new.pending.items; tokens = c.put_drawn.new.shape.items; cells = c.put_drawn.new.cells.items; room = c.self.inside.room; stopped = c.stop_of-self-inside.result } in
    let settled = settle c.args.node (map number c.args.parts.now) c.draw_union_kept-drawn.result (the_view c.self.inside) c.args.self.now now c.answer_to-answer.result c.reserve_drawn.new.pending.items c.reserve_drawn.new.shape.items c.reserve_drawn.new.cells.items c.self.view_is refl refl refl c.reserve_drawn.ensures.pending c.reserve_drawn.ensures.tokens c.reserve_drawn.ensures.cells c.put_drawn.ensures.pending c.put_drawn.ensures.tokens c.put_drawn.ensures.cells c.stop_of-self-inside.ensures c.answer_to-answer.ensures in
    answer-leaves c.args.node (map number c.args.parts.now) c.args.self.now now c.requires.first c.draw_union_kept-drawn.result c.answer_to-answer.result c.answer_to-answer.ensures settled

pub returns-clause-draws : goal.returns-clause-draws
returns-clause-draws g c =
    let now : SessionState = record { root = c.self.inside.root.0; whole = c.self.inside.whole; pending = c.put_drawn.new.pending.items; tokens = c.put_drawn.new.shape.items; cells = c.put_drawn.new.cells.items; room = c.self.inside.room; stopped = c.stop_of-self-inside.result } in
    let settled = settle c.args.node (map number c.args.parts.now) c.draw_union_kept-drawn.result (the_view c.self.inside) c.args.self.now now c.answer_to-answer.result c.reserve_drawn.new.pending.items c.reserve_drawn.new.shape.items c.reserve_drawn.new.cells.items c.self.view_is refl refl refl c.reserve_drawn.ensures.pending c.reserve_drawn.ensures.tokens c.reserve_drawn.ensures.cells c.put_drawn.ensures.pending c.put_drawn.ensures.tokens c.put_drawn.ensures.cells c.stop_of-self-inside.ensures c.answer_to-answer.ensures in
    answer-draws c.args.node (map number c.args.parts.now) c.args.self.now now c.requires.first c.draw_union_kept-drawn.result c.answer_to-answer.result c.answer_to-answer.ensures settled c.args.tape.now.used c.draw_union_kept-drawn.new.tape.used c.draw_union_kept-drawn.ensures.drawn.uses c.draw_union_kept-drawn.ensures.drawn.cell

pub returns-clause-exact : goal.returns-clause-exact
returns-clause-exact g c =
    let now : SessionState = record { root = c.self.inside.root.0; whole = c.self.inside.whole; pending = c.put_drawn.new.pending.items; tokens = c.put_drawn.new.shape.items; cells = c.put_drawn.new.cells.items; room = c.self.inside.room; stopped = c.stop_of-self-inside.result } in
    let settled = settle c.args.node (map number c.args.parts.now) c.draw_union_kept-drawn.result (the_view c.self.inside) c.args.self.now now c.answer_to-answer.result c.reserve_drawn.new.pending.items c.reserve_drawn.new.shape.items c.reserve_drawn.new.cells.items c.self.view_is refl refl refl c.reserve_drawn.ensures.pending c.reserve_drawn.ensures.tokens c.reserve_drawn.ensures.cells c.put_drawn.ensures.pending c.put_drawn.ensures.tokens c.put_drawn.ensures.cells c.stop_of-self-inside.ensures c.answer_to-answer.ensures in
    answer-by-bits c.args.node (map number c.args.parts.now) c.args.self.now now c.requires.first c.draw_union_kept-drawn.result c.answer_to-answer.result c.answer_to-answer.ensures settled c.args.system.now c.requires.union g.row.F (g.O.Oracle.table c.args.oracle.now) (bits_of_source c.args.tape.now.source (g.S.Shelf.content c.args.shelf.now)) c.args.tape.now.used c.draw_union_kept-drawn.new.tape.used c.draw_union_kept-drawn.ensures.drawn

pub returns-clause-session : goal.returns-clause-session
returns-clause-session g c = λ b.
    let now : SessionState = record { root = c.self.inside.root.0; whole = c.self.inside.whole; pending = c.put_drawn.new.pending.items; tokens = c.put_drawn.new.shape.items; cells = c.put_drawn.new.cells.items; room = c.self.inside.room; stopped = c.stop_of-self-inside.result } in
    let settled = settle c.args.node (map number c.args.parts.now) c.draw_union_kept-drawn.result (the_view c.self.inside) c.args.self.now now c.answer_to-answer.result c.reserve_drawn.new.pending.items c.reserve_drawn.new.shape.items c.reserve_drawn.new.cells.items c.self.view_is refl refl refl c.reserve_drawn.ensures.pending c.reserve_drawn.ensures.tokens c.reserve_drawn.ensures.cells c.put_drawn.ensures.pending c.put_drawn.ensures.tokens c.put_drawn.ensures.cells c.stop_of-self-inside.ensures c.answer_to-answer.ensures in
    let parts : union_parts (node_at c.args.system.now c.args.node.0) ≡ map number c.args.parts.now = ap union_parts c.requires.union in
    answer-session c.args.node (map number c.args.parts.now) c.args.self.now now c.requires.first c.draw_union_kept-drawn.result c.answer_to-answer.result c.answer_to-answer.ensures settled c.args.system.now c.requires.union (g.O.Oracle.x c.args.oracle.now) c.known.ensures.sound (cell-of c.draw_union_kept-drawn.result c.draw_union_kept-drawn.new.tape.used c.draw_union_kept-drawn.ensures.drawn.cell) c.draw_union_kept-drawn.ensures.ideal (subst (λ ps. OnValue c.draw_union_kept-drawn.result (λ i cell. i < length ps)) parts c.draw_union_kept-drawn.ensures.in_range) b

pub put_drawn-requires-clause-cell : goal.put_drawn-requires-clause-cell
put_drawn-requires-clause-cell g c = cell-of c.draw_union_kept-drawn.result c.draw_union_kept-drawn.new.tape.used c.draw_union_kept-drawn.ensures.drawn.cell

pub returns-clause-used : goal.returns-clause-used
returns-clause-used g c = draw-few c.draw_union_kept-drawn.result c.args.tape.now.used c.draw_union_kept-drawn.new.tape.used c.draw_union_kept-drawn.ensures.drawn.cell c.draw_union_kept-drawn.ensures.drawn.uses

pub returns-clause-tape : goal.returns-clause-tape
returns-clause-tape g c = subst (λ b. LeavesTape g.S.Shelf.content g.S.Shelf.faults b c.args.shelf.now c.draw_union_kept-drawn.new.shelf c.args.tape.now c.draw_union_kept-drawn.new.tape) (draw-fault c.args.node c.draw_union_kept-drawn.result c.answer_to-answer.result c.args.self.now.stopped c.requires.running c.answer_to-answer.ensures) c.draw_union_kept-drawn.ensures.tape

pub returns-then-is_err-clause-exact : goal.returns-then-is_err-clause-exact
returns-then-is_err-clause-exact g c = none-given c.args.system.now g.row.F (g.O.Oracle.table c.args.oracle.now) (bits_of_source c.args.tape.now.source (g.S.Shelf.content c.args.shelf.now)) c.args.self.now _ c.args.tape.now.used
