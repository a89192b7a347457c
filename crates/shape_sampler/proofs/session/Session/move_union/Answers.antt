-- A union whose option is decided by bits that are read ahead.
use Rattle.std.proofs.Common.{◌<◌, ◌∙◌, length, map, arith, refl, ap}
use Rattle.std.proofs.lemmas.List.{length-map}
use Rattle.class_system.specs.Views.{number}
use Rattle.choice_draw.specs.declared.drawn.Drawn.TheVariants as drawn
use Rattle.shape_sampler.specs.declared.stepped.Stepped.TheVariants.{Moved}
use Rattle.shape_sampler.specs.contracts.session.Session.{the_view}
use Rattle.shape_sampler.specs.State.{SessionState}
use Rattle.shape_sampler.proofs.Union.{settle}
use Rattle.shape_sampler.proofs.Moves.{union-moves}
use Rattle.shape_sampler.proofs.session.Session.move_union.Goals as goal

pub returns-clause-moved : goal.returns-clause-moved
returns-clause-moved g c = λ told.
    let now : SessionState = record { root = c.self.inside.root.0; whole = c.self.inside.whole; pending = c.put_drawn.new.pending.items; tokens = c.put_drawn.new.shape.items; cells = c.put_drawn.new.cells.items; room = c.self.inside.room; stopped = c.self.inside.stopped } in
    let stopped = ap (λ (st : SessionState). st.stopped) c.self.view_is ∙ c.requires.running in
    let settled = settle c.args.node (map number c.args.parts.now) (drawn.Value c.in-Some.taken.option c.in-Some.taken.cell) (the_view c.self.inside) c.args.self.now now Moved c.reserve_drawn.new.pending.items c.reserve_drawn.new.shape.items c.reserve_drawn.new.cells.items c.self.view_is refl refl refl c.reserve_drawn.ensures.pending c.reserve_drawn.ensures.tokens c.reserve_drawn.ensures.cells c.put_drawn.ensures.pending c.put_drawn.ensures.tokens c.put_drawn.ensures.cells stopped refl in
    let within : c.in-Some.taken.option < length (map number c.args.parts.now) = let below = c.in-Some.ensures.in_range in omega (arith, below, length-map c.args.parts.now number) in
    union-moves c.args.system.now (g.O.Oracle.x c.args.oracle.now) g.row.F (g.O.Oracle.table c.args.oracle.now) (g.O.Oracle.raised c.args.oracle.now) c.args.node (map number c.args.parts.now) c.in-Some.taken.option c.in-Some.taken.cell c.args.self.now now c.args.tape.now c.draw_ahead.new.tape c.requires.running c.requires.first c.requires.union c.known.ensures.sound c.requires.session settled c.in-Some.ensures.cell within c.in-Some.ensures.ideal c.in-Some.ensures.skips c.in-Some.ensures.raised c.in-Some.ensures.drawn
