use Rattle.std.proofs.Common.{◌≤◌, ◌+◌, List, ℕ, refl, subst}
use Rattle.bit_tape.specs.Tape.{bits_of_source}
use Rattle.bit_tape.proofs.Leaving.{counts-kept}
use Rattle.bz_model.specs.Oracle.{cost_between}
use Rattle.class_system.specs.Sound.{IsSound}
use Rattle.oracle_memo.specs.Levels.{cost_at}
use Rattle.size_window.specs.Drawing.{limits_of}
use Rattle.size_window.specs.RunByBits.{Limits}
use Rattle.well_founded.specs.EmptyObjects.{has_empty}
use Rattle.certificate.specs.Certificates.{closing_lines}
use Rattle.certificate.specs.Lines.{text_of}
use Rattle.sample_command.specs.UnderWay.{met, has_failed, IsUnderWay, IsAtEnd, IsBroken, told_closing}
use Rattle.sample_command.proofs.AtTheEnd.{starts, starts-under-way, no-drawing, closing-is, ends-drawn, ends-stopped}
use Rattle.sample_command.proofs.Turns.{costs-from-none}
use Rattle.sample_command.proofs.drawing.drawn.Goals as goal

-- there is no memory for the drawing
pub returns-in_default-clause-ends : goal.returns-in_default-clause-ends
returns-in_default-clause-ends g c = no-drawing cost_at c.args.founded.now (g.O.Oracle.x c.args.oracle.now) g.row.F (g.O.Oracle.table c.args.oracle.now) (limits_of c.args.limits) (met c.args.tape.source (g.S.Shelf.content c.args.shelf.now) (g.S.Shelf.faults c.args.shelf.now) (g.S.Shelf.faults c.args.shelf.now)) c.args.header.items _ _ _ _

-- no bit is used, and no object is kept
pub draw_to_the_end-requires-clause-can_turn : goal.draw_to_the_end-requires-clause-can_turn
draw_to_the_end-requires-clause-can_turn g c = starts c.args.founded.now (g.O.Oracle.x c.args.oracle.now) (subst IsSound c.system.ensures.system c.known.ensures.sound) (g.S.Shelf.content c.args.shelf.now) c.in-Ok.drawing.limits c.in-Ok.drawing c.args.tape c.requires.unused c.in-Ok.ensures.start refl (c.in-Ok.ensures.belongs (g.O.Oracle.x c.args.oracle.now)) c.requires.ahead

-- the drawing is by the oracle's bounds and over the tape that is given
pub returns-in-Ok-draw_to_the_end-clause-ends : goal.returns-in-Ok-draw_to_the_end-clause-ends
returns-in-Ok-draw_to_the_end-clause-ends g c =
    let s = c.args.founded.now in
    let x = g.O.Oracle.x c.args.oracle.now in
    let table = g.O.Oracle.table c.args.oracle.now in
    let lim = limits_of c.args.limits in
    let header = c.args.header.items in
    let d = c.in-Ok.drawing in
    let ending = c.in-Ok-draw_to_the_end.ending in
    let now = c.draw_to_the_end.new.drawing in
    let used = c.draw_to_the_end.new.tape.used in
    let raised = g.O.Oracle.raised c.draw_to_the_end.new.oracle in
    let told = bits_of_source c.args.tape.source (g.S.Shelf.content c.args.shelf.now) in
    let tape = met c.args.tape.source (g.S.Shelf.content c.args.shelf.now) (g.S.Shelf.faults c.args.shelf.now) (g.S.Shelf.faults c.draw_to_the_end.new.shelf) in
    let sound = subst IsSound c.system.ensures.system c.known.ensures.sound in
    let chosen = c.a_table_has_its_chooser.ensures.chooses s g.row.F table (has_empty s) (λ part. c.a_table_has_its_chooser.ensures.computed s part sound) in
    let under = starts-under-way c.a_trace_starts_with_its_drawing.ensures s x g.row.F table d.limits told d c.args.tape.used (g.O.Oracle.raised c.args.oracle.now) header header (g.K.Sink.written c.args.out.now) c.requires.unused c.in-Ok.ensures.start refl c.in-Ok.ensures.atoms c.requires.none_raised refl in
    let over = subst (λ (l : Limits). IsUnderWay s x g.row.F table l told now used raised header (g.K.Sink.written c.args.out.now) (g.K.Sink.written c.draw_to_the_end.new.out) c.draw_to_the_end.new.page.items) c.in-Ok.ensures.limits (c.in-Ok-draw_to_the_end.ensures.under_way header (g.K.Sink.written c.args.out.now) under) in
    let end = subst (λ (l : Limits). IsAtEnd table l now ending) c.in-Ok.ensures.limits c.in-Ok-draw_to_the_end.ensures.ended in
    let closing = text_of (closing_lines (told_closing ending c.counts.result.kept c.counts.result.thrown c.used.result c.counts.result.turns)) in
    let few = costs-from-none (g.O.Oracle.raised c.args.oracle.now) raised c.args.steps.now c.draw_to_the_end.new.steps c.requires.none_raised c.draw_to_the_end.ensures.levels (subst (λ (k : List ℕ). c.draw_to_the_end.new.steps ≤ c.args.steps.now + cost_between k (g.O.Oracle.raised c.args.oracle.now) raised) c.requires.costs c.draw_to_the_end.ensures.oracle.ticks) in
    ends-drawn cost_at s x g.row.F table lim tape chosen now used raised header (g.K.Sink.written c.args.out.now) (g.K.Sink.written c.draw_to_the_end.new.out) c.draw_to_the_end.new.page.items ending over end (record { few = c.a_course_uses_few_bits.ensures; files = c.the_tape_ends_where_its_bits_are_used.ensures.files; seeds = c.the_tape_ends_where_its_bits_are_used.ensures.seeds }) sound c.requires.limits c.draw_to_the_end.ensures.tape.faults (g.K.Sink.faults c.args.out.now) (g.K.Sink.faults c.draw_to_the_end.new.out) c.draw_to_the_end.ensures.writes c.args.steps.now c.draw_to_the_end.new.steps few closing
    (closing-is s x g.row.F table lim tape chosen now used over.most over.so_far ending c.counts.result.kept c.counts.result.thrown c.used.result c.counts.result.turns end c.counts.ensures.kept c.counts.ensures.thrown c.used.ensures c.counts.ensures.turns)
    (g.K.Sink.written c.finished.new.out) (g.K.Sink.faults c.finished.new.out) c.finished.result c.finished.ensures.ends

pub returns-in-Ok-draw_to_the_end-clause-counts : goal.returns-in-Ok-draw_to_the_end-clause-counts
returns-in-Ok-draw_to_the_end-clause-counts g c = counts-kept (has_failed c.draw_to_the_end.new.drawing.ending) c.args.tape.source (g.S.Shelf.faults c.args.shelf.now) (g.S.Shelf.faults c.draw_to_the_end.new.shelf) c.draw_to_the_end.ensures.tape.faults

-- it was broken off
pub returns-clause-ends : goal.returns-clause-ends
returns-clause-ends g c =
    let s = c.args.founded.now in
    let x = g.O.Oracle.x c.args.oracle.now in
    let table = g.O.Oracle.table c.args.oracle.now in
    let lim = limits_of c.args.limits in
    let header = c.args.header.items in
    let d = c.in-Ok.drawing in
    let now = c.draw_to_the_end.new.drawing in
    let used = c.draw_to_the_end.new.tape.used in
    let raised = g.O.Oracle.raised c.draw_to_the_end.new.oracle in
    let told = bits_of_source c.args.tape.source (g.S.Shelf.content c.args.shelf.now) in
    let tape = met c.args.tape.source (g.S.Shelf.content c.args.shelf.now) (g.S.Shelf.faults c.args.shelf.now) (g.S.Shelf.faults c.draw_to_the_end.new.shelf) in
    let sound = subst IsSound c.system.ensures.system c.known.ensures.sound in
    let chosen = c.a_table_has_its_chooser.ensures.chooses s g.row.F table (has_empty s) (λ part. c.a_table_has_its_chooser.ensures.computed s part sound) in
    let under = starts-under-way c.a_trace_starts_with_its_drawing.ensures s x g.row.F table d.limits told d c.args.tape.used (g.O.Oracle.raised c.args.oracle.now) header header (g.K.Sink.written c.args.out.now) c.requires.unused c.in-Ok.ensures.start refl c.in-Ok.ensures.atoms c.requires.none_raised refl in
    let broken = subst (λ (l : Limits). IsBroken s x g.row.F table l told now used raised header (g.K.Sink.written c.args.out.now) (g.K.Sink.written c.draw_to_the_end.new.out)) c.in-Ok.ensures.limits (c.in-Err.ensures.broken header (g.K.Sink.written c.args.out.now) under) in
    let few = costs-from-none (g.O.Oracle.raised c.args.oracle.now) raised c.args.steps.now c.draw_to_the_end.new.steps c.requires.none_raised c.draw_to_the_end.ensures.levels (subst (λ (k : List ℕ). c.draw_to_the_end.new.steps ≤ c.args.steps.now + cost_between k (g.O.Oracle.raised c.args.oracle.now) raised) c.requires.costs c.draw_to_the_end.ensures.oracle.ticks) in
    ends-stopped cost_at s x g.row.F table lim tape chosen now used raised header (g.K.Sink.written c.args.out.now) (g.K.Sink.written c.draw_to_the_end.new.out) (g.K.Sink.faults c.args.out.now) (g.K.Sink.faults c.draw_to_the_end.new.out) c.args.steps.now c.draw_to_the_end.new.steps broken c.draw_to_the_end.ensures.tape.faults few c.in-Err.stop c.status.result c.status.ensures c.in-Err.ensures.cause

pub returns-clause-counts : goal.returns-clause-counts
returns-clause-counts g c = counts-kept (has_failed c.draw_to_the_end.new.drawing.ending) c.args.tape.source (g.S.Shelf.faults c.args.shelf.now) (g.S.Shelf.faults c.draw_to_the_end.new.shelf) c.draw_to_the_end.ensures.tape.faults
