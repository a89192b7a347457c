use Rattle.std.proofs.Common.{refl, ap, subst}
use Rattle.bz_model.specs.Fraction.{ratio}
use Rattle.bit_tape.specs.Tape.{TapeState, CountsFault}
use Rattle.class_system.specs.Sound.{IsSound}
use Rattle.oracle_memo.specs.Levels.{level_bounds, level_bounds_from}
use Rattle.oracle_memo.specs.Memos.{Memory}
use Rattle.rounded_map.specs.RoundedMap.{setting}
use Rattle.size_window.specs.RunByBits.{Limits}
use Rattle.well_founded.specs.EmptyObjects.{has_empty}
use Rattle.sample_command.specs.UnderWay.{IsAtEnd, has_failed}
use Rattle.sample_command.proofs.AtTheEnd.{starts}
use Rattle.sample_command.proofs.Turns.{costs-from-none}
use Rattle.bulk_command.specs.BulkCommand.{bulk_limits}
use Rattle.bulk_command.specs.NoFiles.{empty_files, no_faults}
use Rattle.bulk_command.specs.Running.{IsRunning}
use Rattle.bulk_command.proofs.RunEnds.{bulk-limits, starts-running, no-run, run-broken, run-ends}
use Rattle.bulk_command.proofs.running.drawn.Goals as goal

-- there is no memory for the levels
pub returns-in_default-clause-ends : goal.returns-in_default-clause-ends
returns-in_default-clause-ends g c = no-run c.args.n (setting c.args.founded.now c.args.x.num c.args.x.den g.row.F) c.args.base _ _ _ _

-- nor for the drawing
pub returns-in_default-new-clause-ends : goal.returns-in_default-new-clause-ends
returns-in_default-new-clause-ends g c = no-run c.args.n (setting c.args.founded.now c.args.x.num c.args.x.den g.row.F) c.args.base _ _ _ _

-- no bit is used, and no object is kept
pub draw_to_the_end-requires-clause-can_turn : goal.draw_to_the_end-requires-clause-can_turn
draw_to_the_end-requires-clause-can_turn g c =
    let x = ratio c.in-Ok.memo.num c.in-Ok.memo.den in
    starts c.args.founded.now x (subst IsSound c.system.ensures.system c.known.ensures.sound) empty_files c.in-Ok-new.drawing.limits c.in-Ok-new.drawing c.seeded-tape.result (ap (λ (t : TapeState). t.used) c.seeded-tape.ensures.new) c.in-Ok-new.ensures.start refl (c.in-Ok-new.ensures.belongs x) (c.seeded-tape.ensures.belongs empty_files)

-- the run is over the levels of the base and the bits of the seed, and has come to its end
pub returns-in-Ok-draw_to_the_end-clause-ends : goal.returns-in-Ok-draw_to_the_end-clause-ends
returns-in-Ok-draw_to_the_end-clause-ends g c =
    let t = setting c.args.founded.now c.args.x.num c.args.x.den g.row.F in
    let memo = c.in-Ok.memo in
    let d = c.in-Ok-new.drawing in
    let tape = c.seeded-tape.result in
    let ending = c.in-Ok-draw_to_the_end.ending in
    let now = c.draw_to_the_end.new.drawing in
    let used = c.draw_to_the_end.new.tape.used in
    let raised = c.draw_to_the_end.new.oracle.raised in
    let unraised = ap (λ (m : Memory). m.raised) c.in-Ok.ensures.made in
    let sound = subst IsSound c.system.ensures.system c.known.ensures.sound in
    let chosen = c.a_table_has_its_chooser.ensures.chooses t.spec g.row.F (level_bounds t c.args.base) (has_empty t.spec) (λ part. c.a_table_has_its_chooser.ensures.computed t.spec part sound) in
    let begun = starts-running c.a_trace_starts_with_its_drawing.ensures c.args.founded.now (ratio memo.num memo.den) g.row.F (level_bounds_from (setting memo.spec memo.num memo.den g.row.F) memo.start memo.base) d.limits tape.source d tape.used memo.raised (ap (λ (z : TapeState). z.used) c.seeded-tape.ensures.new) c.in-Ok-new.ensures.start refl c.in-Ok-new.ensures.atoms unraised in
    let over_base = subst (λ (m : Memory). IsRunning c.args.founded.now (ratio m.num m.den) g.row.F (level_bounds_from (setting m.spec m.num m.den g.row.F) m.start m.base) d.limits tape.source now used raised) c.in-Ok.ensures.made (c.draw_to_the_end.ensures.under_way begun) in
    let over_limits = subst (λ (l : Limits). IsRunning c.args.founded.now (ratio c.args.x.num c.args.x.den) g.row.F (level_bounds t c.args.base) l tape.source now used raised) c.in-Ok-new.ensures.limits over_base in
    let over = subst (λ (z : TapeState). IsRunning c.args.founded.now (ratio c.args.x.num c.args.x.den) g.row.F (level_bounds t c.args.base) (bulk_limits c.args.n) z.source now used raised) c.seeded-tape.ensures.new over_limits in
    let end_base = subst (λ (m : Memory). IsAtEnd (level_bounds_from (setting m.spec m.num m.den g.row.F) m.start m.base) d.limits now ending) c.in-Ok.ensures.made c.in-Ok-draw_to_the_end.ensures.ended in
    let end = subst (λ (l : Limits). IsAtEnd (level_bounds t c.args.base) l now ending) c.in-Ok-new.ensures.limits end_base in
    let reads = subst (λ (z : TapeState). CountsFault (has_failed now.ending) z.source no_faults no_faults) c.seeded-tape.ensures.new c.draw_to_the_end.ensures.reads in
    let few = costs-from-none memo.raised raised c.args.steps.now c.draw_to_the_end.new.steps unraised c.draw_to_the_end.ensures.levels c.draw_to_the_end.ensures.oracle.ticks in
    let limits_are = bulk-limits c.args.n c.requires.least c.requires.greatest in
    run-ends c.args.n t c.args.base chosen now used raised c.args.steps.now c.draw_to_the_end.new.steps few over reads ending end (record { few = c.a_course_uses_few_bits.ensures; files = c.the_tape_ends_where_its_bits_are_used.ensures.files; seeds = c.the_tape_ends_where_its_bits_are_used.ensures.seeds }) sound limits_are c.counts.result.kept c.counts.result.thrown c.counts.result.atoms c.used.result c.counts.result.turns c.counts.ensures.kept c.counts.ensures.thrown c.counts.ensures.atoms c.used.ensures c.counts.ensures.turns _ _ _ _ c.finished.result c.finished.ensures.ends

-- memory ran out in a turn
pub returns-clause-ends : goal.returns-clause-ends
returns-clause-ends g c =
    let t = setting c.args.founded.now c.args.x.num c.args.x.den g.row.F in
    let memo = c.in-Ok.memo in
    let d = c.in-Ok-new.drawing in
    let tape = c.seeded-tape.result in
    let now = c.draw_to_the_end.new.drawing in
    let used = c.draw_to_the_end.new.tape.used in
    let raised = c.draw_to_the_end.new.oracle.raised in
    let unraised = ap (λ (m : Memory). m.raised) c.in-Ok.ensures.made in
    let sound = subst IsSound c.system.ensures.system c.known.ensures.sound in
    let chosen = c.a_table_has_its_chooser.ensures.chooses t.spec g.row.F (level_bounds t c.args.base) (has_empty t.spec) (λ part. c.a_table_has_its_chooser.ensures.computed t.spec part sound) in
    let begun = starts-running c.a_trace_starts_with_its_drawing.ensures c.args.founded.now (ratio memo.num memo.den) g.row.F (level_bounds_from (setting memo.spec memo.num memo.den g.row.F) memo.start memo.base) d.limits tape.source d tape.used memo.raised (ap (λ (z : TapeState). z.used) c.seeded-tape.ensures.new) c.in-Ok-new.ensures.start refl c.in-Ok-new.ensures.atoms unraised in
    let over_base = subst (λ (m : Memory). IsRunning c.args.founded.now (ratio m.num m.den) g.row.F (level_bounds_from (setting m.spec m.num m.den g.row.F) m.start m.base) d.limits tape.source now used raised) c.in-Ok.ensures.made (c.draw_to_the_end.ensures.under_way begun) in
    let over_limits = subst (λ (l : Limits). IsRunning c.args.founded.now (ratio c.args.x.num c.args.x.den) g.row.F (level_bounds t c.args.base) l tape.source now used raised) c.in-Ok-new.ensures.limits over_base in
    let over = subst (λ (z : TapeState). IsRunning c.args.founded.now (ratio c.args.x.num c.args.x.den) g.row.F (level_bounds t c.args.base) (bulk_limits c.args.n) z.source now used raised) c.seeded-tape.ensures.new over_limits in
    let reads = subst (λ (z : TapeState). CountsFault (has_failed now.ending) z.source no_faults no_faults) c.seeded-tape.ensures.new c.draw_to_the_end.ensures.reads in
    let few = costs-from-none memo.raised raised c.args.steps.now c.draw_to_the_end.new.steps unraised c.draw_to_the_end.ensures.levels c.draw_to_the_end.ensures.oracle.ticks in
    run-broken c.args.n t c.args.base chosen now used raised c.args.steps.now c.draw_to_the_end.new.steps few over reads _ _ _
