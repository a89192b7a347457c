use Rattle.std.proofs.Common.{◌≡◌, ℕ, List, map, length, sym, ◌∙◌, ap, subst, arith}
use Rattle.std.specs.List.{All}
use Rattle.bz_model.specs.Fraction.{ratio}
use Rattle.bz_model.specs.Spec.{Spec}
use Rattle.bit_tape.specs.Tape.{TapeSource, TapeState, BelongsToShelf}
use Rattle.class_system.specs.Sound.{IsSound}
use Rattle.oracle_memo.specs.Levels.{level_bounds_from, costs}
use Rattle.oracle_memo.specs.Memos.{Memory}
use Rattle.rounded_map.specs.RoundedMap.{setting}
use Rattle.certificate.specs.Lines.{version_line}
use Rattle.sample_command.specs.Drawn.{drawn_header}
use Rattle.sample_command.proofs.TapeEnds.{EndLaws}
use Rattle.session_pool.specs.Interleaving as session
use Rattle.size_window.specs.Drawing.{limits_of}
use Rattle.well_founded.specs.EmptyObjects.{has_empty}
use Rattle.pool_command.specs.PoolCommand.{pool_of, table_of}
use Rattle.pool_command.specs.Schedule.{drawings_named, all_asked}
use Rattle.pool_command.specs.UnderWay.{pool_beginning, moment, asked_by}
use Rattle.pool_command.proofs.Ended.{shared_of}
use Rattle.pool_command.proofs.Printable.{can-print}
use Rattle.pool_command.proofs.Results.{on-err}
use Rattle.pool_command.proofs.Starts.{tapes-unused, tapes-belong, members-counted, memo-starts}
use Rattle.pool_command.proofs.Told.{so-far-told, ended-told}
use Rattle.pool_command.proofs.drawing.reported.Goals as goal

-- no bit of the tapes was taken
pub make-requires-2-clause-unused : goal.make-requires-2-clause-unused
make-requires-2-clause-unused g c = subst (All (λ (tape : TapeState). tape.used ≡ 0)) (sym c.in_ok-tapes.ensures) (tapes-unused c.args.names.now)

-- the drawings can be asked for turns
pub take_turns-requires-clause-can : goal.take_turns-requires-clause-can
take_turns-requires-clause-can g c =
    let same = c.in_ok-pool.ensures.new.same_tapes ∙ c.in_ok-tapes.ensures in
    record {
      sound = subst IsSound c.system-system.ensures.system c.known.ensures.sound;
      spec = ap (λ (k : Memory). k.spec) c.in_ok-memo.ensures.made;
      drawings = c.in_ok-pool.ensures.belongs (ratio c.in_ok-memo.memo.num c.in_ok-memo.memo.den);
      tapes = record { each = subst (All (BelongsToShelf (g.S.Shelf.content c.args.shelf.now))) (sym same) (tapes-belong (g.S.Shelf.content c.args.shelf.now) c.args.names.now) };
      number = members-counted c.in_ok-pool.pool c.args.names.now same;
    }

-- they were broken off
pub returns-in_err-order-clause-err : goal.returns-in_err-order-clause-err
returns-in_err-order-clause-err g c = on-err c.from_residual-in_err-order.result (λ before below.
    let t = setting c.args.founded.now c.args.x.num c.args.x.den g.row.F in
    let limits = limits_of c.args.limits in
    let p = pool_of t c.args.base limits in
    let content = g.S.Shelf.content c.args.shelf.now in
    let counts = g.S.Shelf.faults c.args.shelf.now in
    let names = c.args.names.now in
    let b = pool_beginning (shared_of p content) limits (map TapeSource.Named names) counts c.args.steps.now in
    let start = memo-starts c.a_trace_starts_with_its_drawing.ensures t c.args.base limits content names counts c.args.steps.now c.args.steps.now c.in_ok-memo.memo c.in_ok-tapes.tapes.items c.in_ok-pool.pool c.in_ok-memo.ensures.made c.in_ok-tapes.ensures c.in_ok-pool.ensures.new c.in_ok-pool.ensures.alone (omega arith) in
    let sound = subst IsSound c.system-system.ensures.system c.known.ensures.sound in
    let chosen = c.a_table_has_its_chooser.ensures.chooses c.args.founded.now g.row.F (table_of p) (has_empty c.args.founded.now) (λ part. c.a_table_has_its_chooser.ensures.computed c.args.founded.now part sound) in
    let broken = c.in_err-order.ensures.broken b start in
    so-far-told p content counts before names c.args.steps.now chosen below broken.asked (moment (session.shared_setting c.take_turns.new.oracle.spec (ratio c.take_turns.new.oracle.num c.take_turns.new.oracle.den) g.row.F (level_bounds_from (setting c.take_turns.new.oracle.spec c.take_turns.new.oracle.num c.take_turns.new.oracle.den g.row.F) c.take_turns.new.oracle.start c.take_turns.new.oracle.base) (g.S.Shelf.content c.take_turns.new.shelf)) (g.S.Shelf.faults c.take_turns.new.shelf) costs c.take_turns.new.oracle.raised c.take_turns.new.steps c.take_turns.new.pool) broken.so_far c.take_turns.ensures.can.number c.args.schedule.now)

-- what was kept can be printed
pub page-requires-clause-printable : goal.page-requires-clause-printable
page-requires-clause-printable g c =
    let t = setting c.args.founded.now c.args.x.num c.args.x.den g.row.F in
    let limits = limits_of c.args.limits in
    let p = pool_of t c.args.base limits in
    let content = g.S.Shelf.content c.args.shelf.now in
    let counts = g.S.Shelf.faults c.args.shelf.now in
    let names = c.args.names.now in
    let b = pool_beginning (shared_of p content) limits (map TapeSource.Named names) counts c.args.steps.now in
    let start = memo-starts c.a_trace_starts_with_its_drawing.ensures t c.args.base limits content names counts c.args.steps.now c.args.steps.now c.in_ok-memo.memo c.in_ok-tapes.tapes.items c.in_ok-pool.pool c.in_ok-memo.ensures.made c.in_ok-tapes.ensures c.in_ok-pool.ensures.new c.in_ok-pool.ensures.alone (omega arith) in
    let sound = subst IsSound c.system-system.ensures.system c.known.ensures.sound in
    let chosen = c.a_table_has_its_chooser.ensures.chooses c.args.founded.now g.row.F (table_of p) (has_empty c.args.founded.now) (λ part. c.a_table_has_its_chooser.ensures.computed c.args.founded.now part sound) in
    let far = (c.in_ok-order.ensures.ended b start).under_way.so_far in
    record { each = λ i m at. can-print (shared_of p content) limits counts (g.S.Shelf.faults c.take_turns.new.shelf) m (far.mosts i) (far.each i m at) }

-- there was no memory for the text
pub returns-in_err-text-clause-err : goal.returns-in_err-text-clause-err
returns-in_err-text-clause-err g c = on-err c.from_residual-in_err-text.result (λ before below.
    let t = setting c.args.founded.now c.args.x.num c.args.x.den g.row.F in
    let limits = limits_of c.args.limits in
    let p = pool_of t c.args.base limits in
    let content = g.S.Shelf.content c.args.shelf.now in
    let counts = g.S.Shelf.faults c.args.shelf.now in
    let names = c.args.names.now in
    let b = pool_beginning (shared_of p content) limits (map TapeSource.Named names) counts c.args.steps.now in
    let start = memo-starts c.a_trace_starts_with_its_drawing.ensures t c.args.base limits content names counts c.args.steps.now c.args.steps.now c.in_ok-memo.memo c.in_ok-tapes.tapes.items c.in_ok-pool.pool c.in_ok-memo.ensures.made c.in_ok-tapes.ensures c.in_ok-pool.ensures.new c.in_ok-pool.ensures.alone (omega arith) in
    let sound = subst IsSound c.system-system.ensures.system c.known.ensures.sound in
    let chosen = c.a_table_has_its_chooser.ensures.chooses c.args.founded.now g.row.F (table_of p) (has_empty c.args.founded.now) (λ part. c.a_table_has_its_chooser.ensures.computed c.args.founded.now part sound) in
    let far = (c.in_ok-order.ensures.ended b start).under_way.so_far in
    so-far-told p content counts before names c.args.steps.now chosen below (all_asked (asked_by c.take_turns.new.pool) (drawings_named (length names) c.args.schedule.now) (length names)) (moment (session.shared_setting c.take_turns.new.oracle.spec (ratio c.take_turns.new.oracle.num c.take_turns.new.oracle.den) g.row.F (level_bounds_from (setting c.take_turns.new.oracle.spec c.take_turns.new.oracle.num c.take_turns.new.oracle.den g.row.F) c.take_turns.new.oracle.start c.take_turns.new.oracle.base) (g.S.Shelf.content c.take_turns.new.shelf)) (g.S.Shelf.faults c.take_turns.new.shelf) costs c.take_turns.new.oracle.raised c.take_turns.new.steps c.take_turns.new.pool) far c.take_turns.ensures.can.number c.args.schedule.now)

-- all have ended, and their text is made
pub returns-clause-ok : goal.returns-clause-ok
returns-clause-ok g c = λ before below.
    let t = setting c.args.founded.now c.args.x.num c.args.x.den g.row.F in
    let limits = limits_of c.args.limits in
    let p = pool_of t c.args.base limits in
    let content = g.S.Shelf.content c.args.shelf.now in
    let counts = g.S.Shelf.faults c.args.shelf.now in
    let names = c.args.names.now in
    let b = pool_beginning (shared_of p content) limits (map TapeSource.Named names) counts c.args.steps.now in
    let start = memo-starts c.a_trace_starts_with_its_drawing.ensures t c.args.base limits content names counts c.args.steps.now c.args.steps.now c.in_ok-memo.memo c.in_ok-tapes.tapes.items c.in_ok-pool.pool c.in_ok-memo.ensures.made c.in_ok-tapes.ensures c.in_ok-pool.ensures.new c.in_ok-pool.ensures.alone (omega arith) in
    let sound = subst IsSound c.system-system.ensures.system c.known.ensures.sound in
    let chosen = c.a_table_has_its_chooser.ensures.chooses c.args.founded.now g.row.F (table_of p) (has_empty c.args.founded.now) (λ part. c.a_table_has_its_chooser.ensures.computed c.args.founded.now part sound) in
    let laws : EndLaws = record { few = c.a_course_uses_few_bits.ensures; files = c.the_tape_ends_where_its_bits_are_used.ensures.files; seeds = c.the_tape_ends_where_its_bits_are_used.ensures.seeds } in
    let over = c.in_ok-order.ensures.ended b start in
    let page = c.in_ok-text.ensures in
    let header =
    c.in_ok-header.ensures
    ∙ ap (λ (s : Spec). drawn_header (version_line 2) (setting s c.args.x.num c.args.x.den g.row.F) c.values.result.now limits) c.system-system.ensures.system
    ∙ ap (λ (entries : List ℕ). drawn_header (version_line 2) t entries limits) c.values.ensures.entries in
    ended-told p content counts before names c.args.steps.now chosen below (all_asked (asked_by c.take_turns.new.pool) (drawings_named (length names) c.args.schedule.now) (length names)) (moment (session.shared_setting c.take_turns.new.oracle.spec (ratio c.take_turns.new.oracle.num c.take_turns.new.oracle.den) g.row.F (level_bounds_from (setting c.take_turns.new.oracle.spec c.take_turns.new.oracle.num c.take_turns.new.oracle.den g.row.F) c.take_turns.new.oracle.start c.take_turns.new.oracle.base) (g.S.Shelf.content c.take_turns.new.shelf)) (g.S.Shelf.faults c.take_turns.new.shelf) costs c.take_turns.new.oracle.raised c.take_turns.new.steps c.take_turns.new.pool) over.under_way.so_far c.take_turns.ensures.can.number
    page.1.lines page.1.lists over.ended laws sound c.requires.limits
    c.args.schedule.now c.as_slice.result.now c.in_ok-header.header.items page.0 c.in_ok-text.text.items c.first_status.result c.requires.number.0 (c.as_slice.ensures.value ∙ over.under_way.order_is) header page.1.text_is page.2 c.first_status.ensures
