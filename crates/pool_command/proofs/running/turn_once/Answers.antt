use Rattle.std.proofs.Common.{◌+◌, ◌<◌, ◌≤◌, refl, sym, ◌∙◌, ap, subst}
use Rattle.bz_model.specs.Oracle.{cost_between}
use Rattle.bit_tape.proofs.Leaving.{counts-kept}
use Rattle.session_pool.specs.declared.pooled.Pooled.TheVariants as pooled
use Rattle.session_pool.specs.Pool.{PoolBelongs}
use Rattle.session_pool.specs.Interleaving.{shared_setting}
use Rattle.pool_command.specs.UnderWay.{moment, IsSoFar}
use Rattle.pool_command.proofs.SoFar.{same-shared, so-far-by, so-far-still, six-levels, contents-kept, later-at, asked-on, going-made, finished-made}
use Rattle.pool_command.proofs.running.turn_once.Goals as goal

-- the turn was made
pub returns-in-Going-clause-so_far : goal.returns-in-Going-clause-so_far
returns-in-Going-clause-so_far g c = λ b asked p.
    let h = c.in-Going.ensures.turned going-made in
    let left = c.turn.ensures.oracle in
    let content = contents-kept g.S.Shelf.content g.S.Shelf.faults c.args.shelf.now c.turn.new.shelf _ _ h.old_member h.new_member h.at (later-at (shared_setting c.args.founded.now (g.O.Oracle.x c.args.oracle.now) g.row.F (g.O.Oracle.table c.args.oracle.now) (g.S.Shelf.content c.args.shelf.now)) (g.S.Shelf.faults c.args.shelf.now) (g.S.Shelf.faults c.turn.new.shelf) c.args.pool.now c.turn.new.self c.args.number pooled.Going h) c.turn.ensures.tape in
    so-far-by b asked (moment (shared_setting (g.O.Oracle.spec c.args.oracle.now) (g.O.Oracle.x c.args.oracle.now) g.row.F (g.O.Oracle.table c.args.oracle.now) (g.S.Shelf.content c.args.shelf.now)) (g.S.Shelf.faults c.args.shelf.now) (g.O.Oracle.cost c.args.oracle.now) (g.O.Oracle.raised c.args.oracle.now) c.args.steps.now c.args.pool.now) (moment (shared_setting (g.O.Oracle.spec c.turn.new.oracle) (g.O.Oracle.x c.turn.new.oracle) g.row.F (g.O.Oracle.table c.turn.new.oracle) (g.S.Shelf.content c.turn.new.shelf)) (g.S.Shelf.faults c.turn.new.shelf) (g.O.Oracle.cost c.turn.new.oracle) (g.O.Oracle.raised c.turn.new.oracle) c.turn.new.steps c.turn.new.self) c.args.number pooled.Going (shared_setting c.args.founded.now (g.O.Oracle.x c.args.oracle.now) g.row.F (g.O.Oracle.table c.args.oracle.now) (g.S.Shelf.content c.args.shelf.now))
    (ap (λ s. shared_setting s (g.O.Oracle.x c.args.oracle.now) g.row.F (g.O.Oracle.table c.args.oracle.now) (g.S.Shelf.content c.args.shelf.now)) (sym c.requires.can.spec) ∙ p.same)
    p h c.a_turn_continues_a_trace.ensures c.requires.can.sound
    (same-shared _ _ _ _ g.row.F _ _ _ _ left.spec left.x left.table content)
    (c.in-Going.ensures.alone going-made)
    left.cost
    (six-levels (g.O.Oracle.raised c.args.oracle.now) _ (g.O.Oracle.raised c.turn.new.oracle) p.levels c.turn.ensures.node_bits c.turn.ensures.raised)
    left.rises c.turn.ensures.raised left.ticks
    (subst (λ n. c.args.number < n) (sym c.requires.can.number) c.requires.number) c.turn.ensures.number
    (counts-kept _ h.old_member.tape.source (g.S.Shelf.faults c.args.shelf.now) (g.S.Shelf.faults c.turn.new.shelf) h.turn.faults)

pub returns-in-Going-clause-asked : goal.returns-in-Going-clause-asked
returns-in-Going-clause-asked g c =
    asked-on (shared_setting c.args.founded.now (g.O.Oracle.x c.args.oracle.now) g.row.F (g.O.Oracle.table c.args.oracle.now) (g.S.Shelf.content c.args.shelf.now)) (g.S.Shelf.faults c.args.shelf.now) (g.S.Shelf.faults c.turn.new.shelf) c.args.pool.now c.turn.new.self c.args.number pooled.Going (c.in-Going.ensures.turned going-made) (λ some. (c.turn.ensures.ended some).1)

pub returns-in-Going-clause-can : goal.returns-in-Going-clause-can
returns-in-Going-clause-can g c =
    let left = c.turn.ensures.oracle in
    record {
      sound = c.requires.can.sound;
      spec = left.spec ∙ c.requires.can.spec;
      drawings = subst (λ x. PoolBelongs c.args.founded.now x c.turn.new.self) (sym left.x) c.turn.ensures.drawings;
      tapes = c.turn.ensures.tapes;
      number = c.turn.ensures.number ∙ c.requires.can.number;
    }

pub returns-in-Going-clause-content : goal.returns-in-Going-clause-content
returns-in-Going-clause-content g c =
    let h = c.in-Going.ensures.turned going-made in
    contents-kept g.S.Shelf.content g.S.Shelf.faults c.args.shelf.now c.turn.new.shelf _ _ h.old_member h.new_member h.at (later-at (shared_setting c.args.founded.now (g.O.Oracle.x c.args.oracle.now) g.row.F (g.O.Oracle.table c.args.oracle.now) (g.S.Shelf.content c.args.shelf.now)) (g.S.Shelf.faults c.args.shelf.now) (g.S.Shelf.faults c.turn.new.shelf) c.args.pool.now c.turn.new.self c.args.number pooled.Going h) c.turn.ensures.tape

pub returns-in-Going-clause-counts : goal.returns-in-Going-clause-counts
returns-in-Going-clause-counts g c =
    let h = c.in-Going.ensures.turned going-made in
    counts-kept _ h.old_member.tape.source (g.S.Shelf.faults c.args.shelf.now) (g.S.Shelf.faults c.turn.new.shelf) h.turn.faults

-- the turn was made
pub returns-in-Finished-clause-so_far : goal.returns-in-Finished-clause-so_far
returns-in-Finished-clause-so_far g c = λ b asked p.
    let h = c.in-Finished.ensures.turned finished-made in
    let left = c.turn.ensures.oracle in
    let content = contents-kept g.S.Shelf.content g.S.Shelf.faults c.args.shelf.now c.turn.new.shelf _ _ h.old_member h.new_member h.at (later-at (shared_setting c.args.founded.now (g.O.Oracle.x c.args.oracle.now) g.row.F (g.O.Oracle.table c.args.oracle.now) (g.S.Shelf.content c.args.shelf.now)) (g.S.Shelf.faults c.args.shelf.now) (g.S.Shelf.faults c.turn.new.shelf) c.args.pool.now c.turn.new.self c.args.number pooled.Finished h) c.turn.ensures.tape in
    so-far-by b asked (moment (shared_setting (g.O.Oracle.spec c.args.oracle.now) (g.O.Oracle.x c.args.oracle.now) g.row.F (g.O.Oracle.table c.args.oracle.now) (g.S.Shelf.content c.args.shelf.now)) (g.S.Shelf.faults c.args.shelf.now) (g.O.Oracle.cost c.args.oracle.now) (g.O.Oracle.raised c.args.oracle.now) c.args.steps.now c.args.pool.now) (moment (shared_setting (g.O.Oracle.spec c.turn.new.oracle) (g.O.Oracle.x c.turn.new.oracle) g.row.F (g.O.Oracle.table c.turn.new.oracle) (g.S.Shelf.content c.turn.new.shelf)) (g.S.Shelf.faults c.turn.new.shelf) (g.O.Oracle.cost c.turn.new.oracle) (g.O.Oracle.raised c.turn.new.oracle) c.turn.new.steps c.turn.new.self) c.args.number pooled.Finished (shared_setting c.args.founded.now (g.O.Oracle.x c.args.oracle.now) g.row.F (g.O.Oracle.table c.args.oracle.now) (g.S.Shelf.content c.args.shelf.now))
    (ap (λ s. shared_setting s (g.O.Oracle.x c.args.oracle.now) g.row.F (g.O.Oracle.table c.args.oracle.now) (g.S.Shelf.content c.args.shelf.now)) (sym c.requires.can.spec) ∙ p.same)
    p h c.a_turn_continues_a_trace.ensures c.requires.can.sound
    (same-shared _ _ _ _ g.row.F _ _ _ _ left.spec left.x left.table content)
    (c.in-Finished.ensures.alone finished-made)
    left.cost
    (six-levels (g.O.Oracle.raised c.args.oracle.now) _ (g.O.Oracle.raised c.turn.new.oracle) p.levels c.turn.ensures.node_bits c.turn.ensures.raised)
    left.rises c.turn.ensures.raised left.ticks
    (subst (λ n. c.args.number < n) (sym c.requires.can.number) c.requires.number) c.turn.ensures.number
    (counts-kept _ h.old_member.tape.source (g.S.Shelf.faults c.args.shelf.now) (g.S.Shelf.faults c.turn.new.shelf) h.turn.faults)

pub returns-in-Finished-clause-asked : goal.returns-in-Finished-clause-asked
returns-in-Finished-clause-asked g c =
    asked-on (shared_setting c.args.founded.now (g.O.Oracle.x c.args.oracle.now) g.row.F (g.O.Oracle.table c.args.oracle.now) (g.S.Shelf.content c.args.shelf.now)) (g.S.Shelf.faults c.args.shelf.now) (g.S.Shelf.faults c.turn.new.shelf) c.args.pool.now c.turn.new.self c.args.number pooled.Finished (c.in-Finished.ensures.turned finished-made) (λ some. (c.turn.ensures.ended some).1)

pub returns-in-Finished-clause-can : goal.returns-in-Finished-clause-can
returns-in-Finished-clause-can g c =
    let left = c.turn.ensures.oracle in
    record {
      sound = c.requires.can.sound;
      spec = left.spec ∙ c.requires.can.spec;
      drawings = subst (λ x. PoolBelongs c.args.founded.now x c.turn.new.self) (sym left.x) c.turn.ensures.drawings;
      tapes = c.turn.ensures.tapes;
      number = c.turn.ensures.number ∙ c.requires.can.number;
    }

pub returns-in-Finished-clause-content : goal.returns-in-Finished-clause-content
returns-in-Finished-clause-content g c =
    let h = c.in-Finished.ensures.turned finished-made in
    contents-kept g.S.Shelf.content g.S.Shelf.faults c.args.shelf.now c.turn.new.shelf _ _ h.old_member h.new_member h.at (later-at (shared_setting c.args.founded.now (g.O.Oracle.x c.args.oracle.now) g.row.F (g.O.Oracle.table c.args.oracle.now) (g.S.Shelf.content c.args.shelf.now)) (g.S.Shelf.faults c.args.shelf.now) (g.S.Shelf.faults c.turn.new.shelf) c.args.pool.now c.turn.new.self c.args.number pooled.Finished h) c.turn.ensures.tape

pub returns-in-Finished-clause-counts : goal.returns-in-Finished-clause-counts
returns-in-Finished-clause-counts g c =
    let h = c.in-Finished.ensures.turned finished-made in
    counts-kept _ h.old_member.tape.source (g.S.Shelf.faults c.args.shelf.now) (g.S.Shelf.faults c.turn.new.shelf) h.turn.faults

-- there was no memory
pub returns-in-OutOfMemory-clause-no_memory : goal.returns-in-OutOfMemory-clause-no_memory
returns-in-OutOfMemory-clause-no_memory g c = λ b asked p.
    let same = c.in-OutOfMemory.ensures.no_memory refl in
    let left = c.turn.ensures.oracle in
    let at = moment (shared_setting (g.O.Oracle.spec c.args.oracle.now) (g.O.Oracle.x c.args.oracle.now) g.row.F (g.O.Oracle.table c.args.oracle.now) (g.S.Shelf.content c.args.shelf.now)) (g.S.Shelf.faults c.args.shelf.now) (g.O.Oracle.cost c.args.oracle.now) (g.O.Oracle.raised c.args.oracle.now) c.args.steps.now c.args.pool.now in
    let still = so-far-still b asked at c.turn.new.steps (subst (λ o. c.turn.new.steps ≤ c.args.steps.now + cost_between (g.O.Oracle.cost c.args.oracle.now) (g.O.Oracle.raised c.args.oracle.now) (g.O.Oracle.raised o)) same.1 left.ticks) p in
    subst (λ z. IsSoFar b asked (moment (shared_setting (g.O.Oracle.spec c.turn.new.oracle) (g.O.Oracle.x c.turn.new.oracle) g.row.F (g.O.Oracle.table c.turn.new.oracle) (g.S.Shelf.content c.turn.new.shelf)) (g.S.Shelf.faults c.turn.new.shelf) (g.O.Oracle.cost c.turn.new.oracle) (g.O.Oracle.raised c.turn.new.oracle) c.turn.new.steps z)) (sym same.0)
    (subst (λ o. IsSoFar b asked (moment (shared_setting (g.O.Oracle.spec o) (g.O.Oracle.x o) g.row.F (g.O.Oracle.table o) (g.S.Shelf.content c.turn.new.shelf)) (g.S.Shelf.faults c.turn.new.shelf) (g.O.Oracle.cost o) (g.O.Oracle.raised o) c.turn.new.steps c.args.pool.now)) (sym same.1)
    (subst (λ h. IsSoFar b asked (moment (shared_setting (g.O.Oracle.spec c.args.oracle.now) (g.O.Oracle.x c.args.oracle.now) g.row.F (g.O.Oracle.table c.args.oracle.now) (g.S.Shelf.content h)) (g.S.Shelf.faults h) (g.O.Oracle.cost c.args.oracle.now) (g.O.Oracle.raised c.args.oracle.now) c.turn.new.steps c.args.pool.now)) (sym same.2) still))
