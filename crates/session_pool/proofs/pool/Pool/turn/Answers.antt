-- A member is lent, makes its turn, and is written back.
use Rattle.std.proofs.Common.{max, sym, ◌∙◌, ap, subst, arith}
use Rattle.choice_draw.specs.Decision.{level_for}
use Rattle.std.specs.Prelude.{slice_set, IsSome}
use Rattle.bit_tape.specs.Tape.{BelongsToShelf}
use Rattle.bit_tape.proofs.Leaving.{counts-kept}
use Rattle.session_pool.specs.Pool.{TapesBelong, tapes_of}
use Rattle.session_pool.specs.Interleaving.{shared_setting}
use Rattle.session_pool.specs.Turn.{pool_answer}
use Rattle.session_pool.proofs.Lent.{lent-tape, is-lent, unchanged, ending-was, ending-is, bits-lent, drawings-back, tapes-back, sources-back, tape-left, pool-turn}
use Rattle.session_pool.proofs.Pools.{pool-turns}
use Rattle.session_pool.proofs.pool.Pool.turn.Goals as goal

pub turn-requires-clause-tape : goal.turn-requires-clause-tape
turn-requires-clause-tape g c =
    let lent = is-lent c.self.inside.members.items c.args.self.now c.args.number c.index_mut-member.result.now c.self.view_is c.requires.number c.index_mut-member.ensures.value in
    lent-tape (g.S.Shelf.content c.args.shelf.now) c.args.self.now c.args.number c.index_mut-member.result.now lent.at c.requires.tapes

pub returns-clause-no_memory : goal.returns-clause-no_memory
returns-clause-no_memory g c = λ wanting.
    let lent = is-lent c.self.inside.members.items c.args.self.now c.args.number c.index_mut-member.result.now c.self.view_is c.requires.number c.index_mut-member.ensures.value in
    let same = c.turn.ensures.no_memory wanting in
    (unchanged c.self.inside.members.items c.args.self.now c.args.number c.index_mut-member.result.now c.turn.new.self lent same.0, same.1, same.2)

pub returns-clause-ended : goal.returns-clause-ended
returns-clause-ended g c = λ some.
    let lent = is-lent c.self.inside.members.items c.args.self.now c.args.number c.index_mut-member.result.now c.self.view_is c.requires.number c.index_mut-member.ensures.value in
    let same = c.turn.ensures.ended (subst IsSome (ending-was c.self.inside.members.items c.args.self.now c.args.number c.index_mut-member.result.now c.turn.new.self lent) some) in
    (same.0, unchanged c.self.inside.members.items c.args.self.now c.args.number c.index_mut-member.result.now c.turn.new.self lent same.1, same.2, same.3)

pub returns-clause-answers : goal.returns-clause-answers
returns-clause-answers g c = λ made.
    let lent = is-lent c.self.inside.members.items c.args.self.now c.args.number c.index_mut-member.result.now c.self.view_is c.requires.number c.index_mut-member.ensures.value in
    (c.turn.ensures.turned made).answers ∙ ap pool_answer (sym (ending-is c.self.inside.members.items c.args.self.now c.args.number c.index_mut-member.result.now c.turn.new.self lent))

pub returns-clause-turned : goal.returns-clause-turned
returns-clause-turned g c = λ made.
    let lent = is-lent c.self.inside.members.items c.args.self.now c.args.number c.index_mut-member.result.now c.self.view_is c.requires.number c.index_mut-member.ensures.value in
    pool-turn c.self.inside.members.items c.args.self.now c.args.number c.index_mut-member.result.now c.turn.new.self lent c.args.founded.now (g.O.Oracle.x c.args.oracle.now) g.row.F (g.O.Oracle.table c.args.oracle.now) (g.S.Shelf.content c.args.shelf.now) (g.S.Shelf.faults c.args.shelf.now) (g.S.Shelf.faults c.turn.new.shelf) c.turn.result (c.turn.ensures.turned made)

pub returns-clause-alone : goal.returns-clause-alone
returns-clause-alone g c = λ made limits sources begun turns p.
    let lent = is-lent c.self.inside.members.items c.args.self.now c.args.number c.index_mut-member.result.now c.self.view_is c.requires.number c.index_mut-member.ensures.value in
    pool-turns (shared_setting c.args.founded.now (g.O.Oracle.x c.args.oracle.now) g.row.F (g.O.Oracle.table c.args.oracle.now) (g.S.Shelf.content c.args.shelf.now)) limits sources begun (g.S.Shelf.faults c.args.shelf.now) (g.S.Shelf.faults c.turn.new.shelf) (counts-kept _ c.index_mut-member.result.now.tape.source (g.S.Shelf.faults c.args.shelf.now) (g.S.Shelf.faults c.turn.new.shelf) c.turn.ensures.tape.faults) c.args.self.now (slice_set c.self.inside.members.items c.args.number c.turn.new.self) c.args.number c.turn.result (pool-turn c.self.inside.members.items c.args.self.now c.args.number c.index_mut-member.result.now c.turn.new.self lent c.args.founded.now (g.O.Oracle.x c.args.oracle.now) g.row.F (g.O.Oracle.table c.args.oracle.now) (g.S.Shelf.content c.args.shelf.now) (g.S.Shelf.faults c.args.shelf.now) (g.S.Shelf.faults c.turn.new.shelf) c.turn.result (c.turn.ensures.turned made)) turns p (c.a_turn_continues_a_trace.ensures c.args.founded.now (rw c.system.ensures.system at c.known.ensures.sound))

pub returns-clause-sources : goal.returns-clause-sources
returns-clause-sources g c =
    let lent = is-lent c.self.inside.members.items c.args.self.now c.args.number c.index_mut-member.result.now c.self.view_is c.requires.number c.index_mut-member.ensures.value in
    sources-back c.self.inside.members.items c.args.self.now c.args.number c.index_mut-member.result.now c.turn.new.self lent c.turn.ensures.tape.source

pub returns-clause-drawings : goal.returns-clause-drawings
returns-clause-drawings g c =
    let lent = is-lent c.self.inside.members.items c.args.self.now c.args.number c.index_mut-member.result.now c.self.view_is c.requires.number c.index_mut-member.ensures.value in
    drawings-back c.self.inside.members.items c.args.self.now c.args.number c.index_mut-member.result.now c.turn.new.self lent c.args.founded.now (g.O.Oracle.x c.args.oracle.now) c.requires.drawings c.turn.ensures.drawing

pub returns-clause-tapes : goal.returns-clause-tapes
returns-clause-tapes g c =
    let lent = is-lent c.self.inside.members.items c.args.self.now c.args.number c.index_mut-member.result.now c.self.view_is c.requires.number c.index_mut-member.ensures.value in
    subst (λ contents. TapesBelong contents (tapes_of (slice_set c.self.inside.members.items c.args.number c.turn.new.self))) (sym c.turn.ensures.tape.content) (tapes-back c.self.inside.members.items c.args.self.now c.args.number c.index_mut-member.result.now c.turn.new.self lent (g.S.Shelf.content c.args.shelf.now) c.requires.tapes (subst (λ contents. BelongsToShelf contents c.turn.new.self.tape) c.turn.ensures.tape.content c.turn.ensures.tape.belongs))

pub returns-clause-raised : goal.returns-clause-raised
returns-clause-raised g c =
    let lent = is-lent c.self.inside.members.items c.args.self.now c.args.number c.index_mut-member.result.now c.self.view_is c.requires.number c.index_mut-member.ensures.value in
    c.turn.ensures.raised ∙ ap (max (g.O.Oracle.raised c.args.oracle.now)) (ap level_for (bits-lent c.self.inside.members.items c.args.self.now c.args.number c.index_mut-member.result.now c.turn.new.self lent))

pub returns-clause-node_bits : goal.returns-clause-node_bits
returns-clause-node_bits g c =
    let lent = is-lent c.self.inside.members.items c.args.self.now c.args.number c.index_mut-member.result.now c.self.view_is c.requires.number c.index_mut-member.ensures.value in
    let given = c.turn.ensures.node_bits in
    let same = bits-lent c.self.inside.members.items c.args.self.now c.args.number c.index_mut-member.result.now c.turn.new.self lent in
    omega (arith, given, same)

pub returns-clause-tape : goal.returns-clause-tape
returns-clause-tape g c =
    let lent = is-lent c.self.inside.members.items c.args.self.now c.args.number c.index_mut-member.result.now c.self.view_is c.requires.number c.index_mut-member.ensures.value in
    tape-left c.self.inside.members.items c.args.self.now c.args.number c.index_mut-member.result.now c.turn.new.self lent g.S.Shelf.content g.S.Shelf.faults c.args.shelf.now c.turn.new.shelf c.turn.ensures.tape
