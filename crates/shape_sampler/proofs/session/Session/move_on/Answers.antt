-- The moves so far, and one more.
use Rattle.std.proofs.Common.{◌≡◌, ◌+◌, arith, sym, subst}
use Rattle.bz_model.specs.Spec.{Spec}
use Rattle.shape_sampler.specs.State.{SessionBelongs}
use Rattle.shape_sampler.specs.Ahead.{MovesOn}
use Rattle.shape_sampler.specs.Compared.{AreTablesCompared}
use Rattle.shape_sampler.proofs.Moves.{none-moved, more-moved}
use Rattle.shape_sampler.proofs.ComparedTables.{none-compared}
use Rattle.shape_sampler.proofs.session.Session.move_on.Goals as goal

pub moves-init : goal.moves-init
moves-init g c = record {
  few = omega arith;
  moved = none-moved c.args.founded.now (g.O.Oracle.x c.args.oracle.now) g.row.F (g.O.Oracle.table c.args.oracle.now) (g.O.Oracle.raised c.args.oracle.now) c.args.self.now c.args.tape.now c.requires.running c.requires.session;
  compared = none-compared c.args.founded.now g.row.F (g.O.Oracle.table c.args.oracle.now) (g.O.Oracle.raised c.args.oracle.now) c.args.tables.now c.none-marks.result c.none-marks.ensures.unions c.none-marks.ensures.counts;
}

pub move_first-moved-requires-clause-compared : goal.move_first-moved-requires-clause-compared
move_first-moved-requires-clause-compared g c = subst (λ (s : Spec). AreTablesCompared s g.row.F (g.O.Oracle.table c.args.oracle.now) (g.O.Oracle.raised c.args.oracle.now) c.args.tables.now c.moves.marks) (sym c.system-system.ensures.system) c.moves.invariant.compared

pub move_first-moved-requires-clause-running : goal.move_first-moved-requires-clause-running
move_first-moved-requires-clause-running g c = c.moves.invariant.moved.running

pub move_first-moved-requires-clause-session : goal.move_first-moved-requires-clause-session
move_first-moved-requires-clause-session g c = subst (λ (s : Spec). SessionBelongs s (g.O.Oracle.x c.args.oracle.now) c.moves.self) (sym c.system-system.ensures.system) c.moves.invariant.moved.session

pub moves-preserved : goal.moves-preserved
moves-preserved g c =
    let x = g.O.Oracle.x c.args.oracle.now in
    let table = g.O.Oracle.table c.args.oracle.now in
    let raised = g.O.Oracle.raised c.args.oracle.now in
    let next = subst (λ (s : Spec). MovesOn s x g.row.F table raised c.move_first-moved.result c.moves.self c.moves.tape c.move_first-moved.new.self c.move_first-moved.new.tape) c.system-system.ensures.system c.move_first-moved.ensures.moved in
    let below = c.moves-test.true in
    let few = c.move_first-moved.ensures.most in
    record {
      few = omega arith;
      moved = more-moved c.args.founded.now x g.row.F table raised c.moves.made c.move_first-moved.result c.args.self.now c.moves.self c.move_first-moved.new.self c.args.tape.now c.moves.tape c.move_first-moved.new.tape c.moves.invariant.moved next;
      compared = subst (λ (s : Spec). AreTablesCompared s g.row.F table raised c.args.tables.now c.move_first-moved.new.marks) c.system-system.ensures.system c.move_first-moved.ensures.compared;
    }

pub returns-then-moved-eq0-clause-moved : goal.returns-then-moved-eq0-clause-moved
returns-then-moved-eq0-clause-moved g c =
    let x = g.O.Oracle.x c.args.oracle.now in
    let table = g.O.Oracle.table c.args.oracle.now in
    let raised = g.O.Oracle.raised c.args.oracle.now in
    let next = subst (λ (s : Spec). MovesOn s x g.row.F table raised c.move_first-moved.result c.moves.self c.moves.tape c.move_first-moved.new.self c.move_first-moved.new.tape) c.system-system.ensures.system c.move_first-moved.ensures.moved in
    let none = c.if-moved-eq0.true in
    let sum : c.moves.made + c.move_first-moved.result ≡ c.moves.made = omega arith in
    subst (λ n. MovesOn c.args.founded.now x g.row.F table raised n c.args.self.now c.args.tape.now c.move_first-moved.new.self c.move_first-moved.new.tape) sum
    (more-moved c.args.founded.now x g.row.F table raised c.moves.made c.move_first-moved.result c.args.self.now c.moves.self c.move_first-moved.new.self c.args.tape.now c.moves.tape c.move_first-moved.new.tape c.moves.invariant.moved next)
