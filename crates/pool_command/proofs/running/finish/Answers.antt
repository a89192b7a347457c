use Rattle.std.proofs.Common.{◌<◌, ◌++◌, true, false, refl, sym, ◌∙◌, subst, arith}
use Rattle.std.specs.Prelude.{replicate}
use Rattle.session_pool.specs.Interleaving.{shared_setting}
use Rattle.pool_command.specs.UnderWay.{moment}
use Rattle.pool_command.proofs.Orders.{finish-start, finish-more, finish-end, going-at, ended-at, none-by, fewer-left}
use Rattle.pool_command.proofs.Results.{on-err}
use Rattle.pool_command.proofs.running.finish.Goals as goal

-- it wasn't asked yet
pub turns-init : goal.turns-init
turns-init g c = record {
  can = c.requires.can;
  content = refl;
  counts = λ name. omega arith;
  others = λ other differs. refl;
  under_way = λ b asked p. finish-start b asked (moment (shared_setting (g.O.Oracle.spec c.args.oracle.now) (g.O.Oracle.x c.args.oracle.now) g.row.F (g.O.Oracle.table c.args.oracle.now) (g.S.Shelf.content c.args.shelf.now)) (g.S.Shelf.faults c.args.shelf.now) (g.O.Oracle.cost c.args.oracle.now) (g.O.Oracle.raised c.args.oracle.now) c.args.steps.now c.args.pool.now) c.args.order.now.items c.args.number p;
}

-- a turn less is left
pub turns-smaller : goal.turns-smaller
turns-smaller g c =
    let inv = c.turns.invariant in
    fewer-left c.args.founded.now (g.O.Oracle.x c.turns.oracle) c.turns.pool c.ask.new.pool c.args.number inv.can.drawings c.in_ok-ask.ensures.asked
    (going-at c.turns.pool c.args.number c.result.result.ending c.result.ensures.ending (none-by c.result.result.ending c.is_none.result true c.is_none.ensures c.turns-test.true))
    (subst (λ n. c.args.number < n) (sym inv.can.number) c.requires.number)

-- it was asked once more
pub turns-preserved : goal.turns-preserved
turns-preserved g c =
    let inv = c.turns.invariant in
    record {
      can = c.ask.ensures.can;
      content = c.ask.ensures.content ∙ inv.content;
      counts = λ name. let one = inv.counts name in let two = c.ask.ensures.counts name in omega (arith, one, two);
      others = λ other differs. c.in_ok-ask.ensures.asked.others other differs ∙ inv.others other differs;
      under_way = λ b asked p.
          let f = inv.under_way b asked p in
          finish-more b asked (moment (shared_setting (g.O.Oracle.spec c.turns.oracle) (g.O.Oracle.x c.turns.oracle) g.row.F (g.O.Oracle.table c.turns.oracle) (g.S.Shelf.content c.turns.shelf)) (g.S.Shelf.faults c.turns.shelf) (g.O.Oracle.cost c.turns.oracle) (g.O.Oracle.raised c.turns.oracle) c.turns.steps c.turns.pool) (moment (shared_setting (g.O.Oracle.spec c.ask.new.oracle) (g.O.Oracle.x c.ask.new.oracle) g.row.F (g.O.Oracle.table c.ask.new.oracle) (g.S.Shelf.content c.ask.new.shelf)) (g.S.Shelf.faults c.ask.new.shelf) (g.O.Oracle.cost c.ask.new.oracle) (g.O.Oracle.raised c.ask.new.oracle) c.ask.new.steps c.ask.new.pool) c.turns.order.items c.ask.new.order.items c.args.number f c.in_ok-ask.ensures.asked
          (c.in_ok-ask.ensures.under_way b (asked ++ replicate f.0 c.args.number) f.1)
          (subst (λ n. c.args.number < n) (sym inv.can.number) c.requires.number)
          (going-at c.turns.pool c.args.number c.result.result.ending c.result.ensures.ending (none-by c.result.result.ending c.is_none.result true c.is_none.ensures c.turns-test.true));
    }

-- it was broken off
pub returns-in_err-ask-clause-broken : goal.returns-in_err-ask-clause-broken
returns-in_err-ask-clause-broken g c = on-err c.from_residual.result (λ b asked p. let f = c.turns.invariant.under_way b asked p in c.in_err-ask.ensures.broken b (asked ++ replicate f.0 c.args.number) f.1)

-- it has ended
pub returns-clause-under_way : goal.returns-clause-under_way
returns-clause-under_way g c = λ b asked p.
    let inv = c.turns.invariant in
    finish-end b asked (moment (shared_setting (g.O.Oracle.spec c.turns.oracle) (g.O.Oracle.x c.turns.oracle) g.row.F (g.O.Oracle.table c.turns.oracle) (g.S.Shelf.content c.turns.shelf)) (g.S.Shelf.faults c.turns.shelf) (g.O.Oracle.cost c.turns.oracle) (g.O.Oracle.raised c.turns.oracle) c.turns.steps c.turns.pool) c.turns.order.items c.args.number (inv.under_way b asked p)
    (ended-at c.turns.pool c.args.number c.result.result.ending c.result.ensures.ending (subst (λ n. c.args.number < n) (sym inv.can.number) c.requires.number) (none-by c.result.result.ending c.is_none.result false c.is_none.ensures c.turns-test.false))

pub returns-clause-finished : goal.returns-clause-finished
returns-clause-finished g c =
    let inv = c.turns.invariant in
    record {
      ended = ended-at c.turns.pool c.args.number c.result.result.ending c.result.ensures.ending (subst (λ n. c.args.number < n) (sym inv.can.number) c.requires.number) (none-by c.result.result.ending c.is_none.result false c.is_none.ensures c.turns-test.false);
      others = inv.others;
    }
