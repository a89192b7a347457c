use Rattle.std.proofs.Common.{◌++◌, take, ◌∙◌, subst, arith}
use Rattle.std.proofs.lemmas.List.{take_all}
use Rattle.session_pool.specs.Interleaving.{shared_setting}
use Rattle.pool_command.specs.Schedule.{drawings_named}
use Rattle.pool_command.specs.UnderWay.{moment, IsPoolRunning}
use Rattle.pool_command.proofs.Orders.{named-more}
use Rattle.pool_command.proofs.Results.{on-err}
use Rattle.pool_command.proofs.running.follow.Goals as goal

-- it was broken off
pub returns-in_err-ask-clause-broken : goal.returns-in_err-ask-clause-broken
returns-in_err-ask-clause-broken g c = on-err c.from_residual.result (λ b asked p. c.in_err-ask.ensures.broken b (asked ++ drawings_named c.args.count (take c.loop-byte.byte-index c.args.schedule.now)) (c.loop-byte.invariant.under_way b asked p))

-- the bytes are used up
pub returns-clause-under_way : goal.returns-clause-under_way
returns-clause-under_way g c = λ b asked p. subst (λ bytes. IsPoolRunning b (asked ++ drawings_named c.args.count bytes) (moment (shared_setting (g.O.Oracle.spec c.loop-byte.oracle) (g.O.Oracle.x c.loop-byte.oracle) g.row.F (g.O.Oracle.table c.loop-byte.oracle) (g.S.Shelf.content c.loop-byte.shelf)) (g.S.Shelf.faults c.loop-byte.shelf) (g.O.Oracle.cost c.loop-byte.oracle) (g.O.Oracle.raised c.loop-byte.oracle) c.loop-byte.steps c.loop-byte.pool) c.loop-byte.order.items) (take_all c.loop-byte.byte-index c.args.schedule.now (omega arith)) (c.loop-byte.invariant.under_way b asked p)

-- the drawing of one more byte was asked
pub loop-byte-preserved : goal.loop-byte-preserved
loop-byte-preserved g c =
    let inv = c.loop-byte.invariant in
    record {
      can = c.ask.ensures.can;
      content = c.ask.ensures.content ∙ inv.content;
      counts = λ name. let one = inv.counts name in let two = c.ask.ensures.counts name in omega (arith, one, two);
      under_way = λ b asked p. subst (λ a. IsPoolRunning b a (moment (shared_setting (g.O.Oracle.spec c.ask.new.oracle) (g.O.Oracle.x c.ask.new.oracle) g.row.F (g.O.Oracle.table c.ask.new.oracle) (g.S.Shelf.content c.ask.new.shelf)) (g.S.Shelf.faults c.ask.new.shelf) (g.O.Oracle.cost c.ask.new.oracle) (g.O.Oracle.raised c.ask.new.oracle) c.ask.new.steps c.ask.new.pool) c.ask.new.order.items) (named-more asked c.args.count c.args.schedule.now c.loop-byte.byte-index c.from.result _ (omega arith) c.from.ensures)
          (c.in_ok-ask.ensures.under_way b (asked ++ drawings_named c.args.count (take c.loop-byte.byte-index c.args.schedule.now)) (inv.under_way b asked p));
    }
