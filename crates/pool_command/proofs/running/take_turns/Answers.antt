use Rattle.std.proofs.Common.{[]}
use Rattle.session_pool.specs.Interleaving.{shared_setting}
use Rattle.pool_command.specs.Schedule.{drawings_named}
use Rattle.pool_command.specs.UnderWay.{moment}
use Rattle.pool_command.proofs.Orders.{starts-under-way}
use Rattle.pool_command.proofs.Results.{on-err}
use Rattle.pool_command.proofs.running.take_turns.Goals as goal

-- it was broken off in the schedule
pub returns-in_err-follow-clause-broken : goal.returns-in_err-follow-clause-broken
returns-in_err-follow-clause-broken g c = on-err c.from_residual.result (λ b p. c.in_err-follow.ensures.broken b [] (starts-under-way b (moment (shared_setting (g.O.Oracle.spec c.args.oracle.now) (g.O.Oracle.x c.args.oracle.now) g.row.F (g.O.Oracle.table c.args.oracle.now) (g.S.Shelf.content c.args.shelf.now)) (g.S.Shelf.faults c.args.shelf.now) (g.O.Oracle.cost c.args.oracle.now) (g.O.Oracle.raised c.args.oracle.now) c.args.steps.now c.args.pool.now) c.new-order.result.items p c.new-order.ensures.items))

-- or after it
pub returns-in_err-finish_all-clause-broken : goal.returns-in_err-finish_all-clause-broken
returns-in_err-finish_all-clause-broken g c = on-err c.from_residual-in_err-finish_all.result (λ b p. c.in_err-finish_all.ensures.broken b (drawings_named c.args.count c.args.schedule.now) (c.in_ok-follow.ensures.under_way b [] (starts-under-way b (moment (shared_setting (g.O.Oracle.spec c.args.oracle.now) (g.O.Oracle.x c.args.oracle.now) g.row.F (g.O.Oracle.table c.args.oracle.now) (g.S.Shelf.content c.args.shelf.now)) (g.S.Shelf.faults c.args.shelf.now) (g.O.Oracle.cost c.args.oracle.now) (g.O.Oracle.raised c.args.oracle.now) c.args.steps.now c.args.pool.now) c.new-order.result.items p c.new-order.ensures.items)))

-- all have ended
pub returns-clause-ended : goal.returns-clause-ended
returns-clause-ended g c = λ b p. record {
  under_way = c.in_ok-finish_all.ensures.under_way b (drawings_named c.args.count c.args.schedule.now) (c.in_ok-follow.ensures.under_way b [] (starts-under-way b (moment (shared_setting (g.O.Oracle.spec c.args.oracle.now) (g.O.Oracle.x c.args.oracle.now) g.row.F (g.O.Oracle.table c.args.oracle.now) (g.S.Shelf.content c.args.shelf.now)) (g.S.Shelf.faults c.args.shelf.now) (g.O.Oracle.cost c.args.oracle.now) (g.O.Oracle.raised c.args.oracle.now) c.args.steps.now c.args.pool.now) c.new-order.result.items p c.new-order.ensures.items));
  ended = c.in_ok-finish_all.ensures.ended;
}
