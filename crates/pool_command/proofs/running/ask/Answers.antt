use Rattle.std.proofs.Common.{◌<◌, [], ◌∷◌, ◌++◌, sym, ◌∙◌, subst}
use Rattle.session_pool.specs.Interleaving.{shared_setting}
use Rattle.pool_command.specs.UnderWay.{moment, IsPoolRunning}
use Rattle.pool_command.proofs.Orders.{order-same, order-more, broken-by}
use Rattle.pool_command.proofs.Results.{on-err}
use Rattle.pool_command.proofs.running.ask.Goals as goal

-- the turn had no memory
pub returns-in_err-turn_once-clause-broken : goal.returns-in_err-turn_once-clause-broken
returns-in_err-turn_once-clause-broken g c = on-err c.from_residual.result (λ b asked p. broken-by b asked (moment (shared_setting (g.O.Oracle.spec c.turn_once.new.oracle) (g.O.Oracle.x c.turn_once.new.oracle) g.row.F (g.O.Oracle.table c.turn_once.new.oracle) (g.S.Shelf.content c.turn_once.new.shelf)) (g.S.Shelf.faults c.turn_once.new.shelf) (g.O.Oracle.cost c.turn_once.new.oracle) (g.O.Oracle.raised c.turn_once.new.oracle) c.turn_once.new.steps c.turn_once.new.pool) (c.in_err-turn_once.ensures.no_memory b asked p.so_far))

-- its number wasn't noted
pub returns-in_err-push-clause-broken : goal.returns-in_err-push-clause-broken
returns-in_err-push-clause-broken g c = on-err c.from_residual-in_err-push.result (λ b asked p. broken-by b (asked ++ c.args.number ∷ []) (moment (shared_setting (g.O.Oracle.spec c.turn_once.new.oracle) (g.O.Oracle.x c.turn_once.new.oracle) g.row.F (g.O.Oracle.table c.turn_once.new.oracle) (g.S.Shelf.content c.turn_once.new.shelf)) (g.S.Shelf.faults c.turn_once.new.shelf) (g.O.Oracle.cost c.turn_once.new.oracle) (g.O.Oracle.raised c.turn_once.new.oracle) c.turn_once.new.steps c.turn_once.new.pool) (c.in_ok-turn_once.ensures.so_far b asked p.so_far))

-- the drawing ended
pub returns-in_ok-push-clause-under_way : goal.returns-in_ok-push-clause-under_way
returns-in_ok-push-clause-under_way g c = λ b asked p.
    let within = subst (λ n. c.args.number < n) (sym c.requires.can.number) c.requires.number in
    subst (IsPoolRunning b (asked ++ c.args.number ∷ []) (moment (shared_setting (g.O.Oracle.spec c.turn_once.new.oracle) (g.O.Oracle.x c.turn_once.new.oracle) g.row.F (g.O.Oracle.table c.turn_once.new.oracle) (g.S.Shelf.content c.turn_once.new.shelf)) (g.S.Shelf.faults c.turn_once.new.shelf) (g.O.Oracle.cost c.turn_once.new.oracle) (g.O.Oracle.raised c.turn_once.new.oracle) c.turn_once.new.steps c.turn_once.new.pool)) (sym c.in_ok-push.ensures.items)
    (order-more b asked (moment (shared_setting (g.O.Oracle.spec c.args.oracle.now) (g.O.Oracle.x c.args.oracle.now) g.row.F (g.O.Oracle.table c.args.oracle.now) (g.S.Shelf.content c.args.shelf.now)) (g.S.Shelf.faults c.args.shelf.now) (g.O.Oracle.cost c.args.oracle.now) (g.O.Oracle.raised c.args.oracle.now) c.args.steps.now c.args.pool.now) (moment (shared_setting (g.O.Oracle.spec c.turn_once.new.oracle) (g.O.Oracle.x c.turn_once.new.oracle) g.row.F (g.O.Oracle.table c.turn_once.new.oracle) (g.S.Shelf.content c.turn_once.new.shelf)) (g.S.Shelf.faults c.turn_once.new.shelf) (g.O.Oracle.cost c.turn_once.new.oracle) (g.O.Oracle.raised c.turn_once.new.oracle) c.turn_once.new.steps c.turn_once.new.pool) c.args.order.now.items c.args.number p c.in_ok-turn_once.ensures.asked (c.in_ok-turn_once.ensures.so_far b asked p.so_far) within (sym c.if-branch.true ∙ c.in_ok-turn_once.ensures.ends))

-- it goes on, or had ended
pub returns-else-branch-clause-under_way : goal.returns-else-branch-clause-under_way
returns-else-branch-clause-under_way g c = λ b asked p.
    let within = subst (λ n. c.args.number < n) (sym c.requires.can.number) c.requires.number in
    order-same b asked (moment (shared_setting (g.O.Oracle.spec c.args.oracle.now) (g.O.Oracle.x c.args.oracle.now) g.row.F (g.O.Oracle.table c.args.oracle.now) (g.S.Shelf.content c.args.shelf.now)) (g.S.Shelf.faults c.args.shelf.now) (g.O.Oracle.cost c.args.oracle.now) (g.O.Oracle.raised c.args.oracle.now) c.args.steps.now c.args.pool.now) (moment (shared_setting (g.O.Oracle.spec c.turn_once.new.oracle) (g.O.Oracle.x c.turn_once.new.oracle) g.row.F (g.O.Oracle.table c.turn_once.new.oracle) (g.S.Shelf.content c.turn_once.new.shelf)) (g.S.Shelf.faults c.turn_once.new.shelf) (g.O.Oracle.cost c.turn_once.new.oracle) (g.O.Oracle.raised c.turn_once.new.oracle) c.turn_once.new.steps c.turn_once.new.pool) c.args.order.now.items c.args.number p c.in_ok-turn_once.ensures.asked (c.in_ok-turn_once.ensures.so_far b asked p.so_far) within (sym c.if-branch.false ∙ c.in_ok-turn_once.ensures.ends)
