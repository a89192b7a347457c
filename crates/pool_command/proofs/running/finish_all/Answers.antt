use Rattle.std.proofs.Common.{◌≡◌, refl, sym, ◌∙◌, subst, arith}
use Rattle.session_pool.specs.Interleaving.{shared_setting}
use Rattle.pool_command.specs.Schedule.{all_asked}
use Rattle.pool_command.specs.UnderWay.{moment, asked_by, IsPoolRunning}
use Rattle.pool_command.proofs.Orders.{asked-none, all-more, ended-more}
use Rattle.pool_command.proofs.Results.{on-err}
use Rattle.pool_command.proofs.running.finish_all.Goals as goal

-- no drawing was asked yet
pub loop-number-init : goal.loop-number-init
loop-number-init g c = record {
  can = c.requires.can;
  content = refl;
  counts = λ name. omega arith;
  ended = λ number few. absurd (omega (arith, few));
  under_way = λ b asked p. subst (λ a. IsPoolRunning b a (moment (shared_setting (g.O.Oracle.spec c.args.oracle.now) (g.O.Oracle.x c.args.oracle.now) g.row.F (g.O.Oracle.table c.args.oracle.now) (g.S.Shelf.content c.args.shelf.now)) (g.S.Shelf.faults c.args.shelf.now) (g.O.Oracle.cost c.args.oracle.now) (g.O.Oracle.raised c.args.oracle.now) c.args.steps.now c.args.pool.now) c.args.order.now.items) (sym (asked-none (asked_by c.args.pool.now) asked)) p;
}

-- one more has ended
pub loop-number-preserved : goal.loop-number-preserved
loop-number-preserved g c =
    let inv = c.loop-number.invariant in
    record {
      can = c.finish.ensures.can;
      content = c.finish.ensures.content ∙ inv.content;
      counts = λ name. let one = inv.counts name in let two = c.finish.ensures.counts name in omega (arith, one, two);
      ended = ended-more c.loop-number.pool c.finish.new.pool c.loop-number.number c.in_ok-finish.ensures.finished inv.ended;
      under_way = λ b asked p. all-more b asked c.loop-number.pool (moment (shared_setting (g.O.Oracle.spec c.finish.new.oracle) (g.O.Oracle.x c.finish.new.oracle) g.row.F (g.O.Oracle.table c.finish.new.oracle) (g.S.Shelf.content c.finish.new.shelf)) (g.S.Shelf.faults c.finish.new.shelf) (g.O.Oracle.cost c.finish.new.oracle) (g.O.Oracle.raised c.finish.new.oracle) c.finish.new.steps c.finish.new.pool) c.finish.new.order.items c.loop-number.number c.in_ok-finish.ensures.finished (c.in_ok-finish.ensures.under_way b (all_asked (asked_by c.loop-number.pool) asked c.loop-number.number) (inv.under_way b asked p));
    }

-- it was broken off
pub returns-in_err-finish-clause-broken : goal.returns-in_err-finish-clause-broken
returns-in_err-finish-clause-broken g c = on-err c.from_residual.result (λ b asked p. c.in_err-finish.ensures.broken b (all_asked (asked_by c.loop-number.pool) asked c.loop-number.number) (c.loop-number.invariant.under_way b asked p))

-- all have ended
pub returns-clause-under_way : goal.returns-clause-under_way
returns-clause-under_way g c = λ b asked p.
    let all : c.loop-number.number ≡ c.args.count = omega arith in
    subst (λ k. IsPoolRunning b (all_asked (asked_by c.loop-number.pool) asked k) (moment (shared_setting (g.O.Oracle.spec c.loop-number.oracle) (g.O.Oracle.x c.loop-number.oracle) g.row.F (g.O.Oracle.table c.loop-number.oracle) (g.S.Shelf.content c.loop-number.shelf)) (g.S.Shelf.faults c.loop-number.shelf) (g.O.Oracle.cost c.loop-number.oracle) (g.O.Oracle.raised c.loop-number.oracle) c.loop-number.steps c.loop-number.pool) c.loop-number.order.items) all (c.loop-number.invariant.under_way b asked p)
