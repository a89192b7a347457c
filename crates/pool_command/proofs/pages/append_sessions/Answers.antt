use Rattle.std.proofs.Common.{◌≡◌, arith, subst}
use Rattle.pool_command.specs.Pages.{AreAppended}
use Rattle.pool_command.proofs.Appending.{none-appended, one-appended}
use Rattle.pool_command.proofs.pages.append_sessions.Goals as goal

pub loop-number-init : goal.loop-number-init
loop-number-init c = none-appended c.args.founded.now c.args.pool.now c.args.text.now.items

-- the lines of one more drawing are appended
pub loop-number-preserved : goal.loop-number-preserved
loop-number-preserved c =
    let one = c.in_ok-append_session.ensures in
    one-appended c.args.founded.now c.args.pool.now c.loop-number.number c.args.text.now.items c.loop-number.text.items c.append_session.new.text.items one.0 c.loop-number.invariant one.1 one.2

-- all are
pub returns : goal.returns
returns c =
    let all : c.loop-number.number ≡ c.args.count = omega arith in
    subst (λ n. AreAppended c.args.founded.now c.args.pool.now n c.args.text.now.items c.loop-number.text.items) all c.loop-number.invariant
