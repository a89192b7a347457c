use Rattle.session_pool.specs.Pool.{ending_at}
use Rattle.pool_command.specs.Pages.{status_by}
use Rattle.pool_command.proofs.Appending.{no-status, status-more}
use Rattle.pool_command.proofs.pages.first_status.Goals as goal

pub loop-number-init : goal.loop-number-init
loop-number-init c = no-status (λ number. status_by (ending_at c.args.pool.now number))

pub loop-number-preserved : goal.loop-number-preserved
loop-number-preserved c = status-more (λ number. status_by (ending_at c.args.pool.now number)) c.loop-number.number c.loop-number.status c.status_at.result c.first_of-status.result c.loop-number.invariant c.status_at.ensures c.first_of-status.ensures
