use Rattle.std.proofs.Common.{◌≡◌}
use Rattle.session_pool.specs.Pool.{ending_at}
use Rattle.pool_command.specs.PoolCommand as printed
use Rattle.pool_command.specs.Pages.{status_by}
use Rattle.pool_command.proofs.pages.first_status.Given as goal

-- the status so far is the first that isn't Done
abbrev pub invariant-loop-number : goal.invariant-loop-number
invariant-loop-number l = l.status ≡ printed.first_status (λ number. status_by (ending_at l.pool number)) l.number
