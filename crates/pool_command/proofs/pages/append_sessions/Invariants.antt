use Rattle.pool_command.specs.Pages.{AreAppended}
use Rattle.pool_command.proofs.pages.append_sessions.Given as goal

-- the lines of the drawings so far are appended
abbrev pub invariant-loop-number : goal.invariant-loop-number
invariant-loop-number l = AreAppended l.founded l.pool l.number l.initial.text.items l.text.items
