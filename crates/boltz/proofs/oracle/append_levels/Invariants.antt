use Rattle.std.proofs.Common.{◌≡◌, ◌+◌, ◌≤◌, ◌++◌}
use Rattle.oracle_memo.specs.Levels.{cost_at}
use Rattle.rounded_map.specs.RoundedMap.{setting}
use Rattle.boltz.specs.OracleCommand.{level_after}
use Rattle.call_stages.specs.Lines.{lines_below}
use Rattle.boltz.proofs.oracle.append_levels.Given as goal

-- so many levels are raised, and their lines are appended
abbrev pub invariant-loop-before : goal.invariant-loop-before
invariant-loop-before g l = record {
  same : l.memo ≡ record l.initial.memo { raised = l.before };
  told : l.text.items ≡ l.initial.text.items ++ lines_below (level_after (setting l.system l.initial.memo.num l.initial.memo.den g.row.F) l.initial.memo.base) l.before;
  ticks : l.steps ≤ l.initial.steps + cost_at l.before;
}
