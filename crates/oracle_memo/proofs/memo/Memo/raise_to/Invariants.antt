use Rattle.std.proofs.Common.{◌≡◌, ◌+◌, ◌≤◌, max}
use Rattle.oracle_memo.specs.Levels.{cost_at}
use Rattle.oracle_memo.proofs.memo.Memo.raise_to.Given as goal

-- so many levels are raised, nothing else is changed, and the ticks are those that raising costs
abbrev pub invariant-loop-level : goal.invariant-loop-level
invariant-loop-level g l = record {
  same : l.self ≡ record l.initial.self { raised = l._level };
  within : l._level ≤ max l.initial.self.raised l.level;
  ticks : l.steps + cost_at l.initial.self.raised ≡ l.initial.steps + cost_at l._level;
}
