use Rattle.std.proofs.Common.{◌≡◌, ◌+◌, ◌^◌, ◌≤◌, None}
use Rattle.rounded_map.specs.RoundedMap.{setting}
use Rattle.newton_upper.specs.Below.{first_below}
use Rattle.newton_upper.specs.Candidates.{candidate}
use Rattle.newton_upper.proofs.candidates.first_candidate.Given as goal

-- none of the candidates so far is post-fixed, and each cost at most a tick
abbrev pub invariant-loop-j : goal.invariant-loop-j
invariant-loop-j g l = record {
  none : first_below (candidate (setting l.system l.x.num l.x.den g.row.F) l.y l.dual) l._j ≡ None;
  factor : l.factor ≡ 4 ^ l._j;
  ticks : l.steps ≤ l.initial.steps + l._j;
}
