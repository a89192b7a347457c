use Rattle.std.proofs.Common.{◌≡◌, ◌+◌, ◌*◌, ◌≤◌, length, map, None, vec_len}
use Rattle.class_system.specs.Each.{Each}
use Rattle.rounded_map.specs.RoundedMap.{setting}
use Rattle.newton_upper.specs.BaseRule.{proposal, fixed_proposal, IsTrial}
use Rattle.newton_upper.specs.Below.{those_below, first_below}
use Rattle.newton_upper.specs.Newton.{newton_step, newton_at}
use Rattle.newton_upper.specs.declared.trials.Trial.{Trial}
use Rattle.newton_upper.proofs.search.search_proposals.Given as goal

-- the trials are the proposals so far, none of which is post-fixed, and the next step starts from y
abbrev pub invariant-loop-i : goal.invariant-loop-i
invariant-loop-i g l = record {
  room : vec_len l.nodes ≡ length l.system.nodes;
  one_per_class : length l.y ≡ length l.system.bodies;
  next : newton_step (setting l.system l.x.num l.x.den g.row.F) l.y ≡ newton_at (setting l.system l.x.num l.x.den g.row.F) l._i;
  in_order : map (λ (trial : Trial). trial.values) l.trials ≡ those_below (proposal (setting l.system l.x.num l.x.den g.row.F)) l._i;
  each : Each (IsTrial (setting l.system l.x.num l.x.den g.row.F)) l.trials;
  none : first_below (fixed_proposal (setting l.system l.x.num l.x.den g.row.F)) l._i ≡ None;
  ticks : l.steps ≤ l.fn.steps + l._i * (length l.system.bodies + 3);
}
