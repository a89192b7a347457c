use Rattle.std.proofs.Common.{◌≡◌, ◌+◌, ◌*◌, ◌≤◌, length, None, vec_len}
use Rattle.rounded_map.specs.RoundedMap.{setting}
use Rattle.newton_upper.specs.Below.{first_below}
use Rattle.newton_upper.specs.Candidates.{round_base, swept_down, sweeps_after, candidate_count}
use Rattle.newton_upper.proofs.candidates.search_candidates.Given as goal

-- no candidate of the rounds so far is post-fixed
abbrev pub invariant-loop-rounds : goal.invariant-loop-rounds
invariant-loop-rounds g l = record {
  room : vec_len l.nodes ≡ length l.system.nodes;
  lower : l.lower ≡ swept_down (setting l.system l.x.num l.x.den g.row.F) (sweeps_after l.rounds);
  none : first_below (round_base (setting l.system l.x.num l.x.den g.row.F)) l.rounds ≡ None;
  ticks : l.steps ≤ l.fn.steps + (3 * sweeps_after l.rounds + candidate_count g.row.F * l.rounds);
}
