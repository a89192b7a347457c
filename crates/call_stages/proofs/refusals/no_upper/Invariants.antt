use Rattle.std.proofs.Common.{◌≡◌, ◌++◌, ◌*◌, length, take}
use Rattle.std.specs.Prelude.{flat_map}
use Rattle.newton_upper.specs.Candidates.{candidate_count}
use Rattle.call_stages.specs.Refusals.{no_upper_line, proposal_line}
use Rattle.call_stages.proofs.refusals.no_upper.Given as goal

-- the lines of the proposals so far are told
abbrev pub invariant-loop-proposal : goal.invariant-loop-proposal
invariant-loop-proposal g l = l.text.items ≡ no_upper_line (6 * candidate_count g.row.F) (length l.proposals) ++ flat_map (proposal_line l.system) (take l.proposal-index l.proposals)
