-- The base: the first candidate that is post-fixed or, where none is, the first such proposal.
use Rattle.std.specs.Prelude.{◌≡◌, ℕ, suc, ◌+◌, ◌*◌, ◌^◌, List, map, length, is_some, Option, None}
use Rattle.std.specs.Prelude.{option_map, unwrap_or, if◌then◌else◌}
use Rattle.class_system.specs.Each.{Each}
use Rattle.rounded_map.specs.RoundedMap.{Setting, values_up, bodies_up, IsFirstAbove}
use Rattle.newton_upper.specs.Below.{or_else, those_below, first_below}
use Rattle.newton_upper.specs.Candidates.{if_post_fixed, candidate_count, round_base}
use Rattle.newton_upper.specs.Candidates.{candidate_base}
use Rattle.newton_upper.specs.Newton.{newton_at}
use Rattle.newton_upper.specs.declared.newton.Newton.{Newton}
use Rattle.newton_upper.specs.declared.trials.Trial.{Trial}
use Rattle.newton_upper.specs.declared.search.UpperFault.{UpperFault}
use Rattle.newton_upper.specs.declared.search.UpperFault.TheVariants.{NoUpper, OutOfMemory}

-- The proposal of the step after so many.
unfoldable pub proposal : Setting → (steps : ℕ) → Option (List ℕ)
proposal t i = option_map (λ (n : Newton). n.proposal) (newton_at t i)

-- The proposals: at most 16, up to the first step that has none.
unfoldable pub proposals : Setting → List (List ℕ)
proposals t = those_below (proposal t) 16

-- The proposal of the step after so many, where it is post-fixed.
unfoldable pub fixed_proposal : Setting → (steps : ℕ) → Option (List ℕ)
fixed_proposal t i = if_post_fixed t (proposal t i)

-- The first post-fixed proposal.
unfoldable pub proposed_base : Setting → Option (List ℕ)
proposed_base t = first_below (fixed_proposal t) 16

-- The base, where there is one.
unfoldable pub base_of : Setting → Option (List ℕ)
base_of t = or_else (candidate_base t) (proposed_base t)

-- A trial is a vector that isn't post-fixed, with the least class that fails and its body's value.
abbrev pub IsTrial : Setting → Trial → Type 0
IsTrial t trial =
    IsFirstAbove (bodies_up t (values_up t trial.values)) trial.values trial.class_id.0 trial.got

-- The base rule gives no base, and the trials are its proposals in order.
pub record HasNoUpper (t : Setting) (trials : List Trial) : Type 0 where
  pub no_base : base_of t ≡ None
  pub in_order : map (λ trial. trial.values) trials ≡ proposals t
  pub each : Each (IsTrial t) trials

-- What a fault of the search tells; want of memory tells nothing.
abbrev pub TellsNoUpper : Setting → UpperFault → Type 0
TellsNoUpper t (NoUpper trials) = HasNoUpper t trials
TellsNoUpper t OutOfMemory = Unit {0}

-- The round in which a candidate is post-fixed, and 6 where none is.
unfoldable pub last_round : Setting → ℕ
last_round t = unwrap_or (first_below (λ r. option_map (λ v. suc r) (round_base t r)) 6) 6

-- What the rounds up to one cost at most, in ticks.
abbrev pub round_ticks : (bits round : ℕ) → ℕ
round_ticks bits round = 3 * 4 ^ round + candidate_count bits * round

-- What the Newton steps cost at most, where no candidate is post-fixed.
abbrev pub newton_ticks : Setting → ℕ
newton_ticks t = if is_some (candidate_base t) then 0 else 16 * (length t.spec.bodies + 3)

-- What the search costs at most.
unfoldable pub most_ticks : Setting → ℕ
most_ticks t = round_ticks t.bits (last_round t) + newton_ticks t
