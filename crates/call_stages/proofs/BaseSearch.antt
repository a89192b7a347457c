-- The search for a base: what ends a call, and what follows a base.
use Rattle.std.proofs.Common.{◌≡◌, ℕ, ◌+◌, ◌≤◌, List, [], arith, refl, ap, ◌∙◌}
use Rattle.std.specs.Prelude.{Option, Some}
use Rattle.newton_upper.specs.BaseRule.{base_of, HasNoUpper, most_ticks}
use Rattle.newton_upper.specs.declared.trials.Trial.{Trial}
use Rattle.rounded_map.specs.RoundedMap.{Setting}
use Rattle.call_stages.specs.Ends.{output, EndsBy}
use Rattle.call_stages.specs.Ends as ends
use Rattle.call_stages.specs.Outcomes.{Outcome, Never, Says}
use Rattle.call_stages.specs.Refusals.{no_upper_text}
use Rattle.call_stages.specs.Reports.{refusal_status, refusal_text}
use Rattle.call_stages.specs.Stages.{Based}
use Rattle.call_stages.specs.Stages as stages
use Rattle.call_stages.specs.declared.report.Refusal.{Refusal}
use Rattle.call_stages.specs.declared.report.Refusal.TheVariants as refusal
use Rattle.call_stages.specs.declared.status.Status.{Status}
use Rattle.call_stages.proofs.Endings.{ends_on, no_front}
use Rattle.call_stages.proofs.Staging.{says-nothing}

-- there is no base, which the proposals show
pub no_base : (t : Setting) (trials : List Trial) (status : Status) (text : List ℕ) → HasNoUpper t trials → Says Status.NoUpper (no_upper_text t.spec t.bits trials) 0 status text 0 → Based t (λ base. Never) status text (most_ticks t)
no_base t trials status text lacks says = stages.no_base trials lacks (record { status_is = says.status_is; text_is = says.text_is; ticks_are = refl })

pub base_lacks_memory : (t : Setting) (e : Refusal) → e ≡ refusal.OutOfMemory → Based t (λ base. Never) (refusal_status e) (refusal_text e) (most_ticks t)
base_lacks_memory t e is = stages.no_memory (says-nothing (most_ticks t) e is)

-- a search that ended the call, whatever would have come next
pub ended_by_search : (t : Setting) (next : List ℕ → Outcome) (status : Status) (text : List ℕ) (ticks : ℕ) → Based t (λ base. Never) status text ticks → Based t next status text ticks
ended_by_search t next status text ticks (stages.no_base trials lacks says) = stages.no_base trials lacks says
ended_by_search t next status text ticks (stages.no_memory says) = stages.no_memory says
ended_by_search t next status text ticks (stages.based base more is never sum) = absurd never

-- what follows a base ends the call, after the steps of the search
pub ends_from_base : (t : Setting) (next : List ℕ → Outcome) (base : List ℕ) (b a : Option (List ℕ)) (fb fa start mid end : ℕ) (result : Status) → base_of t ≡ Some base → mid ≤ start + most_ticks t → EndsBy (next base) (output b a fb fa mid end) result → EndsBy (Based t next) (output b a fb fa start end) result
ends_from_base t next base b a fb fa start mid end result is searched h = ends_on (next base) (Based t next) b a fb fa mid end start end result (λ status text ticks p. (most_ticks t + ticks, stages.based base ticks is p refl, λ few. omega (arith, searched, few))) h

-- memory ran out after the search
pub lacks_after_search : (t : Setting) (next : List ℕ → Outcome) (o : Option (List ℕ)) (fb fa tb ta : ℕ) → ta ≤ tb + most_ticks t → EndsBy (Based t next) (output o o fb fa tb ta) Status.OutOfMemory
lacks_after_search t next o fb fa tb ta few = ends.out_of_memory refl (record { text = []; ticks = most_ticks t; is = stages.no_memory (record { status_is = refl; text_is = refl; ticks_are = refl }); front = no_front o []; few = few })
