-- The stages of the command: what ends a call, and what follows.
use Rattle.std.proofs.Common.{◌≡◌, ℕ, ◌≤◌, List, [], arith, refl, subst}
use Rattle.std.specs.Prelude.{Option}
use Rattle.bz_model.specs.Spec.{Spec}
use Rattle.bz_model.specs.declared.fraction.Fraction.{Fraction}
use Rattle.bz_outside.specs.Outside.{Rose}
use Rattle.rounded_map.specs.RoundedMap.{setting}
use Rattle.size_window.specs.Drawing.{limits_of}
use Rattle.size_window.specs.declared.limits.Limits.{Limits}
use Rattle.call_stages.specs.Ends.{output, EndsBy}
use Rattle.call_stages.specs.Ends as ends
use Rattle.call_stages.specs.Outcomes.{Outcome, Never, Says, IsWithin}
use Rattle.call_stages.specs.Stages.{Files, files, AreRead, FileRead, HasFailedRead, Specified, IsSpecified, Based}
use Rattle.call_stages.specs.Stages as stages
use Rattle.call_stages.specs.declared.status.Status.{Status}
use Rattle.call_stages.proofs.Endings.{ends_as, written_on, no_front}
use Rattle.call_stages.proofs.Staging.{ended_before, goes_on_with}
use Rattle.pool_command.specs.PoolCommand.{PoolSetting, PoolDrawn, PooledOver, CarriesPool}

module _ (content : List ℕ → Option (List ℕ)) (before after : List ℕ → ℕ) (file : List ℕ) (x : Fraction) (schedule : List ℕ) (tapes : List (List ℕ)) (limits : Limits) (F : ℕ) where
  -- a specification that goes on
  pub carried-on : (between : List ℕ → Option (List ℕ)) (s : Spec) (b a : Option (List ℕ)) (fb fa tb ta : ℕ) (result : Status) → between ≡ content → IsSpecified content file s → EndsBy (Based (setting s x.num x.den F) (PooledOver (files between before after) (setting s x.num x.den F) (limits_of limits) schedule tapes)) (output b a fb fa tb ta) result → EndsBy (CarriesPool (files content before after) file x schedule tapes limits F) (output b a fb fa tb ta) result
  carried-on between s b a fb fa tb ta result same is h =
      let f = files content before after in
      ends_as (Based (setting s x.num x.den F) (PooledOver f (setting s x.num x.den F) (limits_of limits) schedule tapes)) (CarriesPool f file x schedule tapes limits F) b a fb fa tb ta result (λ status text ticks p. goes_on_with f file (λ (r : Spec). Based (setting r x.num x.den F) (PooledOver f (setting r x.num x.den F) (limits_of limits) schedule tapes)) s status text ticks is p)
      (subst (λ (k : List ℕ → Option (List ℕ)). EndsBy (Based (setting s x.num x.den F) (PooledOver (files k before after) (setting s x.num x.den F) (limits_of limits) schedule tapes)) (output b a fb fa tb ta) result) same h)

  -- what ended the call at the specification
  pub ended-there : (b a : Option (List ℕ)) (fb fa ticks : ℕ) (result said : Status) (text : List ℕ) → EndsBy (Says said text 0) (output b a fb fa 0 0) result → Specified (files content before after) file (λ s. Never) said text 0 → EndsBy (CarriesPool (files content before after) file x schedule tapes limits F) (output b a fb fa ticks ticks) result
  ended-there b a fb fa ticks result said text h p = written_on (CarriesPool (files content before after) file x schedule tapes limits F) b a fb fa ticks ticks result said text 0 h (ended_before (files content before after) file (λ (r : Spec). Based (setting r x.num x.den F) (PooledOver (files content before after) (setting r x.num x.den F) (limits_of limits) schedule tapes)) said text 0 p) (omega arith)

-- a file that was read, counted from an earlier time on
pub read-on : (content : List ℕ → Option (List ℕ)) (before after : List ℕ → ℕ) (name : List ℕ) (most : ℕ) (next : List ℕ → Outcome) (bytes : List ℕ) (b a : Option (List ℕ)) (fb fa tb ta : ℕ) (result : Status) → AreRead content name most bytes → EndsBy (next bytes) (output b a fb fa tb ta) result → EndsBy (FileRead (files content before after) name most next) (output b a fb fa tb ta) result
read-on content before after name most next bytes b a fb fa tb ta result are h = ends_as (next bytes) (FileRead (files content before after) name most next) b a fb fa tb ta result (λ status text ticks p. stages.read bytes are p) h

-- a failed read has failed from an earlier time on
rose-earlier : (first before after : ℕ) → first ≤ before → Rose before after → Rose first after
rose-earlier first before after below rose = omega (arith, below, rose)

read-earlier : (content : List ℕ → Option (List ℕ)) (first before after : List ℕ → ℕ) (name : List ℕ) (most : ℕ) (next : List ℕ → Outcome) (status : Status) (text : List ℕ) (ticks : ℕ) → first name ≤ before name → FileRead (files content before after) name most (λ bytes. Never) status text ticks → FileRead (files content first after) name most next status text ticks
read-earlier content first before after name most next status text ticks below (stages.failed rose says) = stages.failed (rose-earlier (first name) (before name) (after name) below rose) says
read-earlier content first before after name most next status text ticks below (stages.no_memory says) = stages.no_memory says
read-earlier content first before after name most next status text ticks below (stages.read bytes are never) = absurd never

-- what ended the call at a file
pub read-ended : (content : List ℕ → Option (List ℕ)) (first before after : List ℕ → ℕ) (name : List ℕ) (most : ℕ) (next : List ℕ → Outcome) (b a : Option (List ℕ)) (fb fa ticks : ℕ) (result said : Status) (text : List ℕ) → first name ≤ before name → EndsBy (Says said text 0) (output b a fb fa 0 0) result → FileRead (files content before after) name most (λ bytes. Never) said text 0 → EndsBy (FileRead (files content first after) name most next) (output b a fb fa ticks ticks) result
read-ended content first before after name most next b a fb fa ticks result said text below h p = written_on (FileRead (files content first after) name most next) b a fb fa ticks ticks result said text 0 h (read-earlier content first before after name most next said text 0 below p) (omega arith)

-- a text that was made is written
pub made-written : (P : Outcome) (b a : Option (List ℕ)) (fb fa tb ta : ℕ) (result said : Status) (text written : List ℕ) → written ≡ text → IsWithin P said text tb ta → EndsBy (Says said written 0) (output b a fb fa 0 0) result → EndsBy P (output b a fb fa tb ta) result
made-written P b a fb fa tb ta result said text written same p h = written_on P b a fb fa tb ta result said text p.ticks (subst (λ t. EndsBy (Says said t 0) (output b a fb fa 0 0) result) same h) p.is p.few

-- memory ran out, and nothing is written
pub nothing-made : (P : Outcome) (o : Option (List ℕ)) (fb fa tb ta : ℕ) → IsWithin P Status.OutOfMemory [] tb ta → EndsBy P (output o o fb fa tb ta) Status.OutOfMemory
nothing-made P o fb fa tb ta p = ends.out_of_memory refl (record { text = []; ticks = p.ticks; is = p.is; front = no_front o []; few = p.few })

-- the drawings met the same files
pub drawn-earlier : (p : PoolSetting) (content between : List ℕ → Option (List ℕ)) (before after : List ℕ → ℕ) (tapes : List (List ℕ)) (schedule bytes : List ℕ) (b a : Option (List ℕ)) (fb fa tb ta : ℕ) (result : Status) → between ≡ content → bytes ≡ schedule → EndsBy (PoolDrawn p (files between before after) tapes bytes) (output b a fb fa tb ta) result → EndsBy (PoolDrawn p (files content before after) tapes schedule) (output b a fb fa tb ta) result
drawn-earlier p content between before after tapes schedule bytes b a fb fa tb ta result same is h =
    subst (λ k. EndsBy (PoolDrawn p (files k before after) tapes schedule) (output b a fb fa tb ta) result) same
    (subst (λ k. EndsBy (PoolDrawn p (files between before after) tapes k) (output b a fb fa tb ta) result) is h)
