-- An object's file has one outcome where what comes next has one.
use Rattle.std.proofs.Common.{◌≡◌, ◌≢◌, ℕ, ◌≤◌, arith, List, length, refl, sym, ap, subst, ◌∙◌}
use Rattle.std.specs.Prelude.{Option}
use Rattle.bz_model.specs.Spec.{Spec}
use Rattle.class_system.specs.Limits.{IsWithinLimits}
use Rattle.class_system.specs.Sound.{IsSound}
use Rattle.object_store.specs.declared.token.Token.{Token}
use Rattle.object_text.specs.Reading.{IsRead, TellsFault}
use Rattle.object_text.specs.declared.fault.TextFault.{TextFault}
use Rattle.object_text.proofs.Agreeing.{one-object-read, no-fault-read, one-fault-told}
use Rattle.call_stages.specs.Outcomes.{Outcome, Says, IsOne}
use Rattle.call_stages.specs.Stages.{Files, IsCalm, FileRead}
use Rattle.call_stages.specs.Stages as stages
use Rattle.call_stages.specs.declared.status.Status.{Status}
use Rattle.call_stages.proofs.Completing.{says-other}
use Rattle.call_stages.proofs.OneReading.{one-read}
use Rattle.object_stage.specs.ObjectStage.{without_feed, object_fault_line, ObjectJudged, ObjectRead}
use Rattle.object_stage.specs.ObjectStage as stage

-- what is said of one status in one line is the same
same-line : (said status other : Status) (line line_too text others : List ℕ) (ticks more : ℕ) → line ≡ line_too → Says said line 0 status text ticks → Says said line_too 0 other others more → (status ≡ other) × (text ≡ others)
same-line said status other line line_too text others ticks more same h k = (h.status_is ∙ sym k.status_is, h.text_is ∙ same ∙ sym k.text_is)

module _ (s : Spec) (sound : IsSound s) (within : IsWithinLimits s) (next : List Token → Option (List ℕ) → Outcome) (bytes : List ℕ) where
  -- an object that is read has no fault
  read-unfailing : {P : Type 0} (tokens : List Token) (labels : Option (List ℕ)) (fault : TextFault) → fault ≢ TextFault.OutOfMemory → IsRead s 0 (without_feed bytes) tokens labels → TellsFault s 0 (without_feed bytes) fault → P
  read-unfailing tokens labels fault memory is tells = absurd (memory (no-fault-read s sound within 0 (without_feed bytes) tokens labels fault is tells))

  -- an object that is read goes on
  pub object-only : (tokens : List Token) (labels : Option (List ℕ)) → length bytes ≤ 16777216 → IsRead s 0 (without_feed bytes) tokens labels → (status : Status) (text : List ℕ) (ticks : ℕ) → status ≢ Status.OutOfMemory → ObjectJudged s next bytes status text ticks → next tokens labels status text ticks
  object-only tokens labels few is status text ticks m (stage.too_long long says) = absurd (omega (arith, few, long))
  object-only tokens labels few is status text ticks m (stage.refused fault f memory tells says) = read-unfailing tokens labels fault memory is tells
  object-only tokens labels few is status text ticks m (stage.no_memory says) = absurd (m says.status_is)
  object-only tokens labels few is status text ticks m (stage.read others told f is_too p) =
      let same = one-object-read s sound within 0 (without_feed bytes) others tokens told labels is_too is in
      subst (λ l. next tokens l status text ticks) same.1 (subst (λ t. next t told status text ticks) same.0 p)

  module _ (ones : (tokens : List Token) (labels : Option (List ℕ)) → IsRead s 0 (without_feed bytes) tokens labels → IsOne (next tokens labels)) (status other : Status) (text others : List ℕ) (ticks more : ℕ) (m : status ≢ Status.OutOfMemory) (n : other ≢ Status.OutOfMemory) where
    object-twice : ObjectJudged s next bytes status text ticks → ObjectJudged s next bytes other others more → (status ≡ other) × (text ≡ others)
    object-twice (stage.no_memory says) q = absurd (m says.status_is)
    object-twice (stage.read tokens labels few is p) q = (ones tokens labels is).one status other text others ticks more m n p (object-only tokens labels few is other others more n q)
    object-twice (stage.too_long long says) (stage.too_long longer says_too) = same-line Status.ObjectRefused status other _ _ text others ticks more refl says says_too
    object-twice (stage.too_long long says) (stage.refused fault few memory tells says_too) = absurd (omega (arith, few, long))
    object-twice (stage.too_long long says) (stage.no_memory says_too) = absurd (n says_too.status_is)
    object-twice (stage.too_long long says) (stage.read tokens labels few is p) = absurd (omega (arith, few, long))
    object-twice (stage.refused fault few memory tells says) (stage.too_long long says_too) = absurd (omega (arith, few, long))
    object-twice (stage.refused fault few memory tells says) (stage.refused fault_too f memory_too tells_too says_too) = same-line Status.ObjectRefused status other (object_fault_line fault) (object_fault_line fault_too) text others ticks more (ap object_fault_line (one-fault-told s sound within 0 (without_feed bytes) fault fault_too tells tells_too memory memory_too)) says says_too
    object-twice (stage.refused fault few memory tells says) (stage.no_memory says_too) = absurd (n says_too.status_is)
    object-twice (stage.refused fault few memory tells says) (stage.read tokens labels f is p) = read-unfailing tokens labels fault memory is tells

-- an object's file that is calm has one outcome
pub one-object : (f : Files) (s : Spec) (file : List ℕ) (next : List Token → Option (List ℕ) → Outcome) → IsCalm f file → IsSound s → IsWithinLimits s → ((text : List ℕ) (tokens : List Token) (labels : Option (List ℕ)) → IsRead s 0 text tokens labels → IsOne (next tokens labels)) → IsOne (ObjectRead f s file next)
one-object f s file next calm sound within ones = one-read f file 16777217 (ObjectJudged s next) calm (λ bytes. record { one = λ status other text others ticks more m n p q. object-twice s sound within next bytes (λ tokens labels is. ones (without_feed bytes) tokens labels is) status other text others ticks more m n p q })

-- no object's file ends a call with the status of refused words where what comes next doesn't
pub object-no-words : (f : Files) (s : Spec) (file : List ℕ) (next : List Token → Option (List ℕ) → Outcome) → ((tokens : List Token) (labels : Option (List ℕ)) (status : Status) (text : List ℕ) (ticks : ℕ) → next tokens labels status text ticks → status ≡ Status.WordsRefused → ⊥) → (status : Status) (text : List ℕ) (ticks : ℕ) → ObjectRead f s file next status text ticks → status ≡ Status.WordsRefused → ⊥
object-no-words f s file next on status text ticks (stages.failed rose says) is = says-other Status.ReadFault Status.WordsRefused status _ text _ ticks (λ e. absurd (cc)) is says
object-no-words f s file next on status text ticks (stages.no_memory says) is = says-other Status.OutOfMemory Status.WordsRefused status _ text _ ticks (λ e. absurd (cc)) is says
object-no-words f s file next on status text ticks (stages.read bytes are p) is = go p
  where
    go : ObjectJudged s next bytes status text ticks → ⊥
    go (stage.too_long long says) = says-other Status.ObjectRefused Status.WordsRefused status _ text _ ticks (λ e. absurd (cc)) is says
    go (stage.refused fault few memory tells says) = says-other Status.ObjectRefused Status.WordsRefused status _ text _ ticks (λ e. absurd (cc)) is says
    go (stage.no_memory says) = says-other Status.OutOfMemory Status.WordsRefused status _ text _ ticks (λ e. absurd (cc)) is says
    go (stage.read tokens labels few read q) = on tokens labels status text ticks q is
