-- An object's file: what ends a call, and what is known where the stage goes on.
use Rattle.std.proofs.Common.{◌≡◌, ◌≢◌, ℕ, ◌<◌, ◌≤◌, arith, List, length, subst}
use Rattle.std.specs.Prelude.{Option}
use Rattle.bz_model.specs.Spec.{Spec}
use Rattle.object_store.specs.declared.token.Token.{Token}
use Rattle.object_text.specs.Reading.{IsRead, TellsFault}
use Rattle.object_text.specs.declared.fault.TextFault.{TextFault}
use Rattle.call_stages.specs.Outcomes.{Outcome, Never, Says}
use Rattle.call_stages.specs.Reports.{refusal_status, refusal_text}
use Rattle.call_stages.specs.Stages.{files, AreRead, FileRead}
use Rattle.call_stages.specs.Stages as stages
use Rattle.call_stages.specs.declared.report.Refusal.{Refusal}
use Rattle.call_stages.specs.declared.report.Refusal.TheVariants as refusal
use Rattle.call_stages.specs.declared.status.Status.{Status}
use Rattle.call_stages.proofs.Staging.{says-nothing}
use Rattle.object_stage.specs.ObjectStage.{without_feed, too_long_line, object_fault_line, ObjectJudged, ObjectRead, IsObjectIn}
use Rattle.object_stage.specs.ObjectStage as stage

-- nothing comes after an object
abbrev pub nothing : List Token → Option (List ℕ) → Outcome
nothing tokens labels = Never

-- the file is too long
pub too_long : (s : Spec) (bytes : List ℕ) (status : Status) (text : List ℕ) → 16777216 < length bytes → Says Status.ObjectRefused too_long_line 0 status text 0 → ObjectJudged s nothing bytes status text 0
too_long s bytes status text long says = stage.too_long long says

-- the text is refused
pub object_refused : (s : Spec) (bytes stripped : List ℕ) (fault : TextFault) (status : Status) (text : List ℕ) → stripped ≡ without_feed bytes → length bytes ≤ 16777216 → fault ≢ TextFault.OutOfMemory → TellsFault s 0 stripped fault → Says Status.ObjectRefused (object_fault_line fault) 0 status text 0 → ObjectJudged s nothing bytes status text 0
object_refused s bytes stripped fault status text same few memory tells says = stage.refused fault few memory (subst (λ t. TellsFault s 0 t fault) same tells) says

-- memory ran out
pub judging_lacks_memory : (s : Spec) (bytes : List ℕ) (e : Refusal) → e ≡ refusal.OutOfMemory → ObjectJudged s nothing bytes (refusal_status e) (refusal_text e) 0
judging_lacks_memory s bytes e is = stage.no_memory (says-nothing 0 e is)

-- what ended the call before anything was judged; earlier counts are no greater
pub ended_by_reading : (content : List ℕ → Option (List ℕ)) (before between after : List ℕ → ℕ) (s : Spec) (file : List ℕ) (next : List Token → Option (List ℕ) → Outcome) (status : Status) (text : List ℕ) (ticks : ℕ) → ((name : List ℕ) → before name ≤ between name) → FileRead (files content between after) file 16777217 (λ bytes. Never) status text ticks → ObjectRead (files content before after) s file next status text ticks
ended_by_reading content before between after s file next status text ticks below (stages.failed rose says) = stages.failed (let low = below file in omega (arith, low, rose)) says
ended_by_reading content before between after s file next status text ticks below (stages.no_memory says) = stages.no_memory says
ended_by_reading content before between after s file next status text ticks below (stages.read bytes are never) = absurd never

-- what was read is judged
pub judged_after_reading : (content : List ℕ → Option (List ℕ)) (before after : List ℕ → ℕ) (s : Spec) (file bytes : List ℕ) (next : List Token → Option (List ℕ) → Outcome) (status : Status) (text : List ℕ) (ticks : ℕ) → AreRead content file 16777217 bytes → ObjectJudged s next bytes status text ticks → ObjectRead (files content before after) s file next status text ticks
judged_after_reading content before after s file bytes next status text ticks are h = stages.read bytes are h

-- an object was read
pub is_object : (content : List ℕ → Option (List ℕ)) (s : Spec) (file bytes : List ℕ) (tokens : List Token) (labels : Option (List ℕ)) → AreRead content file 16777217 bytes → length bytes ≤ 16777216 → IsRead s 0 (without_feed bytes) tokens labels → IsObjectIn content s file tokens labels
is_object content s file bytes tokens labels are few is = record { bytes = bytes; read = are; few = few; is_read = is }

module _ (s : Spec) (P Q : List Token → Option (List ℕ) → Outcome) (bytes : List ℕ) (status : Status) (text : List ℕ) (ticks : ℕ) where
  -- what comes next may be said otherwise
  pub judged_as : ((tokens : List Token) (labels : Option (List ℕ)) → IsRead s 0 (without_feed bytes) tokens labels → P tokens labels status text ticks → Q tokens labels status text ticks) → ObjectJudged s P bytes status text ticks → ObjectJudged s Q bytes status text ticks
  judged_as on (stage.too_long long says) = stage.too_long long says
  judged_as on (stage.refused fault few memory tells says) = stage.refused fault few memory tells says
  judged_as on (stage.no_memory says) = stage.no_memory says
  judged_as on (stage.read tokens labels few is p) = stage.read tokens labels few is (on tokens labels is p)

-- what ended the call at the object, and what follows it
pub ended_at_object : (content : List ℕ → Option (List ℕ)) (before after : List ℕ → ℕ) (s : Spec) (file : List ℕ) (next : List Token → Option (List ℕ) → Outcome) (status : Status) (text : List ℕ) (ticks : ℕ) → ObjectRead (files content before after) s file nothing status text ticks → ObjectRead (files content before after) s file next status text ticks
ended_at_object content before after s file next status text ticks (stages.failed rose says) = stages.failed rose says
ended_at_object content before after s file next status text ticks (stages.no_memory says) = stages.no_memory says
ended_at_object content before after s file next status text ticks (stages.read bytes are h) = stages.read bytes are (judged_as s nothing next bytes status text ticks (λ tokens labels is never. absurd never) h)

-- Where an object was read from its file, what follows it is what comes of reading and judging that
-- file.
pub goes_on_with_object : (content : List ℕ → Option (List ℕ)) (before after : List ℕ → ℕ) (s : Spec) (file : List ℕ) (next : List Token → Option (List ℕ) → Outcome) (tokens : List Token) (labels : Option (List ℕ)) (status : Status) (text : List ℕ) (ticks : ℕ) → IsObjectIn content s file tokens labels → next tokens labels status text ticks → ObjectRead (files content before after) s file next status text ticks
goes_on_with_object content before after s file next tokens labels status text ticks is p = stages.read is.bytes is.read (stage.read tokens labels is.few is.is_read p)
