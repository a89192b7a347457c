-- Stages: what ends a call, and what follows where a stage goes on.
use Rattle.std.proofs.Common.{◌≡◌, ◌≢◌, ℕ, zero, suc, ◌+◌, ◌≤◌, arith, List, [], ◌∷◌, length, take, refl, sym, ap, subst, ◌∙◌}
use Rattle.std.specs.Prelude.{◌<◌, Option, Some, None, IfSome}
use Rattle.std.proofs.lemmas.Option.{slice_get_within}
use Rattle.bz_model.specs.Spec.{Spec}
use Rattle.bz_model.specs.WellFounded.{IsWellFounded}
use Rattle.bz_outside.specs.Outside.{ReadFailed}
use Rattle.class_system.specs.Sound.{IsSound}
use Rattle.spec_reader.specs.Reading.{Grammar, Refuses}
use Rattle.spec_reader.specs.declared.fault.SpecFault.{SpecFault}
use Rattle.well_founded.specs.Examination.{TellsCause}
use Rattle.well_founded.specs.Foundedness.{StepsTo, Leads}
use Rattle.well_founded.specs.Foundedness as leads
use Rattle.well_founded.specs.declared.cause.UnfoundedCause.{UnfoundedCause}
use Rattle.well_founded.specs.declared.cause.UnfoundedCause.TheVariants.{NoObject, ZeroPart, ZeroLoop, OutOfMemory}
use Rattle.call_stages.specs.Outcomes.{Outcome, Never, Says}
use Rattle.call_stages.specs.Refusals.{read_line, spec_fault_line, cause_line, IsClassNamed}
use Rattle.call_stages.specs.Reports.{refusal_status, refusal_text}
use Rattle.call_stages.specs.Stages.{Files, files, AreRead, FileRead, IsAccepted, Judged, Specified, IsSpecified}
use Rattle.call_stages.specs.Stages as stages
use Rattle.call_stages.specs.declared.report.Refusal.{Refusal}
use Rattle.call_stages.specs.declared.report.Refusal.TheVariants as refusal
use Rattle.call_stages.specs.declared.status.Status.{Status}

-- want of memory says nothing
pub says-nothing : (most : ℕ) (e : Refusal) → e ≡ refusal.OutOfMemory → Says Status.OutOfMemory [] most (refusal_status e) (refusal_text e) most
says-nothing most e is = record { status_is = ap refusal_status is; text_is = ap refusal_text is; ticks_are = refl }

-- a file was not read
pub read_failed : (content : List ℕ → Option (List ℕ)) (before after : List ℕ → ℕ) (name : List ℕ) (most : ℕ) (status : Status) (text : List ℕ) → ReadFailed name before after → Says Status.ReadFault read_line 0 status text 0 → FileRead (files content before after) name most (λ bytes. Never) status text 0
read_failed content before after name most status text failed says = stages.failed (let here = failed.here in omega arith) says

pub read_lacks_memory : (f : Files) (name : List ℕ) (most : ℕ) (e : Refusal) → e ≡ refusal.OutOfMemory → FileRead f name most (λ bytes. Never) (refusal_status e) (refusal_text e) 0
read_lacks_memory f name most e is = stages.no_memory (says-nothing 0 e is)

-- a text is refused
pub text_refused : (bytes : List ℕ) (fault : SpecFault) (status : Status) (text : List ℕ) → fault ≢ SpecFault.OutOfMemory → Refuses bytes fault → Says Status.SpecRefused (spec_fault_line fault) 0 status text 0 → Judged (λ s. Never) bytes status text 0
text_refused bytes fault status text memory refuses says = stages.refused fault memory refuses says

pub judging_lacks_memory : (bytes : List ℕ) (e : Refusal) → e ≡ refusal.OutOfMemory → Judged (λ s. Never) bytes (refusal_status e) (refusal_text e) 0
judging_lacks_memory bytes e is = stages.no_memory (says-nothing 0 e is)

-- a specification is not well founded
pub cause_refused : (bytes : List ℕ) (s : Spec) (cause : UnfoundedCause) (status : Status) (text : List ℕ) → IsAccepted bytes s → cause ≢ UnfoundedCause.OutOfMemory → TellsCause s cause → Says Status.SpecRefused (cause_line s cause) 0 status text 0 → Judged (λ s. Never) bytes status text 0
cause_refused bytes s cause status text accepted memory tells says = stages.unfounded s cause accepted memory tells says

-- a stage that ended the call, whatever would have come next
pub read_as : (f : Files) (name : List ℕ) (most : ℕ) (P Q : List ℕ → Outcome) (status : Status) (text : List ℕ) (ticks : ℕ) → ((bytes : List ℕ) → AreRead f.content name most bytes → P bytes status text ticks → Q bytes status text ticks) → FileRead f name most P status text ticks → FileRead f name most Q status text ticks
read_as f name most P Q status text ticks on (stages.failed rose says) = stages.failed rose says
read_as f name most P Q status text ticks on (stages.no_memory says) = stages.no_memory says
read_as f name most P Q status text ticks on (stages.read bytes are p) = stages.read bytes are (on bytes are p)

-- What comes of judging bytes with one continuation comes of it with another, where each outcome of
-- the first on a specification is one of the second.
pub judged_as : (P Q : Spec → Outcome) (bytes : List ℕ) (status : Status) (text : List ℕ) (ticks : ℕ) → ((s : Spec) → P s status text ticks → Q s status text ticks) → Judged P bytes status text ticks → Judged Q bytes status text ticks
judged_as P Q bytes status text ticks on (stages.refused fault memory refuses says) = stages.refused fault memory refuses says
judged_as P Q bytes status text ticks on (stages.unfounded s cause accepted memory tells says) = stages.unfounded s cause accepted memory tells says
judged_as P Q bytes status text ticks on (stages.no_memory says) = stages.no_memory says
judged_as P Q bytes status text ticks on (stages.founded s accepted founded p) = stages.founded s accepted founded (on s p)

pub ended_by_reading : (f : Files) (file : List ℕ) (status : Status) (text : List ℕ) (ticks : ℕ) → FileRead f file 65537 (λ bytes. Never) status text ticks → Specified f file (λ s. Never) status text ticks
ended_by_reading f file status text ticks h = read_as f file 65537 (λ bytes. Never) (Judged (λ s. Never)) status text ticks (λ bytes are never. absurd never) h

-- A refusal of the bytes that were read from a file, or want of memory in judging them, is what
-- comes of reading and judging that file.
pub judged_after_reading : (content : List ℕ → Option (List ℕ)) (before after : List ℕ → ℕ) (file bytes : List ℕ) (status : Status) (text : List ℕ) (ticks : ℕ) → AreRead content file 65537 bytes → Judged (λ s. Never) bytes status text ticks → Specified (files content before after) file (λ s. Never) status text ticks
judged_after_reading content before after file bytes status text ticks are h = stages.read bytes are h

pub is_specified : (content : List ℕ → Option (List ℕ)) (file bytes : List ℕ) (s : Spec) → AreRead content file 65537 bytes → IsAccepted bytes s → IsWellFounded s → IsSpecified content file s
is_specified content file bytes s are accepted founded = record { bytes = bytes; read = are; accepted = accepted; founded = founded }

-- what ended a call before a command's own part, and what that part adds
pub ended_before : (f : Files) (file : List ℕ) (next : Spec → Outcome) (status : Status) (text : List ℕ) (ticks : ℕ) → Specified f file (λ s. Never) status text ticks → Specified f file next status text ticks
ended_before f file next status text ticks h = read_as f file 65537 (Judged (λ s. Never)) (Judged next) status text ticks (λ bytes are p. judged_as (λ s. Never) next bytes status text ticks (λ s never. absurd never) p) h

-- Where a well-founded specification was read from the file, what follows it is what comes of
-- reading and judging that file.
pub goes_on_with : (f : Files) (file : List ℕ) (next : Spec → Outcome) (s : Spec) (status : Status) (text : List ℕ) (ticks : ℕ) → IsSpecified f.content file s → next s status text ticks → Specified f file next status text ticks
goes_on_with f file next s status text ticks h p = stages.read h.bytes h.read (stages.founded s h.accepted h.founded p)

-- the class of a step has a body
step-within : (s : Spec) (c d : ℕ) → StepsTo s c d → c < length s.bodies
step-within s c d h = slice_get_within s.bodies c h.body h.is_body

first-within : (s : Spec) (c d : ℕ) → Leads s c d → c < length s.bodies
first-within s c d (leads.one h) = step-within s c d h
first-within s c d (leads.further h more) = first-within s c _ h

pub is_named : (s : Spec) (cause : UnfoundedCause) → IsSound s → TellsCause s cause → IsClassNamed s cause
is_named s (NoObject c) sound h = subst (λ n. c.0 < n) sound.bodies (slice_get_within s.bodies c.0 h.holds.body h.holds.is_body)
is_named s (ZeroPart e) sound h = tt
is_named s (ZeroLoop c) sound h = subst (λ n. c.0 < n) sound.bodies (first-within s c.0 c.0 h.first.holds.leads)
is_named s OutOfMemory sound h = tt
