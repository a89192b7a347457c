-- The stages of a call. Each has what comes next as a parameter, and ends the call where it
-- refuses.
use Rattle.std.specs.Prelude.{◌≡◌, ◌≢◌, ℕ, ◌+◌, ◌≤◌, List, [], ◌∷◌, length, take, Option, Some}
use Rattle.std.specs.Prelude.{IfSome}
use Rattle.bz_model.specs.Spec.{Spec}
use Rattle.bz_model.specs.WellFounded.{IsWellFounded}
use Rattle.bz_outside.specs.Outside.{Rose}
use Rattle.class_system.specs.Limits.{IsWithinLimits}
use Rattle.spec_reader.specs.Reading.{Grammar, Refuses}
use Rattle.spec_reader.specs.declared.fault.SpecFault.{SpecFault}
use Rattle.well_founded.specs.Examination.{TellsCause}
use Rattle.well_founded.specs.declared.cause.UnfoundedCause.{UnfoundedCause}
use Rattle.newton_upper.specs.BaseRule.{base_of, HasNoUpper, most_ticks}
use Rattle.newton_upper.specs.declared.trials.Trial.{Trial}
use Rattle.rounded_map.specs.RoundedMap.{Setting}
use Rattle.call_stages.specs.Outcomes.{Outcome, Says}
use Rattle.call_stages.specs.Refusals.{read_line, spec_fault_line, cause_line, no_upper_text}
use Rattle.call_stages.specs.declared.status.Status.{Status}

-- The files that a call meets: their contents where they are known, and the counts of failed reads
-- of each name before the call and after it.
pub record Files : Type 0 where
  pub content : List ℕ → Option (List ℕ)
  pub before : List ℕ → ℕ
  pub after : List ℕ → ℕ

abbrev pub files : (content : List ℕ → Option (List ℕ)) (before after : List ℕ → ℕ) → Files
files content before after = record { content = content; before = before; after = after }

-- A read of this name failed in the call: its count of failed reads rose.
abbrev pub HasFailedRead : Files → (name : List ℕ) → Type 0
HasFailedRead f name = Rose (f.before name) (f.after name)

-- A file's content is known, and no read of it failed in the call.
pub record IsCalm (f : Files) (name : List ℕ) : Type 0 where
  pub bytes : List ℕ
  pub known : f.content name ≡ Some bytes
  pub unfailed : ¬ (HasFailedRead f name)

-- Each of some files is so.
abbrev pub AreCalm : Files → List (List ℕ) → Type 0
AreCalm f [] = Unit {0}
AreCalm f (name ∷ names) = IsCalm f name × AreCalm f names

-- These are the first bytes of a file, at most so many, where its content is known.
pub record AreRead (content : List ℕ → Option (List ℕ)) (name : List ℕ) (most : ℕ) (bytes : List ℕ)
    : Type 0 where
  pub are : IfSome (content name) (λ all. bytes ≡ take most all)
  pub few : length bytes ≤ most

-- A file is read: a read of it failed in the call, or these are its first bytes.
pub data FileRead (f : Files) (name : List ℕ) (most : ℕ) (next : (bytes : List ℕ)
    → Outcome) (status : Status) (text : List ℕ) (ticks : ℕ) : Type 0 where
  failed : HasFailedRead f name → Says Status.ReadFault read_line 0 status text ticks
      → FileRead f name most next status text ticks
  no_memory : Says Status.OutOfMemory [] 0 status text ticks
      → FileRead f name most next status text ticks
  read : (bytes : List ℕ) → AreRead f.content name most bytes → next bytes status text ticks
      → FileRead f name most next status text ticks

-- A text of at most 65536 bytes stands for this specification, which is within the limits.
pub record IsAccepted (read : List ℕ) (s : Spec) : Type 0 where
  pub few : length read ≤ 65536
  pub stands : Grammar read s
  pub within : IsWithinLimits s

-- The file's bytes are known and no read of it failed in the call; they stand for this
-- specification, which is within the limits and well founded.
pub record HasSpecification (f : Files) (file : List ℕ) (s : Spec) : Type 0 where
  pub calm : IsCalm f file
  pub accepted : IsAccepted calm.bytes s
  pub founded : IsWellFounded s

-- The bytes are judged: they are no specification or break a limit, the specification isn't well
-- founded, or it is.
pub data Judged (next : Spec → Outcome) (bytes : List ℕ) (status : Status) (text : List ℕ)
    (ticks : ℕ) : Type 0 where
  refused : (fault : SpecFault) → fault ≢ SpecFault.OutOfMemory → Refuses bytes fault
      → Says Status.SpecRefused (spec_fault_line fault) 0 status text ticks
      → Judged next bytes status text ticks
  unfounded : (s : Spec) (cause : UnfoundedCause) → IsAccepted bytes s
      → cause ≢ UnfoundedCause.OutOfMemory → TellsCause s cause
      → Says Status.SpecRefused (cause_line s cause) 0 status text ticks
      → Judged next bytes status text ticks
  no_memory : Says Status.OutOfMemory [] 0 status text ticks → Judged next bytes status text ticks
  founded : (s : Spec) → IsAccepted bytes s → IsWellFounded s → next s status text ticks
      → Judged next bytes status text ticks

-- A specification is read from the first 65537 bytes of a file and judged.
abbrev pub Specified : Files → (file : List ℕ) → (next : Spec → Outcome) → Outcome
Specified f file next = FileRead f file 65537 (Judged next)

-- A specification was read and judged to be well founded.
pub record IsSpecified (content : List ℕ → Option (List ℕ)) (file : List ℕ) (s : Spec) : Type 0
  where
    pub bytes : List ℕ
    pub read : AreRead content file 65537 bytes
    pub accepted : IsAccepted bytes s
    pub founded : IsWellFounded s

-- A base is searched: there is none, which the proposals show, or there is one. The steps of the
-- search come before those of what is next.
pub data Based (t : Setting) (next : (base : List ℕ)
    → Outcome) (status : Status) (text : List ℕ) (ticks : ℕ) : Type 0 where
  no_base : (trials : List Trial) → HasNoUpper t trials
      → Says Status.NoUpper (no_upper_text t.spec t.bits trials) (most_ticks t) status text ticks
      → Based t next status text ticks
  no_memory : Says Status.OutOfMemory [] (most_ticks t) status text ticks
      → Based t next status text ticks
  based : (base : List ℕ) (more : ℕ) → base_of t ≡ Some base → next base status text more
      → ticks ≡ most_ticks t + more → Based t next status text ticks
