-- A stage has one outcome where what comes next has one.
use Rattle.std.proofs.Common.{◌≡◌, ◌≢◌, ℕ, zero, suc, ◌+◌, ◌≤◌, arith, List, [], ◌∷◌, length, take, refl, sym, ap, subst, ◌∙◌}
use Rattle.std.specs.Prelude.{Option, Some, None, IfSome}
use Rattle.bz_model.specs.Spec.{Spec}
use Rattle.bz_model.specs.WellFounded.{IsWellFounded}
use Rattle.class_system.specs.Limits.{IsWithinLimits}
use Rattle.class_system.specs.Sound.{IsSound}
use Rattle.spec_reader.specs.Reading.{Grammar, Refuses}
use Rattle.spec_reader.specs.declared.fault.SpecFault.{SpecFault}
use Rattle.spec_reader.specs.Tokens.{tokens_of}
use Rattle.spec_reader.proofs.Lexical.{are_lexical}
use Rattle.spec_reader.proofs.OneRefusal.{one_refusal}
use Rattle.spec_reader.proofs.OneText.{one_specification, accepted}
use Rattle.spec_reader.proofs.Sounds.{stands_sound}
use Rattle.well_founded.specs.Examination.{TellsCause}
use Rattle.well_founded.specs.declared.cause.UnfoundedCause.{UnfoundedCause}
use Rattle.well_founded.proofs.Judged.{tells-unfounded}
use Rattle.newton_upper.specs.BaseRule.{base_of, HasNoUpper}
use Rattle.newton_upper.specs.declared.trials.Trial.{Trial}
use Rattle.rounded_map.specs.RoundedMap.{Setting}
use Rattle.call_stages.specs.Outcomes.{Outcome, Says, MaySay, IsOne}
use Rattle.call_stages.specs.Outcomes as outcomes
use Rattle.call_stages.specs.Refusals.{spec_fault_line, cause_line, no_upper_text}
use Rattle.call_stages.specs.Stages.{Files, HasFailedRead, IsCalm, AreRead, FileRead, IsAccepted, Judged, Specified, Based}
use Rattle.call_stages.specs.Stages as stages
use Rattle.call_stages.specs.declared.status.Status.{Status}
use Rattle.call_stages.proofs.OneRefusal.{one-cause, one-search}

-- what is said twice is the same
same-said : (said said_too status other : Status) (line line_too text others : List ℕ) (most most_too ticks more : ℕ) → said ≡ said_too → line ≡ line_too → Says said line most status text ticks → Says said_too line_too most_too other others more → (status ≡ other) × (text ≡ others)
same-said said said_too status other line line_too text others most most_too ticks more a b h k = (h.status_is ∙ a ∙ sym k.status_is, h.text_is ∙ b ∙ sym k.text_is)

-- what lacks memory is no answer
no-answer : {P : Type 0} (status : Status) (line text : List ℕ) (most ticks : ℕ) → status ≢ Status.OutOfMemory → Says Status.OutOfMemory line most status text ticks → P
no-answer status line text most ticks memory h = absurd (memory h.status_is)

-- a text that may be said
only-said : (said : Status) (line : List ℕ) (most : ℕ) (status : Status) (text : List ℕ) (ticks : ℕ) → status ≢ Status.OutOfMemory → MaySay said line most status text ticks → (status ≡ said) × (text ≡ line)
only-said said line most status text ticks memory (outcomes.says h) = (h.status_is, h.text_is)
only-said said line most status text ticks memory (outcomes.no_memory h) = no-answer status [] text most ticks memory h

-- What may be said, where memory doesn't run out, is the one status with its one line.
pub may-say-only : (said : Status) (line : List ℕ) (most : ℕ) (status : Status) (text : List ℕ) (ticks : ℕ) → status ≢ Status.OutOfMemory → MaySay said line most status text ticks → (status ≡ said) × (text ≡ line)
may-say-only said line most status text ticks memory h = only-said said line most status text ticks memory h

-- A status that may be said with a line is one outcome, but for want of memory.
pub one-said : (said : Status) (line : List ℕ) (most : ℕ) → IsOne (MaySay said line most)
one-said said line most = record {
  one = λ status other text others ticks more m n p q.
      let a = only-said said line most status text ticks m p in
      let b = only-said said line most other others more n q in
      (a.0 ∙ sym b.0, a.1 ∙ sym b.1);
}

-- the bytes of a file that is known
read-bytes : (o : Option (List ℕ)) (all bytes : List ℕ) (most : ℕ) → o ≡ Some all → IfSome o (λ a. bytes ≡ take most a) → bytes ≡ take most all
read-bytes o all bytes most e h = subst (λ z. IfSome z (λ a. bytes ≡ take most a)) e h

-- a calm file is read
pub read-only : (f : Files) (name : List ℕ) (most : ℕ) (next : List ℕ → Outcome) (calm : IsCalm f name) (status : Status) (text : List ℕ) (ticks : ℕ) → status ≢ Status.OutOfMemory → FileRead f name most next status text ticks → next (take most calm.bytes) status text ticks
read-only f name most next calm status text ticks memory (stages.failed rose says) = absurd (calm.unfailed rose)
read-only f name most next calm status text ticks memory (stages.no_memory says) = no-answer status [] text 0 ticks memory says
read-only f name most next calm status text ticks memory (stages.read bytes are p) = subst (λ b. next b status text ticks) (read-bytes (f.content name) calm.bytes bytes most calm.known are.are) p

-- Reading a file has one outcome, but for want of memory, where its content is known, no read of it
-- fails and what follows has one outcome.
pub one-read : (f : Files) (name : List ℕ) (most : ℕ) (next : List ℕ → Outcome) → IsCalm f name → ((bytes : List ℕ) → IsOne (next bytes)) → IsOne (FileRead f name most next)
one-read f name most next calm ones = record {
  one = λ status other text others ticks more m n p q.
      (ones (take most calm.bytes)).one status other text others ticks more m n (read-only f name most next calm status text ticks m p) (read-only f name most next calm other others more n q);
}

-- A text's tables are sound.
pub sound : (bytes : List ℕ) (s : Spec) → Grammar bytes s → IsSound s
sound bytes s g = stands_sound (tokens_of bytes) s (are_lexical bytes) g.stand_for

-- an accepted text is not refused
not-refused : {P : Type 0} (bytes : List ℕ) (s : Spec) (fault : SpecFault) → IsAccepted bytes s → fault ≢ SpecFault.OutOfMemory → Refuses bytes fault → P
not-refused bytes s fault accepts memory refuses = absurd (memory (accepted bytes s fault accepts.few accepts.stands accepts.within refuses))

same-tables : (bytes : List ℕ) (s t : Spec) → IsAccepted bytes s → IsAccepted bytes t → s ≡ t
same-tables bytes s t a b = one_specification bytes s t a.stands b.stands

-- a well-founded specification has no cause
not-unfounded : {P : Type 0} (bytes : List ℕ) (s t : Spec) (cause : UnfoundedCause) → IsAccepted bytes s → IsAccepted bytes t → cause ≢ UnfoundedCause.OutOfMemory → TellsCause s cause → IsWellFounded t → P
not-unfounded bytes s t cause a b memory tells founded = absurd (tells-unfounded t cause (sound bytes t b.stands) (subst (λ u. TellsCause u cause) (same-tables bytes s t a b) tells) memory founded)

-- an accepted, well-founded specification goes on
pub judged-only : (next : Spec → Outcome) (bytes : List ℕ) (s : Spec) → IsAccepted bytes s → IsWellFounded s → (status : Status) (text : List ℕ) (ticks : ℕ) → status ≢ Status.OutOfMemory → Judged next bytes status text ticks → next s status text ticks
judged-only next bytes s a founded status text ticks memory (stages.refused fault m refuses says) = not-refused bytes s fault a m refuses
judged-only next bytes s a founded status text ticks memory (stages.unfounded t cause b m tells says) = not-unfounded bytes t s cause b a m tells founded
judged-only next bytes s a founded status text ticks memory (stages.no_memory says) = no-answer status [] text 0 ticks memory says
judged-only next bytes s a founded status text ticks memory (stages.founded t b g p) = subst (λ u. next u status text ticks) (same-tables bytes t s b a) p

-- what is read of no such specification is refused
pub unfit-refused : (next : Spec → Outcome) (bytes : List ℕ) → ((s : Spec) → IsAccepted bytes s → ¬ (IsWellFounded s)) → (status : Status) (text : List ℕ) (ticks : ℕ) → status ≢ Status.OutOfMemory → Judged next bytes status text ticks → status ≡ Status.SpecRefused
unfit-refused next bytes unfit status text ticks memory (stages.refused fault m refuses says) = says.status_is
unfit-refused next bytes unfit status text ticks memory (stages.unfounded t cause b m tells says) = says.status_is
unfit-refused next bytes unfit status text ticks memory (stages.no_memory says) = no-answer status [] text 0 ticks memory says
unfit-refused next bytes unfit status text ticks memory (stages.founded t b g p) = absurd (unfit t b g)

module _ (next : Spec → Outcome) (bytes : List ℕ) (ones : (s : Spec) → IsSound s → IsWithinLimits s → IsWellFounded s → IsOne (next s)) (status other : Status) (text others : List ℕ) (ticks more : ℕ) (m : status ≢ Status.OutOfMemory) (n : other ≢ Status.OutOfMemory) where
  judged-twice : Judged next bytes status text ticks → Judged next bytes other others more → (status ≡ other) × (text ≡ others)
  judged-twice (stages.no_memory says) q = no-answer status [] text 0 ticks m says
  judged-twice (stages.founded s a g p) q = (ones s (sound bytes s a.stands) a.within g).one status other text others ticks more m n p (judged-only next bytes s a g other others more n q)
  judged-twice (stages.refused fault mem refuses says) (stages.no_memory says_too) = no-answer other [] others 0 more n says_too
  judged-twice (stages.refused fault mem refuses says) (stages.founded s a g p) = not-refused bytes s fault a mem refuses
  judged-twice (stages.refused fault mem refuses says) (stages.unfounded s cause a mem_too tells says_too) = not-refused bytes s fault a mem refuses
  judged-twice (stages.refused fault mem refuses says) (stages.refused fault_too mem_too refuses_too says_too) = same-said Status.SpecRefused Status.SpecRefused status other (spec_fault_line fault) (spec_fault_line fault_too) text others 0 0 ticks more refl (ap spec_fault_line (one_refusal bytes fault fault_too mem mem_too refuses refuses_too)) says says_too
  judged-twice (stages.unfounded s cause a mem tells says) (stages.no_memory says_too) = no-answer other [] others 0 more n says_too
  judged-twice (stages.unfounded s cause a mem tells says) (stages.founded t b g p) = not-unfounded bytes s t cause a b mem tells g
  judged-twice (stages.unfounded s cause a mem tells says) (stages.refused fault mem_too refuses says_too) = not-refused bytes s fault a mem_too refuses
  judged-twice (stages.unfounded s cause a mem tells says) (stages.unfounded t cause_too b mem_too tells_too says_too) =
      let same = same-tables bytes s t a b in
      same-said Status.SpecRefused Status.SpecRefused status other (cause_line s cause) (cause_line t cause_too) text others 0 0 ticks more refl (ap (λ (u : Spec). cause_line u cause) same ∙ one-cause t cause cause_too mem mem_too (subst (λ (u : Spec). TellsCause u cause) same tells) tells_too) says says_too

-- what comes next need have one outcome for sound specifications within the limits that are well founded alone
pub one-judged-founded : (next : Spec → Outcome) (bytes : List ℕ) → ((s : Spec) → IsSound s → IsWithinLimits s → IsWellFounded s → IsOne (next s)) → IsOne (Judged next bytes)
one-judged-founded next bytes ones = record { one = λ status other text others ticks more m n p q. judged-twice next bytes ones status other text others ticks more m n p q }

-- Judging given bytes as a specification has one outcome, but for want of memory, where what
-- follows each specification has one.
pub one-judged : (next : Spec → Outcome) (bytes : List ℕ) → ((s : Spec) → IsOne (next s)) → IsOne (Judged next bytes)
one-judged next bytes ones = one-judged-founded next bytes (λ s is_sound within founded. ones s)

-- Reading and judging a specification's file, known and read without a fault, has one outcome if
-- what follows a sound, well-founded one within the limits has.
pub one-specified-founded : (f : Files) (file : List ℕ) (next : Spec → Outcome) → IsCalm f file → ((s : Spec) → IsSound s → IsWithinLimits s → IsWellFounded s → IsOne (next s)) → IsOne (Specified f file next)
one-specified-founded f file next calm ones = one-read f file 65537 (Judged next) calm (λ bytes. one-judged-founded next bytes ones)

-- Reading and judging a specification's file has one outcome where the file is known, no read of it
-- fails and what follows each specification has one.
pub one-specified : (f : Files) (file : List ℕ) (next : Spec → Outcome) → IsCalm f file → ((s : Spec) → IsOne (next s)) → IsOne (Specified f file next)
one-specified f file next calm ones = one-specified-founded f file next calm (λ s is_sound within founded. ones s)

-- a search that has a base
pub based-only : (t : Setting) (next : List ℕ → Outcome) (base : List ℕ) → base_of t ≡ Some base → (status : Status) (text : List ℕ) (ticks : ℕ) → status ≢ Status.OutOfMemory → Based t next status text ticks → (more : ℕ) × next base status text more
based-only t next base has status text ticks memory (stages.no_base trials lacks says) = let none = lacks.no_base in absurd (cc)
based-only t next base has status text ticks memory (stages.no_memory says) = absurd (memory says.status_is)
based-only t next base has status text ticks memory (stages.based other more is p sum) = let same : other ≡ base = cc in (more, subst (λ b. next b status text more) same p)

-- and one that has none
pub baseless-only : (t : Setting) (next : List ℕ → Outcome) → base_of t ≡ None → (status : Status) (text : List ℕ) (ticks : ℕ) → status ≢ Status.OutOfMemory → Based t next status text ticks → (trials : List Trial) × HasNoUpper t trials × (status ≡ Status.NoUpper) × (text ≡ no_upper_text t.spec t.bits trials)
baseless-only t next none status text ticks memory (stages.no_base trials lacks says) = (trials, lacks, says.status_is, says.text_is)
baseless-only t next none status text ticks memory (stages.no_memory says) = absurd (memory says.status_is)
baseless-only t next none status text ticks memory (stages.based other more is p sum) = absurd (cc)

module _ (t : Setting) (next : List ℕ → Outcome) (ones : (base : List ℕ) → IsOne (next base)) (status other : Status) (text others : List ℕ) (ticks more : ℕ) (m : status ≢ Status.OutOfMemory) (n : other ≢ Status.OutOfMemory) where
  based-twice : Based t next status text ticks → Based t next other others more → (status ≡ other) × (text ≡ others)
  based-twice (stages.no_memory says) q = absurd (m says.status_is)
  based-twice (stages.based base k is p sum) q = let r = based-only t next base is other others more n q in (ones base).one status other text others k r.0 m n p r.1
  based-twice (stages.no_base trials lacks says) q =
      let r = baseless-only t next lacks.no_base other others more n q in
      (says.status_is ∙ sym r.2, says.text_is ∙ one-search t trials r.0 lacks r.1 ∙ sym r.3)

-- The search for a base has one outcome, but for want of memory, where what follows each base has
-- one.
pub one-based : (t : Setting) (next : List ℕ → Outcome) → ((base : List ℕ) → IsOne (next base)) → IsOne (Based t next)
one-based t next ones = record { one = λ status other text others ticks more m n p q. based-twice t next ones status other text others ticks more m n p q }
