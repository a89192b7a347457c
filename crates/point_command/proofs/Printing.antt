-- Pointing: what follows a specification, and that the command has one outcome.
use Rattle.std.proofs.Common.{◌≡◌, ◌≢◌, ℕ, ◌<◌, length, ◌⊎◌, List, [], ◌∷◌, refl, sym, ap, subst, ◌∙◌, arith}
use Rattle.std.specs.Prelude.{true, Option}
use Rattle.bz_model.specs.Object.{Object, Belongs}
use Rattle.bz_model.specs.Spec.{Spec}
use Rattle.bz_outside.specs.Outside.{Rose, Appends}
use Rattle.class_system.specs.Limits.{IsWithinLimits}
use Rattle.class_system.specs.Sound.{IsSound}
use Rattle.class_system.proofs.Soundness.{has_body}
use Rattle.well_founded.specs.EmptyObjects.{answer_at}
use Rattle.pointing.specs.Atoms.{AreAtomic, atomic_classes}
use Rattle.pointing.specs.Calls.{TellsPointFault}
use Rattle.pointing.specs.Correspondence.{IsPointable}
use Rattle.pointing.specs.PointedSpec.{CanBeMarked, pointed_spec}
use Rattle.pointing.specs.declared.fault.PointFault.{PointFault}
use Rattle.call_stages.specs.Ends.{output, EndsBy}
use Rattle.call_stages.specs.Outcomes.{Never, Says, IsOne}
use Rattle.call_stages.specs.Reports.{refusal_status, refusal_text}
use Rattle.call_stages.specs.Stages.{Files, AreCalm, Specified, IsSpecified}
use Rattle.call_stages.specs.declared.report.Refusal.{Refusal}
use Rattle.call_stages.specs.declared.report.Refusal.TheVariants as refusal
use Rattle.call_stages.specs.declared.status.Status.{Status}
use Rattle.call_stages.proofs.Endings as endings
use Rattle.call_stages.proofs.Endings.{ends_as, written_on}
use Rattle.call_stages.proofs.OneReading.{one-specified}
use Rattle.call_stages.proofs.Staging.{says-nothing, ended_before, goes_on_with}
use Rattle.point_command.specs.PointCommand.{form_text, point_line, CanBePointed, PointedPrinted, CarriesPoint}
use Rattle.point_command.specs.PointCommand as point
use Rattle.point_command.proofs.OneFault.{one-fault, no-fault}

-- a specification whose first class has an atom and whose pointed one is within the limits can be pointed
pub can_be : (s : Spec) → IsPointable s → answer_at (atomic_classes s) 0 ≡ true → AreAtomic s (atomic_classes s) → IsWithinLimits (pointed_spec s) → CanBePointed s
can_be s able has right within =
    let b = has_body s able.sound 0 able.sound.a_class in
    record { able = able; body = b.0; is_body = b.1; an_atom = right.right 0 b.0 b.1 has; within = within }

-- the tables of a founded specification can be pointed where they are plain
pub pointable : (s system : Spec) → system ≡ s → IsSound system → IsWithinLimits system → CanBeMarked s → ((e : ℕ) → e < length s.nodes → (o : Object) × Belongs s e o) → IsPointable s
pointable s system same sound within is_plain inhabited = record {
  sound = subst IsSound same sound;
  few = (subst IsWithinLimits same within).classes;
  is_plain = is_plain;
  inhabited = inhabited;
}

-- a specification can't be pointed, or memory ran out
pub point_refused : (s : Spec) (fault : PointFault) (status : Status) (text : List ℕ) → fault ≢ PointFault.OutOfMemory → TellsPointFault s fault → Says Status.PointRefused (point_line fault) 0 status text 0 → PointedPrinted s status text 0
point_refused s fault status text memory tells says = point.refused fault memory tells says

pub pointing_lacks_memory : (s : Spec) (e : Refusal) → e ≡ refusal.OutOfMemory → PointedPrinted s (refusal_status e) (refusal_text e) 0
pointing_lacks_memory s e is = point.no_memory (says-nothing 0 e is)

-- the pointed specification is printed
pub form-printed : (s : Spec) (text : List ℕ) (b a : Option (List ℕ)) (fb fa ticks : ℕ) (result : Status) → CanBePointed s → text ≡ form_text (pointed_spec s) → EndsBy (Says Status.Done text 0) (output b a fb fa 0 0) result → EndsBy (PointedPrinted s) (output b a fb fa ticks ticks) result
form-printed s text b a fb fa ticks result can is h = written_on (PointedPrinted s) b a fb fa ticks ticks result Status.Done text 0 h (point.printed can (record { status_is = refl; text_is = is; ticks_are = refl })) (omega arith)

-- what ended the call there
pub form-refused : (s : Spec) (b a : Option (List ℕ)) (fb fa ticks : ℕ) (result said : Status) (text : List ℕ) → EndsBy (Says said text 0) (output b a fb fa 0 0) result → PointedPrinted s said text 0 → EndsBy (PointedPrinted s) (output b a fb fa ticks ticks) result
form-refused s b a fb fa ticks result said text h p = written_on (PointedPrinted s) b a fb fa ticks ticks result said text 0 h p (omega arith)

-- what follows a specification that was read
pub carried-on : (f : Files) (file : List ℕ) (s : Spec) (b a : Option (List ℕ)) (fb fa ticks : ℕ) (result : Status) → IsSpecified f.content file s → EndsBy (PointedPrinted s) (output b a fb fa ticks ticks) result → EndsBy (CarriesPoint f file) (output b a fb fa ticks ticks) result
carried-on f file s b a fb fa ticks result is h = ends_as (PointedPrinted s) (CarriesPoint f file) b a fb fa ticks ticks result (λ status text more p. goes_on_with f file PointedPrinted s status text more is p) h

-- what ended the call before
pub ended-there : (f : Files) (file : List ℕ) (b a : Option (List ℕ)) (fb fa ticks : ℕ) (result said : Status) (text : List ℕ) → EndsBy (Says said text 0) (output b a fb fa 0 0) result → Specified f file (λ s. Never) said text 0 → EndsBy (CarriesPoint f file) (output b a fb fa ticks ticks) result
ended-there f file b a fb fa ticks result said text h p = written_on (CarriesPoint f file) b a fb fa ticks ticks result said text 0 h (ended_before f file PointedPrinted said text 0 p) (omega arith)

module _ (s : Spec) (status other : Status) (text others : List ℕ) (ticks more : ℕ) (m : status ≢ Status.OutOfMemory) (n : other ≢ Status.OutOfMemory) where
  pointed-twice : PointedPrinted s status text ticks → PointedPrinted s other others more → (status ≡ other) × (text ≡ others)
  pointed-twice (point.no_memory says) q = absurd (m says.status_is)
  pointed-twice (point.refused fault k tells says) (point.no_memory says_too) = absurd (n says_too.status_is)
  pointed-twice (point.printed can says) (point.no_memory says_too) = absurd (n says_too.status_is)
  pointed-twice (point.refused fault k tells says) (point.refused fault_too l tells_too says_too) = (says.status_is ∙ sym says_too.status_is, says.text_is ∙ ap point_line (one-fault s fault fault_too k l tells tells_too) ∙ sym says_too.text_is)
  pointed-twice (point.refused fault k tells says) (point.printed can says_too) = absurd (no-fault s fault k tells can)
  pointed-twice (point.printed can says) (point.refused fault k tells says_too) = absurd (no-fault s fault k tells can)
  pointed-twice (point.printed can says) (point.printed can_too says_too) = (says.status_is ∙ sym says_too.status_is, says.text_is ∙ sym says_too.text_is)

-- pointing has one outcome
pub one-pointed : (s : Spec) → IsOne (PointedPrinted s)
one-pointed s = record { one = λ status other text others ticks more m n p q. pointed-twice s status other text others ticks more m n p q }

-- the command has one outcome where its file is calm
pub one-carried : (f : Files) (file : List ℕ) → AreCalm f (file ∷ []) → IsOne (CarriesPoint f file)
one-carried f file calm = one-specified f file PointedPrinted calm.0 one-pointed

-- With a calm file and no failed write, the point command ends with the one outcome possible and
-- its text written whole, or for want of memory.
pub exact : (f : Files) (file : List ℕ) (b a : Option (List ℕ)) (fb fa ticks : ℕ) (result : Status) → EndsBy (CarriesPoint f file) (output b a fb fa ticks ticks) result → (status : Status) (text : List ℕ) (more : ℕ) → AreCalm f (file ∷ []) → CarriesPoint f file status text more → status ≢ Status.OutOfMemory → ¬ (Rose fb fa) → (result ≡ Status.OutOfMemory) ⊎ ((result ≡ status) × Appends b a text)
exact f file b a fb fa ticks result h status text more calm p memory fine = endings.exact (CarriesPoint f file) (output b a fb fa ticks ticks) result status text more (one-carried f file calm) h p memory fine

-- no pointing ends a call with the status of refused words
pub pointed-no-words : (s : Spec) (status : Status) (text : List ℕ) (ticks : ℕ) → PointedPrinted s status text ticks → status ≡ Status.WordsRefused → ⊥
pointed-no-words s status text ticks (point.refused fault m tells says) is = let e : Status.PointRefused ≡ Status.WordsRefused = sym says.status_is ∙ is in absurd (cc)
pointed-no-words s status text ticks (point.printed can says) is = let e : Status.Done ≡ Status.WordsRefused = sym says.status_is ∙ is in absurd (cc)
pointed-no-words s status text ticks (point.no_memory says) is = let e : Status.OutOfMemory ≡ Status.WordsRefused = sym says.status_is ∙ is in absurd (cc)
