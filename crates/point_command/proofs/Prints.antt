-- What the command prints, and when its answer is certain.
use Rattle.std.proofs.Common.{◌≡◌, ◌≢◌, ℕ, ◌≤◌, List, length, ap, ◌∙◌}
use Rattle.std.specs.Prelude.{true, Some}
use Rattle.bz_model.specs.Spec.{Spec, body_of}
use Rattle.bz_model.specs.WellFounded.{IsWellFounded}
use Rattle.class_system.specs.CanonicalText.{canonical_text}
use Rattle.class_system.specs.Distinct.{AreDistinct}
use Rattle.class_system.specs.Limits.{IsWithinLimits}
use Rattle.class_system.specs.Sound.{IsSound}
use Rattle.class_system.proofs.Soundness.{has_body}
use Rattle.spec_reader.specs.Reading.{Grammar}
use Rattle.well_founded.specs.EmptyObjects.{answer_at}
use Rattle.pointing.specs.Atoms.{HasAtom, atomic_classes, is_atomic_node}
use Rattle.pointing.specs.Calls.{TellsPointFault}
use Rattle.pointing.specs.Correspondence.{IsPointable, Corresponds}
use Rattle.pointing.specs.PointedForm.{pointed_class}
use Rattle.pointing.specs.PointedSpec.{pointed_spec}
use Rattle.pointing.specs.declared.fault.PointFault.{PointFault}
use Rattle.call_stages.specs.Stages.{Files, HasSpecification}
use Rattle.call_stages.specs.declared.status.Status.{Status}
use Rattle.call_stages.proofs.Completing.{says-other, specified-only, done-specified}
use Rattle.point_command.specs.Completeness.{PrintsPointed}
use Rattle.point_command.specs.PointCommand.{form_text, point_line, CanBePointed, PointedPrinted, CarriesPoint}
use Rattle.point_command.specs.PointCommand as point
use Rattle.point_command.proofs.OneFault.{one-fault, no-fault}

only-printed : (s : Spec) → CanBePointed s → (status : Status) (text : List ℕ) (ticks : ℕ) → status ≢ Status.OutOfMemory → PointedPrinted s status text ticks → (status ≡ Status.Done) × (text ≡ form_text (pointed_spec s))
only-printed s can status text ticks memory (point.refused fault m tells says) = absurd (no-fault s fault m tells can)
only-printed s can status text ticks memory (point.no_memory says) = absurd (memory says.status_is)
only-printed s can status text ticks memory (point.printed can_too says) = (says.status_is, says.text_is)

-- Where the file has a specification that can be pointed, the command is done and prints the
-- canonical form of the pointed one, unless memory runs out.
pub is-printed : (f : Files) (file : List ℕ) (s : Spec) (status : Status) (text : List ℕ) (ticks : ℕ) → HasSpecification f file s → CanBePointed s → status ≢ Status.OutOfMemory → CarriesPoint f file status text ticks → (status ≡ Status.Done) × (text ≡ form_text (pointed_spec s))
is-printed f file s status text ticks has can memory h = only-printed s can status text ticks memory (specified-only f file s PointedPrinted status text ticks has memory h)

only-refused : (s : Spec) (fault : PointFault) → fault ≢ PointFault.OutOfMemory → TellsPointFault s fault → (status : Status) (text : List ℕ) (ticks : ℕ) → status ≢ Status.OutOfMemory → PointedPrinted s status text ticks → (status ≡ Status.PointRefused) × (text ≡ point_line fault)
only-refused s fault n tells status text ticks memory (point.refused other m tells_too says) = (says.status_is, says.text_is ∙ ap point_line (one-fault s other fault m n tells_too tells))
only-refused s fault n tells status text ticks memory (point.no_memory says) = absurd (memory says.status_is)
only-refused s fault n tells status text ticks memory (point.printed can says) = absurd (no-fault s fault n tells can)

-- Where the file has a specification that can't be pointed for some cause, the command refuses it
-- with the line of that cause, unless memory runs out.
pub is-refused : (f : Files) (file : List ℕ) (s : Spec) (fault : PointFault) (status : Status) (text : List ℕ) (ticks : ℕ) → HasSpecification f file s → fault ≢ PointFault.OutOfMemory → TellsPointFault s fault → status ≢ Status.OutOfMemory → CarriesPoint f file status text ticks → (status ≡ Status.PointRefused) × (text ≡ point_line fault)
is-refused f file s fault status text ticks has n tells memory h = only-refused s fault n tells status text ticks memory (specified-only f file s PointedPrinted status text ticks has memory h)

-- a call that is done pointed a specification
done-pointed : (s : Spec) (status : Status) (text : List ℕ) (ticks : ℕ) → status ≡ Status.Done → PointedPrinted s status text ticks → CanBePointed s × (text ≡ form_text (pointed_spec s))
done-pointed s status text ticks done (point.refused fault m tells says) = says-other Status.PointRefused Status.Done status _ text _ ticks (λ e. absurd (cc)) done says
done-pointed s status text ticks done (point.no_memory says) = says-other Status.OutOfMemory Status.Done status _ text _ ticks (λ e. absurd (cc)) done says
done-pointed s status text ticks done (point.printed can says) = (can, says.text_is)

-- what is printed is the pointed specification
module _ (atoms : (s : Spec) → IsPointable s → (c body : ℕ) → body_of s c ≡ Some body → HasAtom s body → answer_at (atomic_classes s) c ≡ true) (sound : (s : Spec) → IsPointable s → IsSound (pointed_spec s)) (distinct : (s : Spec) → IsPointable s → AreDistinct (pointed_spec s).names) (founded : (s : Spec) → IsPointable s → IsWellFounded s → IsWellFounded (pointed_spec s)) (marks : (s : Spec) → IsPointable s → (c body b : ℕ) → body_of s c ≡ Some body → answer_at (atomic_classes s) c ≡ true → body_of (pointed_spec s) (pointed_class (atomic_classes s) c) ≡ Some b → Corresponds s (pointed_spec s) (is_atomic_node s) body b) (stands : (s : Spec) → IsSound s → AreDistinct s.names → Grammar (canonical_text s) s) (short : (s : Spec) → IsSound s → IsWithinLimits s → length (canonical_text s) ≤ 65536) where
  pub prints : (f : Files) (file : List ℕ) (status : Status) (text : List ℕ) (ticks : ℕ) → status ≡ Status.Done → CarriesPoint f file status text ticks → PrintsPointed f file text
  prints f file status text ticks done h =
      let d = done-specified f file PointedPrinted status text ticks done h in
      let s = d.0 in
      let p = done-pointed s status text ticks done d.2 in
      let able = p.0.able in
      let fine = sound s able in
      let b = has_body (pointed_spec s) fine 0 fine.a_class in
      record {
        spec = s;
        specified = d.1;
        shown = canonical_text (pointed_spec s);
        text_is = p.1;
        accepted = record { few = short (pointed_spec s) fine p.0.within; stands = stands (pointed_spec s) fine (distinct s able); within = p.0.within };
        founded = founded s able d.1.founded;
        body = p.0.body;
        is_body = p.0.is_body;
        pointed_body = b.0;
        is_pointed_body = b.1;
        corresponds = marks s able 0 p.0.body b.0 p.0.is_body (atoms s able 0 p.0.body p.0.is_body p.0.an_atom) b.1;
      }
