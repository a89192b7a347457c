-- The command `point`.
use Rattle.std.specs.Prelude.{◌≡◌, ◌≢◌, ℕ, List, [], ◌++◌, length, decimal, codes, Some}
use Rattle.bz_model.specs.Spec.{Spec, body_of}
use Rattle.class_system.specs.CanonicalText.{canonical_text}
use Rattle.class_system.specs.Limits.{IsWithinLimits}
use Rattle.pointing.specs.Atoms.{HasAtom}
use Rattle.pointing.specs.Calls.{TellsPointFault}
use Rattle.pointing.specs.Correspondence.{IsPointable}
use Rattle.pointing.specs.PointedSpec.{pointed_spec}
use Rattle.pointing.specs.declared.fault.PointFault.{PointFault}
use Rattle.call_stages.specs.Lines.{feed, spec_end_line}
use Rattle.call_stages.specs.Outcomes.{Outcome, Says}
use Rattle.call_stages.specs.Refusals.{limit_line}
use Rattle.call_stages.specs.Stages.{Files, Specified}
use Rattle.call_stages.specs.declared.status.Status.{Status}

-- A specification in its canonical form, and the last line with its numbers of classes and nodes.
abbrev pub form_text : Spec → List ℕ
form_text s = canonical_text s ++ spec_end_line (length s.names) (length s.nodes)

-- Why a specification has no pointed one; there is no line where memory ran out.
abbrev pub point_line : PointFault → List ℕ
point_line PointFault.Labelled = codes "refused point labelled" ++ feed
point_line (PointFault.Ranged e) = codes "refused point range node " ++ (decimal e.0 ++ feed)
point_line PointFault.NoAtom = codes "refused point no atom" ++ feed
point_line (PointFault.Limit fault) = limit_line (codes "point") fault
point_line PointFault.OutOfMemory = []

-- A specification can be pointed where it is unlabelled with plain ranges, some object of its first
-- class has an atom, and the pointed specification is within the limits.
pub record CanBePointed (s : Spec) : Type 0 where
  pub able : IsPointable s
  pub body : ℕ
  pub is_body : body_of s 0 ≡ Some body
  pub an_atom : HasAtom s body
  pub within : IsWithinLimits (pointed_spec s)

-- A specification is pointed: it has no pointed one, for a cause, or the pointed one is printed in
-- its canonical form. Memory may run out instead.
pub data PointedPrinted (s : Spec) (status : Status) (text : List ℕ) (ticks : ℕ) : Type 0 where
  refused : (fault : PointFault) → fault ≢ PointFault.OutOfMemory → TellsPointFault s fault
      → Says Status.PointRefused (point_line fault) 0 status text ticks
      → PointedPrinted s status text ticks
  printed : CanBePointed s → Says Status.Done (form_text (pointed_spec s)) 0 status text ticks
      → PointedPrinted s status text ticks
  no_memory : Says Status.OutOfMemory [] 0 status text ticks → PointedPrinted s status text ticks

-- `point FILE`: a specification is read, judged and pointed.
abbrev pub CarriesPoint : Files → (file : List ℕ) → Outcome
CarriesPoint f file = Specified f file PointedPrinted
