-- The command `spec`.
use Rattle.std.specs.Prelude.{ℕ, List, ◌++◌, length}
use Rattle.bz_model.specs.Spec.{Spec}
use Rattle.class_system.specs.CanonicalText.{canonical_text}
use Rattle.call_stages.specs.Lines.{spec_end_line}
use Rattle.call_stages.specs.Outcomes.{Outcome, MaySay}
use Rattle.call_stages.specs.Stages.{Files, Specified}
use Rattle.call_stages.specs.declared.status.Status.{Status}

-- A specification in its canonical form.
abbrev pub spec_text : Spec → List ℕ
spec_text s = canonical_text s ++ spec_end_line (length s.names) (length s.nodes)

-- A specification is printed in its canonical form.
abbrev pub SpecPrinted : Spec → Outcome
SpecPrinted s = MaySay Status.Done (spec_text s) 0

-- `spec FILE`: a specification is read, judged and printed.
abbrev pub CarriesSpec : Files → (file : List ℕ) → Outcome
CarriesSpec f file = Specified f file SpecPrinted
