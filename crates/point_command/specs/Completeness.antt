-- Files of which the answer is certain, and what the answer says.
use Rattle.std.specs.Prelude.{◌≡◌, ℕ, List, ◌++◌, length, Some}
use Rattle.bz_model.specs.Spec.{Spec, body_of}
use Rattle.bz_model.specs.WellFounded.{IsWellFounded}
use Rattle.pointing.specs.Atoms.{is_atomic_node}
use Rattle.pointing.specs.Correspondence.{Corresponds}
use Rattle.pointing.specs.PointedSpec.{pointed_spec}
use Rattle.call_stages.specs.Lines.{spec_end_line}
use Rattle.call_stages.specs.Stages.{Files, IsAccepted, IsSpecified}

-- The text is that of the pointed specification of the one in the file, and a last line with its
-- numbers of classes and nodes. As a file, the text before that line stands for the pointed
-- specification, which is within the limits and well founded, and whose first class has the objects
-- of the file's first class with one atom marked.
pub record PrintsPointed (f : Files) (file : List ℕ) (text : List ℕ) : Type 0 where
  pub spec : Spec
  pub specified : IsSpecified f.content file spec
  pub shown : List ℕ
  pub text_is : text ≡ shown
      ++ spec_end_line (length (pointed_spec spec).names) (length (pointed_spec spec).nodes)
  pub accepted : IsAccepted shown (pointed_spec spec)
  pub founded : IsWellFounded (pointed_spec spec)
  pub body : ℕ
  pub is_body : body_of spec 0 ≡ Some body
  pub pointed_body : ℕ
  pub is_pointed_body : body_of (pointed_spec spec) 0 ≡ Some pointed_body
  pub corresponds : Corresponds spec (pointed_spec spec) (is_atomic_node spec) body pointed_body
