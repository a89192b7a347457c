-- The header of what is printed from a specification.
use Rattle.std.specs.Prelude.{ℕ, List, ◌∷◌, Some}
use Rattle.bz_model.specs.declared.fraction.Fraction.{Fraction}
use Rattle.bz_model.specs.Spec.{Spec}
use Rattle.bz_model.specs.Spec as model
use Rattle.class_system.specs.declared.draft.Mode.{Mode}
use Rattle.class_system.specs.declared.draft.Mode.TheVariants.{Unlabelled, Labelled}
use Rattle.class_system.specs.CanonicalText.{canonical_text}
use Rattle.sha2.specs.Sha256.{sha256}
use Rattle.certificate.specs.declared.certificate.Header.{Header}
use Rattle.certificate.specs.Lines.{Line}
use Rattle.certificate.specs.Certificates.{base_lines}

-- The mode of the code that is a mode.
abbrev pub code_mode : model.Mode → Mode
code_mode model.Mode.Unlabelled = Unlabelled
code_mode model.Mode.Labelled = Labelled

-- The header of version 2 of a drawing from a specification at x, with these fraction bits, this
-- window of sizes and this base.
abbrev pub header_of : Spec → (x : Fraction) → (fraction min max : ℕ) → (base : List ℕ) → Header
header_of s x fraction min max base =
    record {
      version = 2;
      mode = code_mode s.mode;
      digest = Some (sha256 (canonical_text s));
      x = x;
      fraction = fraction;
      min = min;
      max = max;
      names = s.names;
      base = base;
    }

-- The lines of that header below its first, where x is num/den.
abbrev pub drawn_lines : Spec → (num den fraction min max : ℕ) → (base : List ℕ) → List Line
drawn_lines s num den fraction min max base =
    Line.InMode (code_mode s.mode) ∷ Line.Spec (sha256 (canonical_text s)) ∷ Line.X num den
    ∷ Line.Fraction fraction ∷ Line.Window min max ∷ base_lines s.names base

-- The lines of that header without its window.
abbrev pub bounded_lines : Spec → (num den fraction : ℕ) → (base : List ℕ) → List Line
bounded_lines s num den fraction base =
    Line.Version 2 ∷ Line.InMode (code_mode s.mode) ∷ Line.Spec (sha256 (canonical_text s))
    ∷ Line.X num den ∷ Line.Fraction fraction ∷ base_lines s.names base
