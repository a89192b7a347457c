-- Runs under way, as the code has them.
use Rattle.std.specs.Prelude.{◌≡◌, ℕ}
use Rattle.bz_model.specs.Fraction.{Fraction}
use Rattle.bz_model.specs.Spec.{Spec}
use Rattle.bz_model.specs.declared.cell.Bounds.{Bounds}
use Rattle.bit_tape.specs.Tape.{TapeSource, bits_of_source}
use Rattle.choice_draw.specs.Decision.{level_for}
use Rattle.size_window.specs.RunByBits.{Limits}
use Rattle.size_window.specs.Drawing.{DrawingState}
use Rattle.sample_command.specs.UnderWay.{IsCourseSoFar}
use Rattle.bulk_command.specs.NoFiles.{empty_files}

-- A run is under way: it has a course so far, and its levels are raised for the bits that its
-- numbers were given.
pub record IsRunning (s : Spec) (x : Fraction) (F : ℕ) (table : (level node : ℕ)
    → Bounds) (limits : Limits) (source : TapeSource) (d : DrawingState) (used raised : ℕ) : Type 0
  where
    pub most : ℕ
    pub so_far : IsCourseSoFar s x F table limits (bits_of_source source empty_files) d used most
    pub raised_is : raised ≡ level_for most
