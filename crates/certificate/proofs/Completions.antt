-- From each stage on, some lines make a certificate whole.
use Rattle.std.specs.Prelude.{replicate, nat_eq}
use Rattle.std.proofs.Common.{ℕ, zero, suc, ◌<◌, Bool, true, false, cond, List, [], ◌∷◌, get_or, arith, refl, inl}
use Rattle.class_system.specs.declared.draft.Mode.TheVariants as mode
use Rattle.certificate.specs.declared.closing.ClosingWord.TheVariants.{Done, Undecided}
use Rattle.certificate.specs.Fields.{IsPrinted}
use Rattle.certificate.specs.Lines.{Line}
use Rattle.certificate.specs.Stages.{Stage, May, Way, after_mode}

-- Lines that make a certificate whole from a stage on.
abbrev Completion : Stage → Type 0
Completion stage = (more : List Line) × Way stage more Stage.Over

done : May Stage.AtObject (Line.End Done 0 0 0 0) Stage.Over
done = May.end (λ e. cc) (omega arith) (omega arith) (omega arith) (omega arith)

from_object : Completion Stage.AtObject
from_object = (Line.End Done 0 0 0 0 ∷ [], Way.go done Way.stay)

from_base : (names : List (List ℕ)) → Completion (Stage.AtBase names)
from_base names = (Line.End Done 0 0 0 0 ∷ [], Way.go (May.last_base done) Way.stay)

from_cells : Completion Stage.AtCells
from_cells = (Line.Cells [] ∷ from_object.0, Way.go (May.cells tt) from_object.1)

space : IsPrinted (32 ∷ [])
space = record { some = omega arith; each = ((omega arith, omega arith), tt) }

from_text : Completion Stage.AtText
from_text = (Line.Text (32 ∷ []) ∷ from_cells.0, Way.go (May.text space) from_cells.1)

from_window : Completion Stage.AtWindow
from_window = (Line.Window 0 0 ∷ (from_base []).0, Way.go (May.window (omega arith) (omega arith)) (from_base []).1)

from_fraction : Completion Stage.AtFraction
from_fraction = (Line.Fraction 0 ∷ from_window.0, Way.go (May.fraction (omega arith)) from_window.1)

from_x : Completion Stage.AtX
from_x = (Line.X 1 1 ∷ from_fraction.0, Way.go (May.x (omega arith, omega arith) (omega arith, omega arith)) from_fraction.1)

zero-bytes : (n k : ℕ) → get_or (replicate n 0) k 0 < 256
zero-bytes zero k = omega arith
zero-bytes (suc n) zero = omega arith
zero-bytes (suc n) (suc k) = zero-bytes n k

from_digest : Completion Stage.AtDigest
from_digest = (Line.Spec (replicate 32 0) ∷ from_x.0, Way.go (May.digest (record { count = refl; each = λ k. zero-bytes 32 k })) from_x.1)

from_after : (b : Bool) → Completion (cond b Stage.AtX Stage.AtDigest)
from_after true = from_x
from_after false = from_digest

from_mode : (v : ℕ) → Completion (Stage.AtMode v)
from_mode v = let c : Completion (after_mode v) = from_after (nat_eq v 1) in (Line.InMode mode.Unlabelled ∷ c.0, Way.go May.mode c.1)

-- From each stage on there are such lines.
pub completes : (stage : Stage) → (more : List Line) × Way stage more Stage.Over
completes Stage.AtVersion = (Line.Version 1 ∷ (from_mode 1).0, Way.go (May.version (inl refl)) (from_mode 1).1)
completes (Stage.AtMode v) = from_mode v
completes Stage.AtDigest = from_digest
completes Stage.AtX = from_x
completes Stage.AtFraction = from_fraction
completes Stage.AtWindow = from_window
completes (Stage.AtBase names) = from_base names
completes Stage.AtObject = from_object
completes Stage.AtText = from_text
completes Stage.AtCells = from_cells
completes Stage.AtEnd = (Line.End Undecided 0 0 0 0 ∷ [], Way.go (May.undecided (omega arith) (omega arith) (omega arith) (omega arith)) Way.stay)
completes Stage.Over = ([], Way.stay)
