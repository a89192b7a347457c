-- Where the reading of a certificate stops.
use Rattle.std.specs.Prelude.{◌≡◌, ℕ, List, length}
use Rattle.certificate.specs.declared.read.Stop.{Stop}
use Rattle.certificate.specs.declared.read.Stop.TheVariants.{At, OutOfMemory}
use Rattle.certificate.specs.Stages.{Stage, Fails}

-- A text fails from a stage on where so many of its bytes are left.
pub record FailsAt (stage : Stage) (text : List ℕ) (left : ℕ) : Type 0 where
  pub rest : List ℕ
  pub fails : Fails stage text rest
  pub count : left ≡ length rest

-- Reading stops where no line that may stand next is in front; want of memory says nothing.
abbrev pub LinesStopAt : Stage → List ℕ → Stop → Type 0
LinesStopAt stage text (At left) = FailsAt stage text left
LinesStopAt stage text OutOfMemory = Unit {0}
