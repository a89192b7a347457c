-- What the code has read, and what it answers of that.
use Rattle.std.specs.Prelude.{◌≡◌, ℕ, ◌-◌, true, List, length, Option}
use Rattle.bz_model.specs.Spec.{Mode}
use Rattle.bz_model.specs.Labels.{AreOneTo}
use Rattle.object_store.specs.declared.token.Token.{Token}
use Rattle.object_text.specs.declared.reader.Reader as code
use Rattle.object_text.specs.declared.fault.TextFault.{TextFault}
use Rattle.object_text.specs.declared.fault.TextFault.TheVariants as fault
use Rattle.object_text.specs.declared.scan.Stop.{Stop}
use Rattle.object_text.specs.declared.scan.Stop.TheVariants as stop
use Rattle.object_text.specs.Taken.{Taken}
use Rattle.object_text.specs.Reading.{told}
use Rattle.object_text.specs.Pieces.{ReadingState}

abbrev pub state : code.Reader → ReadingState
state r = record { taken = r.taken; stack = r.stack }

-- Sets and cycles stand in order, and the labels are 1 to their number, each once.
pub record IsOrderly (taken : Taken) : Type 0 where
  pub ordered : taken.ordered ≡ true
  pub one_to : AreOneTo (length taken.labels) taken.labels

-- What was read stands in order, and these are its tokens, and its labels in labelled mode.
pub record IsReadWhole (mode : Mode) (taken : Taken) (shape : List Token)
    (labels_told : Option (List ℕ)) : Type 0 where
  pub orderly : IsOrderly taken
  pub tokens : shape ≡ taken.tokens
  pub labels : labels_told ≡ told mode taken.labels

-- What was read doesn't stand in order, or memory ran out.
abbrev pub IsRefusedReading : Taken → TextFault → Type 0
IsRefusedReading taken (fault.NotObject place) = ⊥
IsRefusedReading taken fault.NotCanonical = ¬ (IsOrderly taken)
IsRefusedReading taken fault.OutOfMemory = Unit {0}

-- The fault of a text of so many bytes where reading it stopped.
abbrev pub stop_fault : ℕ → Stop → TextFault
stop_fault len (stop.At left) = fault.NotObject (len - left)
stop_fault len stop.OutOfMemory = fault.OutOfMemory
