-- What an answer tells of the labelling.
use Rattle.std.specs.Prelude.{◌≡◌, ◌≢◌, ℕ, ◌+◌, ◌-◌, ◌<◌, ◌≤◌, Bool, true, false, List, ◌++◌}
use Rattle.std.specs.Prelude.{length, Option, Some, None, IfSome}
use Rattle.std.specs.List.{AllByRecursion}
use Rattle.bz_model.specs.declared.cell.Cell.{Cell}
use Rattle.bz_model.specs.Fraction.{Fraction}
use Rattle.bz_model.specs.Cell.{IsCell, AreInCells}
use Rattle.bz_model.specs.Labels.{IdealLabels, AreOneTo}
use Rattle.bit_tape.specs.Given.{HasBits, Gave}
use Rattle.choice_draw.specs.Draw.{bit_of}
use Rattle.labelling.specs.declared.labelled.Labelled.{Labelled}
use Rattle.labelling.specs.declared.labelled.Labelled.TheVariants.{Labels, Straddles, Ended}
use Rattle.labelling.specs.declared.labelled.Labelled.TheVariants.{ReadFault, OutOfMemory}
use Rattle.labelling.specs.LabelsByBits.{Labelling, bits_in, labelling}

-- The labelling that an answer tells, where it isn't want of memory. Where it was cut short, these
-- are the cells of the numbers finished; so many bits are used now.
abbrev pub told_labelling : Labelled → (finished : List Cell) → (used : ℕ) → Labelling
told_labelling (Labels labels cells) finished used = Labelling.Given labels cells.items used
told_labelling (Straddles m cell) finished used = Labelling.Straddled m cell finished used
told_labelling Ended finished used = Labelling.Ended finished used
told_labelling ReadFault finished used = Labelling.Failed finished used
told_labelling OutOfMemory finished used = Labelling.Ended finished used

-- The place at which the shelf failed, where the answer is that it did.
abbrev pub label_fault_place : Labelled → (used : ℕ) → Option ℕ
label_fault_place ReadFault used = Some used
label_fault_place _ used = None

-- The answer is that the shelf failed.
abbrev pub is_label_fault : Labelled → Bool
is_label_fault ReadFault = true
is_label_fault _ = false

-- Where the tape's end cut the labelling short, these bits end at the place used.
abbrev pub LabellingEndsThere : Labelled → (used : ℕ) → (bits : ℕ → Option Bool) → Type 0
LabellingEndsThere Ended used bits = bits used ≡ None
LabellingEndsThere _ used bits = Unit {0}

-- The bits used from one number to another are those of the cells, and those of the cell that
-- straddles, or fewer than 60 more where the tape ended or its shelf failed. Want of memory uses
-- none.
abbrev pub LabellingUsesBits : Labelled → (finished : List Cell) → (before after : ℕ) → Type 0
LabellingUsesBits (Labels labels cells) finished before after = after ≡ before + bits_in cells.items
LabellingUsesBits (Straddles m cell) finished before after = after
    ≡ before + bits_in finished + cell.b
LabellingUsesBits Ended finished before after =
    (before + bits_in finished ≤ after) × (after < before + bits_in finished + 60)
LabellingUsesBits ReadFault finished before after =
    (before + bits_in finished ≤ after) × (after < before + bits_in finished + 60)
LabellingUsesBits OutOfMemory finished before after = after ≡ before

-- An answer of a labelling of n atoms from the start on is the one over the bits that it was given:
-- it was given as many bits as were used, the tape's own where they are told; there are cells of
-- the numbers finished; and over every tape that has these bits there, and ends where the answer
-- says that it did, it is the labelling that they fix, where the shelf fails only if the answer
-- says so. Out of memory nothing was given.
pub record IsLabelling (told : Option (ℕ → Option Bool)) (n start : ℕ) (answer : Labelled)
    (used : ℕ) : Type 0 where
  pub given : List Bool
  pub gave : Gave told start used given
  pub ended : IfSome told (LabellingEndsThere answer used)
  pub finished : List Cell
  pub uses : LabellingUsesBits answer finished start used
  pub exact : (bits : ℕ → Option Bool) → HasBits bits start given
      → LabellingEndsThere answer used bits
      → answer ≢ OutOfMemory
      → told_labelling answer finished used
      ≡ labelling (bit_of bits (label_fault_place answer used)) n
      start

-- What is said of the labels and their cells holds, where the answer has them.
abbrev pub OnLabels : Labelled → (List ℕ → List Cell → Type 0) → Type 0
OnLabels (Labels labels cells) P = P labels cells.items
OnLabels _ P = Unit {0}

-- For every list of numbers in the cells, and any further numbers, these are the ideal labels of n
-- atoms, and the further numbers are left; so they are 1 to n in some order.
pub record AreIdealLabels (n : ℕ) (labels : List ℕ) (cells : List Cell) : Type 0 where
  pub labels_of : (us rest : List Fraction) → AreInCells us cells
      → IdealLabels n (us ++ rest) labels rest
  pub one_to : AreOneTo n labels

-- Each is a cell, and there is one for each of n atoms but the last.
pub record AreCellsOf (n : ℕ) (cells : List Cell) : Type 0 where
  pub count : length cells ≡ n - 1
  pub each : AllByRecursion (λ c. IsCell c.k c.b) cells

-- A cell that straddles has 60 bits and is that of a whole number below m, m being from 2 to n.
abbrev pub StraddlesAt : (n : ℕ) → Labelled → Type 0
StraddlesAt n (Straddles m cell) = (2 ≤ m) × (m ≤ n) × IsCell cell.k cell.b × (cell.b ≡ 60)
StraddlesAt n _ = Unit {0}
