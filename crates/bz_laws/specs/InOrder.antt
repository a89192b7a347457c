-- When the parts of the sets and cycles of an object stand in canonical order.
use Rattle.std.specs.Prelude.{◌≡◌, ℕ, ◌≤◌, List, [], ◌∷◌, take, drop}
use Rattle.bz_model.specs.Object.{Object, Objects, none, more}
use Rattle.bz_model.specs.Object.Object.{Unit_, Dot, Pick, Tuple, SeqOf, SetOf, CycOf}
use Rattle.bz_model.specs.Measures.{size}
use Rattle.bz_model.specs.ObjectText.{least_label}

-- The least label of each part, 0 for a part that holds none, each part taking as many labels as it
-- has atoms.
abbrev pub leasts : Objects → List ℕ → List ℕ
leasts none labels = []
leasts (more o os) labels = least_label (take (size o) labels) ∷ leasts os (drop (size o) labels)

-- From a on no number is greater than the next.
abbrev pub IsRisingFrom : ℕ → List ℕ → Type 0
IsRisingFrom a [] = Unit {0}
IsRisingFrom a (b ∷ numbers) = (a ≤ b) × IsRisingFrom b numbers

-- No number is greater than the next.
abbrev pub IsRising : List ℕ → Type 0
IsRising [] = Unit {0}
IsRising (a ∷ numbers) = IsRisingFrom a numbers

-- The first is the least of all, 0 standing for none.
abbrev pub BeginsWithLeast : List ℕ → Type 0
BeginsWithLeast [] = Unit {0}
BeginsWithLeast (a ∷ numbers) = a ≡ least_label (a ∷ numbers)

-- An object with its labels stands in order where each set's parts stand in the order of their
-- least labels, those without a label first, and each cycle begins with the part that holds its
-- least label.
abbrev mutual
  pub StandsInOrder : Object → List ℕ → Type 0
  StandsInOrder Unit_ labels = Unit {0}
  StandsInOrder Dot labels = Unit {0}
  StandsInOrder (Pick i o) labels = StandsInOrder o labels
  StandsInOrder (Tuple os) labels = AllStandInOrder os labels
  StandsInOrder (SeqOf os) labels = AllStandInOrder os labels
  StandsInOrder (SetOf os) labels = IsRising (leasts os labels) × AllStandInOrder os labels
  StandsInOrder (CycOf os) labels = BeginsWithLeast (leasts os labels) × AllStandInOrder os labels

  -- Each object of a list, with as many labels as it has atoms, stands in order.
  pub AllStandInOrder : Objects → List ℕ → Type 0
  AllStandInOrder none labels = Unit {0}
  AllStandInOrder (more o os) labels = StandsInOrder o (take (size o) labels)
      × AllStandInOrder os (drop (size o) labels)
