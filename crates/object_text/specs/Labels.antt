-- How many labels are printed.
use Rattle.std.specs.Prelude.{◌≡◌, ℕ, List, [], length, Option, Some, None}
use Rattle.bz_model.specs.Spec.{Mode}
use Rattle.object_store.specs.declared.token.Token.{Token}
use Rattle.object_store.specs.Tokens.{size_of}

-- In labelled mode there is one label for each atom, and in unlabelled mode there is none.
abbrev pub HasOneForEach : Mode → List Token → List ℕ → Type 0
HasOneForEach Mode.Unlabelled tokens labels = labels ≡ []
HasOneForEach Mode.Labelled tokens labels = length labels ≡ size_of tokens

-- The labels in a list that may be missing.
abbrev pub listed : Option (List ℕ) → List ℕ
listed None = []
listed (Some labels) = labels

-- In labelled mode there is a list of labels, with one for each atom, and in unlabelled mode there
-- is no list.
abbrev pub AreLabelsFor : Mode → List Token → Option (List ℕ) → Type 0
AreLabelsFor Mode.Unlabelled tokens None = Unit {0}
AreLabelsFor Mode.Labelled tokens (Some labels) = length labels ≡ size_of tokens
AreLabelsFor mode tokens labels = ⊥
