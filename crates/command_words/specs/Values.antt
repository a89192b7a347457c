-- The values in what words give: which text stands for which value, what is accepted, and which
-- value is refused first.
use Rattle.std.specs.Prelude.{◌≡◌, ℕ, ◌^◌, ◌<◌, ◌≤◌, ◌⊎◌, List, [], ◌∷◌, Ok}
use Rattle.bz_model.specs.declared.fraction.Fraction.{Fraction}
use Rattle.bz_model.specs.FractionRead.{ReadsAs}
use Rattle.bz_model.specs.Number.{IsNumber, number_value}
use Rattle.command_words.specs.declared.fault.ValueName.{ValueName}
use Rattle.command_words.specs.declared.fault.ValueName.TheVariants as value
use Rattle.command_words.specs.declared.names.CommandName.{CommandName}
use Rattle.command_words.specs.declared.names.CommandName.TheVariants.{Oracle, Sample, Pool, Bulk}
use Rattle.command_words.specs.declared.names.CommandName.TheVariants.{Chance, Count, Unrank}
use Rattle.command_words.specs.declared.names.OptionName.TheVariants as option
use Rattle.command_words.specs.Words.{Given}

-- The text of the x among a command's positional words: the second of an oracle, a sample, a pool
-- and a chance.
abbrev pub x_among : CommandName → List (List ℕ) → List (List ℕ)
x_among Oracle (file ∷ x ∷ _) = x ∷ []
x_among Sample (file ∷ x ∷ _) = x ∷ []
x_among Pool (file ∷ x ∷ _) = x ∷ []
x_among Chance (file ∷ x ∷ _) = x ∷ []
x_among _ _ = []

-- The text of the n among a command's positional words: the first of `bulk`, the second of `count`
-- and `unrank`.
abbrev pub n_among : CommandName → List (List ℕ) → List (List ℕ)
n_among Bulk (n ∷ _) = n ∷ []
n_among Count (file ∷ n ∷ _) = n ∷ []
n_among Unrank (file ∷ n ∷ _) = n ∷ []
n_among _ _ = []

-- The text of the rank among a command's positional words: the third of `unrank`.
abbrev pub rank_among : CommandName → List (List ℕ) → List (List ℕ)
rank_among Unrank (file ∷ n ∷ rank ∷ _) = rank ∷ []
rank_among _ _ = []

-- The texts that stand for a value in what a command is given; none where it isn't given.
abbrev pub texts_of : CommandName → Given → ValueName → List (List ℕ)
texts_of name given value.X = x_among name given.places
texts_of name given value.Seed = given.values option.Seed
texts_of name given value.Min = given.values option.Min
texts_of name given value.Max = given.values option.Max
texts_of name given value.Count = given.values option.Count
texts_of name given value.Turns = given.values option.Turns
texts_of name given value.Fraction = given.values option.Fraction
texts_of name given value.N = n_among name given.places
texts_of name given value.Rank = rank_among name given.places

-- A number may be the n of a command: from 1 to 1000 of `bulk`, up to 500 of the others.
abbrev pub MayBeN : CommandName → ℕ → Type 0
MayBeN Bulk n = (1 ≤ n) × (n ≤ 1000)
MayBeN name n = n ≤ 500

-- The limits of a value that is a number.
abbrev pub IsWithinValueLimits : CommandName → ValueName → ℕ → Type 0
IsWithinValueLimits name value.X n = ⊥
IsWithinValueLimits name value.Seed n = n < 2 ^ 64
IsWithinValueLimits name value.Min n = n ≤ 1000000
IsWithinValueLimits name value.Max n = n ≤ 1000000
IsWithinValueLimits name value.Count n = (1 ≤ n) × (n ≤ 100000)
IsWithinValueLimits name value.Turns n = (1 ≤ n) × (n ≤ 50000000)
IsWithinValueLimits name value.Fraction n = (n ≡ 40) ⊎ (n ≡ 48) ⊎ (n ≡ 52)
IsWithinValueLimits name value.N n = MayBeN name n
IsWithinValueLimits name value.Rank n = n < 2 ^ 128

-- A text stands for a number as this value of a command: it is the decimal number n without leading
-- zeros, and n is within the value's limits.
pub record StandsFor (name : CommandName) (asked : ValueName) (text : List ℕ) (n : ℕ) : Type 0 where
  pub is_number : IsNumber text
  pub is_value : number_value text ≡ n
  pub within : IsWithinValueLimits name asked n

-- A text is accepted as a value: as the x where it reads as a fraction, and as another where it
-- stands for a number.
abbrev pub IsAcceptedValue : CommandName → ValueName → List ℕ → Type 0
IsAcceptedValue name value.X text = (x : Fraction) × ReadsAs text (Ok x)
IsAcceptedValue name asked text = (n : ℕ) × StandsFor name asked text n

-- A value is refused where it is given and its text isn't accepted.
abbrev pub IsRefused : CommandName → ValueName → List (List ℕ) → Type 0
IsRefused name asked [] = ⊥
IsRefused name asked (text ∷ _) = ¬ (IsAcceptedValue name asked text)

-- A number is set where the text that is given stands for it, or where none is given and it is the
-- default.
abbrev pub IsSet : CommandName → ValueName → (default : ℕ) → List (List ℕ) → ℕ → Type 0
IsSet name asked default [] n = n ≡ default
IsSet name asked default (text ∷ _) n = StandsFor name asked text n

-- The place of a value in the order in which the values are tested.
abbrev pub order : ValueName → ℕ
order value.X = 0
order value.Seed = 1
order value.Min = 2
order value.Max = 3
order value.Count = 4
order value.Turns = 5
order value.Fraction = 6
order value.N = 7
order value.Rank = 8

-- A value is the first that is refused.
pub record IsFirstRefused (name : CommandName) (given : Given) (refused : ValueName) : Type 0 where
  pub here : IsRefused name refused (texts_of name given refused)
  pub none_before : (other : ValueName) → order other < order refused
      → ¬ (IsRefused name other (texts_of name given other))

-- No value is refused, and the least size, 0 where none is given, is above the greatest, 1000 where
-- none is given.
pub record IsEmptyWindow (name : CommandName) (given : Given) : Type 0 where
  pub none_refused : (any : ValueName) → ¬ (IsRefused name any (texts_of name given any))
  pub min : ℕ
  pub max : ℕ
  pub is_min : IsSet name value.Min 0 (given.values option.Min) min
  pub is_max : IsSet name value.Max 1000 (given.values option.Max) max
  pub above : max < min

-- A value is bad where it is the first that is refused; the least size is bad also where the window
-- is empty.
pub data IsBad (name : CommandName) (given : Given) : ValueName → Type 0 where
  refused : (first : ValueName) → IsFirstRefused name given first → IsBad name given first
  empty : IsEmptyWindow name given → IsBad name given value.Min
