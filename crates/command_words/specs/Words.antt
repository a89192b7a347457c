-- The form of a command's words: its name, and after it positional words and options in any order.
use Rattle.std.specs.Prelude.{◌≡◌, ◌≢◌, ◌==◌, ℕ, ◌+◌, ◌<◌, ◌≤◌, List, [], ◌∷◌, length, slice_index}
use Rattle.std.specs.Prelude.{codes, All, if◌then◌else◌, ⊤}
use Rattle.command_words.specs.declared.names.CommandName.{CommandName}
use Rattle.command_words.specs.declared.names.CommandName.TheVariants.{Spec, Oracle, Sample, Pool}
use Rattle.command_words.specs.declared.names.CommandName.TheVariants.{Verify, Migrate, Bulk, Point}
use Rattle.command_words.specs.declared.names.CommandName.TheVariants.{Chance, Count, Unrank, Rank}
use Rattle.command_words.specs.declared.names.OptionName.{OptionName}
use Rattle.command_words.specs.declared.names.OptionName.TheVariants as option

-- The word that names a command.
abbrev pub command_word : CommandName → List ℕ
command_word Spec = codes "spec"
command_word Oracle = codes "oracle"
command_word Sample = codes "sample"
command_word Pool = codes "pool"
command_word Verify = codes "verify"
command_word Migrate = codes "migrate"
command_word Bulk = codes "bulk"
command_word Point = codes "point"
command_word Chance = codes "chance"
command_word Count = codes "count"
command_word Unrank = codes "unrank"
command_word Rank = codes "rank"

-- The word that names an option.
abbrev pub option_word : OptionName → List ℕ
option_word option.Tape = codes "--tape"
option_word option.Seed = codes "--seed"
option_word option.Min = codes "--min"
option_word option.Max = codes "--max"
option_word option.Count = codes "--count"
option_word option.Turns = codes "--turns"
option_word option.Fraction = codes "--fraction"

-- The word that asks for a fast sample. It takes no value.
abbrev pub fast_word : List ℕ
fast_word = codes "--fast"

-- An option's number, by which options are told apart.
abbrev pub option_number : OptionName → ℕ
option_number option.Tape = 0
option_number option.Seed = 1
option_number option.Min = 2
option_number option.Max = 3
option_number option.Count = 4
option_number option.Turns = 5
option_number option.Fraction = 6

-- An argument is a positional word, an option with its value, or the word `--fast`.
pub data Argument : Type 0 where
  Positional : (word : List ℕ) → Argument
  Setting : (option : OptionName) → (value : List ℕ) → Argument
  Fast : Argument

-- The words of arguments, in order: an option's word stands before its value.
abbrev pub words_of : List Argument → List (List ℕ)
words_of [] = []
words_of (Argument.Positional word ∷ arguments) = word ∷ words_of arguments
words_of (Argument.Setting option value ∷ arguments) = option_word option ∷ value
    ∷ words_of arguments
words_of (Argument.Fast ∷ arguments) = fast_word ∷ words_of arguments

-- The positional words among arguments, in order.
abbrev pub places_of : List Argument → List (List ℕ)
places_of [] = []
places_of (Argument.Positional word ∷ arguments) = word ∷ places_of arguments
places_of (Argument.Setting option value ∷ arguments) = places_of arguments
places_of (Argument.Fast ∷ arguments) = places_of arguments

-- The values that arguments give to an option, in order.
abbrev pub values_of : List Argument → OptionName → List (List ℕ)
values_of [] asked = []
values_of (Argument.Positional word ∷ arguments) asked = values_of arguments asked
values_of (Argument.Setting option value ∷ arguments) asked = if option_number option ==
    option_number asked then value ∷ values_of arguments asked else values_of arguments asked
values_of (Argument.Fast ∷ arguments) asked = values_of arguments asked

-- How often `--fast` stands among arguments.
abbrev pub times_fast : List Argument → ℕ
times_fast [] = 0
times_fast (Argument.Positional word ∷ arguments) = times_fast arguments
times_fast (Argument.Setting option value ∷ arguments) = times_fast arguments
times_fast (Argument.Fast ∷ arguments) = times_fast arguments + 1

-- What arguments give: positional words, the values of each option, and how often `--fast` stands
-- there.
pub record Given : Type 0 where
  pub places : List (List ℕ)
  pub values : OptionName → List (List ℕ)
  pub fast : ℕ

-- What these arguments give.
abbrev pub given_by : List Argument → Given
given_by arguments = record {
  places = places_of arguments;
  values = values_of arguments;
  fast =
      times_fast arguments;
}

-- The least number of positional words that a command takes.
abbrev pub fewest_places : CommandName → ℕ
fewest_places Spec = 1
fewest_places Oracle = 2
fewest_places Sample = 2
fewest_places Pool = 4
fewest_places Verify = 2
fewest_places Migrate = 2
fewest_places Bulk = 1
fewest_places Point = 1
fewest_places Chance = 3
fewest_places Count = 2
fewest_places Unrank = 3
fewest_places Rank = 2

-- The greatest number of positional words that a command takes: a pool has a file, an x, a schedule
-- and up to 64 tapes.
abbrev pub most_places : CommandName → ℕ
most_places Pool = 67
most_places name = fewest_places name

-- How often a command takes an option: once, or not at all.
abbrev pub most_values : CommandName → OptionName → ℕ
most_values Sample _ = 1
most_values Pool option.Tape = 0
most_values Pool option.Seed = 0
most_values Pool _ = 1
most_values Oracle option.Fraction = 1
most_values Bulk option.Fraction = 1
most_values Chance option.Fraction = 1
most_values _ _ = 0

-- How often a command takes `--fast`: a sample once, another not at all.
abbrev pub most_fast : CommandName → ℕ
most_fast Sample = 1
most_fast _ = 0

-- A command takes what is given: not too few and not too many positional words, each option and
-- `--fast` no more often than it takes it, and for `sample` either a tape or a seed.
pub record Takes (name : CommandName) (given : Given) : Type 0 where
  pub not_too_few : fewest_places name ≤ length given.places
  pub not_too_many : length given.places ≤ most_places name
  pub options : (option : OptionName) → length (given.values option) ≤ most_values name option
  pub fast : given.fast ≤ most_fast name
  pub tape_or_seed : name ≡ Sample
      → length (given.values option.Tape) + length (given.values option.Seed) ≡ 1

-- A positional word or a value isn't empty and doesn't begin with `-`.
pub record IsPlainWord (word : List ℕ) : Type 0 where
  pub some : 0 < length word
  pub plain : slice_index word 0 ≢ 45

-- The positional word or the value of an argument is plain, where it has one.
abbrev pub HasPlainText : Argument → Type 0
HasPlainText (Argument.Positional word) = IsPlainWord word
HasPlainText (Argument.Setting option value) = IsPlainWord value
HasPlainText Argument.Fast = ⊤

-- Each byte of a word is from 20 to 7E, hexadecimal.
pub record IsPrintable (word : List ℕ) : Type 0 where
  pub bytes : All (λ b. (32 ≤ b) × (b ≤ 126)) word

-- Words are those of a command with these arguments: its name and their words. Each positional word
-- and each value is plain, the command takes what they give, and every word is printable.
pub record HasForm (words : List (List ℕ)) (name : CommandName) (arguments : List Argument) : Type 0
  where
    pub spelled : words ≡ command_word name ∷ words_of arguments
    pub plain : All HasPlainText arguments
    pub taken : Takes name (given_by arguments)
    pub printable : All IsPrintable words

-- No command has these words.
pub record IsNoCommand (words : List (List ℕ)) : Type 0 where
  pub formless : (name : CommandName) (arguments : List Argument) → ¬ (HasForm words name arguments)
