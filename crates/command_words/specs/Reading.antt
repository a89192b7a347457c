-- What the steps of reading words answer: an argument in front of words, the form of a command, and
-- its values.
use Rattle.std.specs.Prelude.{◌≡◌, ℕ, ◌+◌, ◌<◌, ◌≤◌, List, [], ◌∷◌, ◌++◌, length, All, Option, Some}
use Rattle.std.specs.Prelude.{None, Ok, ⊤}
use Rattle.bz_model.specs.declared.fraction.Fraction.{Fraction}
use Rattle.bz_model.specs.FractionRead.{ReadsAs}
use Rattle.command_words.specs.declared.fault.ValueName.{ValueName}
use Rattle.command_words.specs.declared.fault.ValueName.TheVariants as value
use Rattle.command_words.specs.declared.fault.WordsFault.{WordsFault}
use Rattle.command_words.specs.declared.fault.WordsFault.TheVariants.{NotACommand, BadValue}
use Rattle.command_words.specs.declared.fault.WordsFault.TheVariants.{OutOfMemory}
use Rattle.command_words.specs.declared.names.CommandName.{CommandName}
use Rattle.command_words.specs.declared.names.CommandName.TheVariants.{Sample}
use Rattle.command_words.specs.declared.names.OptionName.{OptionName}
use Rattle.command_words.specs.declared.names.OptionName.TheVariants as option
use Rattle.command_words.specs.declared.values.Values.{Values}
use Rattle.command_words.specs.Words.{Argument, Given, given_by, words_of, places_of, values_of}
use Rattle.command_words.specs.Words.{times_fast, fewest_places, most_places, most_values}
use Rattle.command_words.specs.Words.{most_fast, HasPlainText, HasForm}
use Rattle.command_words.specs.Values.{IsSet, IsBad, x_among, n_among, rank_among}
use Rattle.command_words.specs.Commands.{AreLimitsAsked, AreFractionBits}

-- What is given with one argument more: its positional word behind the others, its value behind
-- those of its option, or `--fast` once more.
pub record Adds (old new : Given) (argument : Argument) : Type 0 where
  pub places : new.places ≡ old.places ++ places_of (argument ∷ [])
  pub values : (option : OptionName) → new.values option ≡ old.values option
      ++ values_of (argument ∷ []) option
  pub fast : new.fast ≡ old.fast + times_fast (argument ∷ [])

-- A command takes an argument beside what is given: a positional word always, an option or `--fast`
-- where it takes it once more.
abbrev pub TakesMore : CommandName → Given → Argument → Type 0
TakesMore name given (Argument.Positional word) = ⊤
TakesMore name given (Argument.Setting option value) =
    length (given.values option) < most_values name option
TakesMore name given Argument.Fast = given.fast < most_fast name

-- Words begin with an argument that a command takes beside what is given, and others stand behind
-- it.
pub record BeginsWith (name : CommandName) (given : Given) (words : List (List ℕ))
    (argument : Argument) (others : List (List ℕ)) : Type 0 where
  pub spelled : words ≡ words_of (argument ∷ []) ++ others
  pub plain : HasPlainText argument
  pub taken : TakesMore name given argument

-- An argument in front of words is read: it is added to what is given, and others stand behind it.
pub record ReadsArgument (name : CommandName) (old new : Given) (words others : List (List ℕ))
    : Type 0 where
  pub argument : Argument
  pub front : BeginsWith name old words argument others
  pub added : Adds old new argument

-- Words begin with no argument that a command takes beside what is given.
pub record BeginsWithNone (name : CommandName) (given : Given) (words : List (List ℕ)) : Type 0
  where
    pub nothing : (argument : Argument) (others : List (List ℕ))
        → ¬ (BeginsWith name given words argument others)

-- Words are those of arguments, each of them plain, and none more often than a command takes it.
pub record AreArguments (name : CommandName) (words : List (List ℕ)) (arguments : List Argument)
    : Type 0 where
  pub spelled : words ≡ words_of arguments
  pub plain : All HasPlainText arguments
  pub options : (option : OptionName)
      → length (values_of arguments option) ≤ most_values name option
  pub fast : times_fast arguments ≤ most_fast name

-- What is given is what the arguments give whose words these are.
pub record GivesArguments (name : CommandName) (words : List (List ℕ)) (given : Given) : Type 0
  where
    pub arguments : List Argument
    pub are : AreArguments name words arguments
    pub is : given ≡ given_by arguments

-- Words are those of no arguments that a command takes.
pub record AreNoArguments (name : CommandName) (words : List (List ℕ)) : Type 0 where
  pub nothing : (arguments : List Argument) → ¬ (AreArguments name words arguments)

-- What is given is complete: there are neither too few nor too many positional words, and for
-- `sample` either a tape or a seed.
pub record IsComplete (name : CommandName) (given : Given) : Type 0 where
  pub not_too_few : fewest_places name ≤ length given.places
  pub not_too_many : length given.places ≤ most_places name
  pub tape_or_seed : name ≡ Sample
      → length (given.values option.Tape) + length (given.values option.Seed) ≡ 1

-- Words have the form of a command of this name, whose arguments give this.
pub record GivesForm (words : List (List ℕ)) (name : CommandName) (given : Given) : Type 0 where
  pub arguments : List Argument
  pub form : HasForm words name arguments
  pub is : given ≡ given_by arguments

-- A refusal is that words are no command, which is so where this holds, or want of memory; no value
-- is refused.
abbrev pub IfNoCommand : WordsFault → Type 0 → Type 0
IfNoCommand NotACommand says = says
IfNoCommand (BadValue refused) says = ⊥
IfNoCommand OutOfMemory says = ⊤

-- The x of what is given: none where a command has none.
abbrev pub IsX : List (List ℕ) → Option Fraction → Type 0
IsX [] None = ⊤
IsX (text ∷ _) (Some x) = ReadsAs text (Ok x)
IsX _ _ = ⊥

-- The values of what a command is given. A seed, an n or a rank that isn't given is 0.
pub record AreValues (name : CommandName) (given : Given) (values : Values) : Type 0 where
  pub x : IsX (x_among name given.places) values.x
  pub seed : IsSet name value.Seed 0 (given.values option.Seed) values.seed
  pub limits : AreLimitsAsked name given values.limits
  pub fraction : AreFractionBits name given values.fraction
  pub n : IsSet name value.N 0 (n_among name given.places) values.n
  pub rank : IsSet name value.Rank 0 (rank_among name given.places) values.rank

-- A refusal is that a value of what a command is given is bad.
pub record IsBadOne (name : CommandName) (given : Given) (fault : WordsFault) : Type 0 where
  pub refused : ValueName
  pub is : fault ≡ BadValue refused
  pub bad : IsBad name given refused
