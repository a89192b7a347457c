-- The command that words stand for, and why words stand for none.
use Rattle.std.specs.Prelude.{◌≡◌, ℕ, ◌≤◌, List, [], ◌∷◌, Ok, ⊤, Bool, if◌then◌else◌}
use Rattle.bz_model.specs.declared.fraction.Fraction.{Fraction}
use Rattle.bz_model.specs.FractionRead.{ReadsAs}
use Rattle.size_window.specs.declared.limits.Limits.{Limits}
use Rattle.command_words.specs.declared.command.Command.{Command}
use Rattle.command_words.specs.declared.command.Command.TheVariants as command
use Rattle.command_words.specs.declared.command.FractionBits.{FractionBits}
use Rattle.command_words.specs.declared.command.TapeWord.{TapeWord}
use Rattle.command_words.specs.declared.command.TapeWord.TheVariants as tape
use Rattle.command_words.specs.declared.fault.ValueName.{ValueName}
use Rattle.command_words.specs.declared.fault.ValueName.TheVariants as value
use Rattle.command_words.specs.declared.fault.WordsFault.{WordsFault}
use Rattle.command_words.specs.declared.fault.WordsFault.TheVariants.{NotACommand, BadValue}
use Rattle.command_words.specs.declared.fault.WordsFault.TheVariants.{OutOfMemory}
use Rattle.command_words.specs.declared.names.CommandName.{CommandName}
use Rattle.command_words.specs.declared.names.CommandName.TheVariants as name
use Rattle.command_words.specs.declared.names.OptionName.TheVariants as option
use Rattle.command_words.specs.Words.{Argument, Given, given_by, HasForm, IsNoCommand}
use Rattle.command_words.specs.Fractions.{fraction_bits}
use Rattle.command_words.specs.Values.{StandsFor, IsSet, IsBad}

-- The bits of a sample are those of the tape that is given, or of the seed.
pub data IsTape (given : Given) : TapeWord → Type 0 where
  file : (word : List ℕ) → given.values option.Tape ≡ word ∷ [] → IsTape given (tape.File word)
  seed : (text : List ℕ) (n : ℕ) → given.values option.Seed ≡ text ∷ []
      → StandsFor name.Sample value.Seed text n → IsTape given (tape.Seed n)

-- The limits of a drawing are the numbers that are given, or their defaults, and the window isn't
-- empty.
pub record AreLimitsAsked (asked : CommandName) (given : Given) (limits : Limits) : Type 0 where
  pub min : IsSet asked value.Min 0 (given.values option.Min) limits.min
  pub max : IsSet asked value.Max 1000 (given.values option.Max) limits.max
  pub count : IsSet asked value.Count 1 (given.values option.Count) limits.count
  pub turns : IsSet asked value.Turns 1000000 (given.values option.Turns) limits.turns
  pub window : limits.min ≤ limits.max

-- The fraction bits are those that are given, or 48.
pub record AreFractionBits (asked : CommandName) (given : Given) (bits : FractionBits) : Type 0
  where
    pub is : IsSet asked value.Fraction 48 (given.values option.Fraction) (fraction_bits bits)

-- A sample is fast where `--fast` stands once, and isn't where it doesn't stand.
pub record IsFast (given : Given) (fast : Bool) : Type 0 where
  pub is : given.fast ≡ (if fast then 1 else 0)

-- What is given makes a command of a name: its files, its x, its numbers, and whether it is fast.
pub data Makes (given : Given) : CommandName → Command → Type 0 where
  spec : (file : List ℕ) → given.places ≡ file ∷ [] → Makes given name.Spec (command.Spec file)
  oracle : (file text : List ℕ) (x : Fraction) (bits : FractionBits)
      → given.places ≡ file ∷ text ∷ [] → ReadsAs text (Ok x)
      → AreFractionBits name.Oracle given bits
      → Makes given name.Oracle (command.Oracle file x bits)
  sample : (file text : List ℕ) (x : Fraction) (tape_word : TapeWord) (limits : Limits)
      (bits : FractionBits) (fast : Bool) → given.places ≡ file ∷ text ∷ [] → ReadsAs text (Ok x)
      → IsTape given tape_word → AreLimitsAsked name.Sample given limits
      → AreFractionBits name.Sample given bits → IsFast given fast
      → Makes given name.Sample (command.Sample file x tape_word limits bits fast)
  pool : (file text schedule : List ℕ) (tapes : List (List ℕ)) (x : Fraction) (limits : Limits)
      (bits : FractionBits) → given.places ≡ file ∷ text ∷ schedule ∷ tapes → ReadsAs text (Ok x)
      → AreLimitsAsked name.Pool given limits → AreFractionBits name.Pool given bits
      → Makes given name.Pool (command.Pool file x schedule tapes limits bits)
  verify : (file cert : List ℕ) → given.places ≡ file ∷ cert ∷ []
      → Makes given name.Verify (command.Verify file cert)
  migrate : (file cert : List ℕ) → given.places ≡ file ∷ cert ∷ []
      → Makes given name.Migrate (command.Migrate file cert)
  bulk : (text : List ℕ) (n : ℕ) (bits : FractionBits) → given.places ≡ text ∷ []
      → StandsFor name.Bulk value.N text n → AreFractionBits name.Bulk given bits
      → Makes given name.Bulk (command.Bulk n bits)
  point : (file : List ℕ) → given.places ≡ file ∷ [] → Makes given name.Point (command.Point file)
  chance : (file text object : List ℕ) (x : Fraction) (bits : FractionBits)
      → given.places ≡ file ∷ text ∷ object ∷ [] → ReadsAs text (Ok x)
      → AreFractionBits name.Chance given bits
      → Makes given name.Chance (command.Chance file x object bits)
  count : (file text : List ℕ) (n : ℕ) → given.places ≡ file ∷ text ∷ []
      → StandsFor name.Count value.N text n → Makes given name.Count (command.Count file n)
  unrank : (file text rank_text : List ℕ) (n number : ℕ) → given.places ≡ file ∷ text ∷ rank_text
      ∷ [] → StandsFor name.Unrank value.N text n
      → StandsFor name.Unrank value.Rank rank_text number
      → Makes given name.Unrank (command.Unrank file n number)
  rank : (file object : List ℕ) → given.places ≡ file ∷ object ∷ []
      → Makes given name.Rank (command.Rank file object)

-- Words stand for a command where they have its form and what they give makes it.
pub record IsCommand (words : List (List ℕ)) (stood_for : Command) : Type 0 where
  pub name : CommandName
  pub arguments : List Argument
  pub form : HasForm words name arguments
  pub made : Makes (given_by arguments) name stood_for

-- Words have the form of a command, and a value in them is bad.
pub record IsBadValue (words : List (List ℕ)) (refused : ValueName) : Type 0 where
  pub name : CommandName
  pub arguments : List Argument
  pub form : HasForm words name arguments
  pub bad : IsBad name (given_by arguments) refused

-- What a refusal says of words. Want of memory says nothing.
abbrev pub RefusesWords : List (List ℕ) → WordsFault → Type 0
RefusesWords words NotACommand = IsNoCommand words
RefusesWords words (BadValue refused) = IsBadValue words refused
RefusesWords words OutOfMemory = ⊤
