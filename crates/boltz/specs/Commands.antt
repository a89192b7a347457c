-- Which words are refused, and which specification a command reads.
use Rattle.std.specs.Prelude.{◌≡◌, ◌≢◌, ℕ, List}
use Rattle.command_words.specs.Commands.{IsCommand, RefusesWords}
use Rattle.command_words.specs.declared.command.Command.{Command}
use Rattle.command_words.specs.declared.command.Command.TheVariants as command
use Rattle.command_words.specs.declared.fault.WordsFault.{WordsFault}

-- A command reads its specification from this file; `bulk` makes its own.
abbrev pub Specifies : Command → (file : List ℕ) → Type 0
Specifies (command.Spec file) name = file ≡ name
Specifies (command.Oracle file x F) name = file ≡ name
Specifies (command.Sample file x word limits F fast) name = file ≡ name
Specifies (command.Pool file x schedule tapes limits F) name = file ≡ name
Specifies (command.Verify file cert) name = file ≡ name
Specifies (command.Migrate file cert) name = file ≡ name
Specifies (command.Bulk n F) name = ⊥
Specifies (command.Point file) name = file ≡ name
Specifies (command.Chance file x object F) name = file ≡ name
Specifies (command.Count file n) name = file ≡ name
Specifies (command.Unrank file n number) name = file ≡ name
Specifies (command.Rank file object) name = file ≡ name

-- There are words that stand for a command.
pub record IsStoodFor (asked : Command) : Type 0 where
  pub words : List (List ℕ)
  pub is : IsCommand words asked

-- Words are refused where they stand for no command.
pub record AreRefused (words : List (List ℕ)) : Type 0 where
  pub fault : WordsFault
  pub not_memory : fault ≢ WordsFault.OutOfMemory
  pub refuses : RefusesWords words fault
