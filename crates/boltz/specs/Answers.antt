-- What the program answers to words, in the files that it meets. Each command has its own file of
-- these definitions, and a line here.
use Rattle.std.specs.Prelude.{◌≡◌, ◌≢◌, ℕ, List, [], ◌∷◌, Option, Some}
use Rattle.bz_outside.specs.Outside.{Rose}
use Rattle.command_words.specs.Commands.{IsCommand, RefusesWords}
use Rattle.command_words.specs.Fractions.{fraction_bits}
use Rattle.command_words.specs.declared.command.Command.{Command}
use Rattle.command_words.specs.declared.command.Command.TheVariants as command
use Rattle.command_words.specs.declared.command.TapeWord.{TapeWord}
use Rattle.command_words.specs.declared.command.TapeWord.TheVariants as tape
use Rattle.command_words.specs.declared.fault.WordsFault.{WordsFault}
use Rattle.call_stages.specs.Outcomes.{Outcome, Says}
use Rattle.certificate_commands.specs.VerifyCommand.{CarriesVerify}
use Rattle.certificate_commands.specs.MigrateCommand.{CarriesMigrate}
use Rattle.bulk_command.specs.BulkCommand.{CarriesBulk}
use Rattle.pool_command.specs.PoolCommand.{CarriesPool}
use Rattle.point_command.specs.PointCommand.{CarriesPoint}
use Rattle.chance_command.specs.ChanceCommand.{CarriesChance}
use Rattle.rank_commands.specs.CountCommand.{CarriesCount}
use Rattle.rank_commands.specs.UnrankCommand.{CarriesUnrank}
use Rattle.rank_commands.specs.RankCommand.{CarriesRank}
use Rattle.boltz.specs.OracleCommand.{CarriesOracle}
use Rattle.call_stages.specs.Refusals.{words_line}
use Rattle.sample_command.specs.SampleCommand.{CarriesSample}
use Rattle.boltz.specs.SpecCommand.{CarriesSpec}
use Rattle.call_stages.specs.Stages.{Files, AreCalm}
use Rattle.call_stages.specs.declared.status.Status.{Status}

-- What a call meets: its words and the files.
pub record World : Type 0 where
  pub words : List (List ℕ)
  pub files : Files

abbrev pub world : (words : List (List ℕ)) → Files → World
world words files = record { words = words; files = files }

-- What comes of a command.
abbrev pub Carries : Files → Command → Outcome
Carries f (command.Spec file) = CarriesSpec f file
Carries f (command.Oracle file x F) = CarriesOracle f file x (fraction_bits F)
Carries f (command.Sample file x word limits F fast) =
    CarriesSample f file x word limits (fraction_bits F) fast
Carries f (command.Pool file x schedule tapes limits F) =
    CarriesPool f file x schedule tapes limits (fraction_bits F)
Carries f (command.Verify file cert) = CarriesVerify f file cert
Carries f (command.Migrate file cert) = CarriesMigrate f file cert
Carries f (command.Bulk n F) = CarriesBulk n (fraction_bits F)
Carries f (command.Point file) = CarriesPoint f file
Carries f (command.Chance file x object F) = CarriesChance f file x object (fraction_bits F)
Carries f (command.Count file n) = CarriesCount f file n
Carries f (command.Unrank file n number) = CarriesUnrank f file n number
Carries f (command.Rank file object) = CarriesRank f file object

-- Words that stand for no command are refused for a reason; memory may run out instead.
pub data Unworded (fault : WordsFault) (status : Status) (text : List ℕ) (ticks : ℕ) : Type 0 where
  refused : fault ≢ WordsFault.OutOfMemory
      → Says Status.WordsRefused (words_line fault) 0 status text ticks
      → Unworded fault status text ticks
  no_memory : Says Status.OutOfMemory [] 0 status text ticks → Unworded fault status text ticks

-- Words are read: they are refused, or they stand for a command and it is carried out.
pub data Answers (w : World) (status : Status) (text : List ℕ) (ticks : ℕ) : Type 0 where
  refused : (fault : WordsFault) → RefusesWords w.words fault → Unworded fault status text ticks
      → Answers w status text ticks
  carried : (asked : Command) → IsCommand w.words asked → Carries w.files asked status text ticks
      → Answers w status text ticks

-- The file of a tape; a seed has none.
abbrev pub tape_files : TapeWord → List (List ℕ)
tape_files (tape.File name) = name ∷ []
tape_files (tape.Seed seed) = []

-- The files that a command reads; `bulk` reads none.
abbrev pub files_of : Command → List (List ℕ)
files_of (command.Spec file) = file ∷ []
files_of (command.Oracle file x F) = file ∷ []
files_of (command.Sample file x word limits F fast) = file ∷ tape_files word
files_of (command.Pool file x schedule tapes limits F) = file ∷ schedule ∷ tapes
files_of (command.Verify file cert) = file ∷ cert ∷ []
files_of (command.Migrate file cert) = file ∷ cert ∷ []
files_of (command.Bulk n F) = []
files_of (command.Point file) = file ∷ []
files_of (command.Chance file x object F) = file ∷ object ∷ []
files_of (command.Count file n) = file ∷ []
files_of (command.Unrank file n number) = file ∷ []
files_of (command.Rank file object) = file ∷ object ∷ []

-- A call is undisturbed where each file that its words ask to read is known and no read of it
-- failed.
pub record IsUndisturbed (w : World) : Type 0 where
  pub calm : (asked : Command) → IsCommand w.words asked → AreCalm w.files (files_of asked)
