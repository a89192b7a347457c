-- The command `sample`.
use Rattle.std.specs.Prelude.{ℕ, Bool, List}
use Rattle.bz_model.specs.Fraction.{ratio}
use Rattle.bz_model.specs.declared.fraction.Fraction.{Fraction}
use Rattle.bit_tape.specs.Tape.{TapeSource}
use Rattle.oracle_memo.specs.Levels.{level_bounds_from, cost_at}
use Rattle.rounded_map.specs.RoundedMap.{Setting, setting}
use Rattle.size_window.specs.RunByBits.{Limits as Window}
use Rattle.size_window.specs.Drawing.{limits_of}
use Rattle.size_window.specs.declared.limits.Limits.{Limits}
use Rattle.command_words.specs.declared.command.TapeWord.{TapeWord}
use Rattle.command_words.specs.declared.command.TapeWord.TheVariants as tape
use Rattle.sample_command.specs.Drawn.{TapeMet, Drawn, drawn_header}
use Rattle.sample_command.specs.Starts.{Started, format_of}
use Rattle.call_stages.specs.Outcomes.{Outcome}
use Rattle.call_stages.specs.Stages.{Files, Specified, Based}

-- The bits of a sample are those of the file that is named, or of the seed.
abbrev pub source_of : TapeWord → TapeSource
source_of (tape.File name) = TapeSource.Named name
source_of (tape.Seed seed) = TapeSource.Seeded seed

-- A tape in a call.
abbrev pub tape_in : Files → TapeSource → TapeMet
tape_in f source = record {
  source = source;
  contents = f.content;
  before = f.before;
  now =
      f.after;
}

-- Objects are drawn by the levels over a base whose lower sweeps begin at a start, after the header
-- that states the base.
abbrev pub DrawnFrom : (fast : Bool) → Setting → Window → TapeMet → (base start : List ℕ) → Outcome
DrawnFrom fast t limits tape base start =
    Drawn cost_at (drawn_header (format_of fast) t base limits) t.spec (ratio t.num t.den) t.bits
    (level_bounds_from t start base) limits tape

-- Over a base a start is searched, and objects are drawn.
abbrev pub DrawnOver : (fast : Bool) → Setting → Window → TapeMet → (base : List ℕ) → Outcome
DrawnOver fast t limits tape base = Started fast t base (DrawnFrom fast t limits tape base)

-- `sample FILE X`, with `--fast` or without: a specification is read and judged, a base and a start
-- are searched, and objects are drawn.
abbrev pub CarriesSample : Files → (file : List ℕ) → Fraction → TapeWord → Limits → (F : ℕ)
    → (fast : Bool) → Outcome
CarriesSample f file x word limits F fast =
    Specified f file
    (λ s. Based (setting s x.num x.den F)
    (DrawnOver fast (setting s x.num x.den F) (limits_of limits) (tape_in f (source_of word))))
