-- When the answer is certain: what is certain to be printed, to be refused, to be bounded, to be
-- drawn, and to be counted.
use Rattle.std.specs.Prelude.{true, ◌≡◌, ℕ, Bool, List, take, Option, Some, None}
use Rattle.bz_model.specs.Spec.{Spec}
use Rattle.bz_model.specs.WellFounded.{IsWellFounded}
use Rattle.bz_model.specs.declared.fraction.Fraction.{Fraction}
use Rattle.bit_tape.specs.Tape.{bits_of_source}
use Rattle.newton_upper.specs.BaseRule.{base_of}
use Rattle.oracle_memo.specs.Levels.{level_bounds_from}
use Rattle.rounded_map.specs.RoundedMap.{Setting, setting}
use Rattle.size_window.specs.Drawing.{limits_of}
use Rattle.size_window.specs.RunByBits.{Limits as Window, Course, Ending, after}
use Rattle.size_window.specs.declared.limits.Limits.{Limits}
use Rattle.command_words.specs.Commands.{IsCommand}
use Rattle.command_words.specs.declared.command.Command.{Command}
use Rattle.command_words.specs.declared.command.Command.TheVariants as command
use Rattle.command_words.specs.declared.command.FractionBits.{FractionBits}
use Rattle.command_words.specs.declared.command.TapeWord.{TapeWord}
use Rattle.command_words.specs.Fractions.{fraction_bits}
use Rattle.bulk_command.specs.BulkCommand.{bulk_course}
use Rattle.bulk_command.specs.BulkTables.{bulk_tables}
use Rattle.boltz.specs.Answers.{World}
use Rattle.boltz.specs.Commands.{Specifies}
use Rattle.sample_command.specs.Drawn.{HasFailed, sampling}
use Rattle.sample_command.specs.SampleCommand.{source_of, tape_in}
use Rattle.sample_command.specs.Starts.{start_of}
use Rattle.call_stages.specs.Stages.{IsAccepted, HasFailedRead, HasSpecification}

-- The words stand for a command, this file is known to have these bytes, and no read of it failed
-- in the call.
pub record IsGiven (w : World) (c : Command) (file bytes : List ℕ) : Type 0 where
  pub named : IsCommand w.words c
  pub is_known : w.files.content file ≡ Some bytes
  pub no_fault : ¬ (HasFailedRead w.files file)

-- The words stand for a command, and this file has a specification: its bytes are known, no read of
-- it failed, and they describe one that is within the limits and well founded.
pub record IsFit (w : World) (c : Command) (file : List ℕ) (s : Spec) : Type 0 where
  pub named : IsCommand w.words c
  pub has : HasSpecification w.files file s

-- The words ask to print this specification.
pub record AsksToPrint (w : World) (s : Spec) : Type 0 where
  pub file : List ℕ
  pub fit : IsFit w (command.Spec file) file s

-- What is read of the specification's file stands for no specification within the limits that is
-- well founded.
pub record IsUnfit (w : World) : Type 0 where
  pub asked : Command
  pub file : List ℕ
  pub specifies : Specifies asked file
  pub bytes : List ℕ
  pub given : IsGiven w asked file bytes
  pub unfit : (s : Spec) → IsAccepted (take 65537 bytes) s → ¬ (IsWellFounded s)

-- The words ask to bound the classes of a specification at an x, in units of 2^-F, with this base.
pub record IsBoundable (w : World) (s : Spec) (x : Fraction) (F : FractionBits) (base : List ℕ)
    : Type 0 where
  pub file : List ℕ
  pub fit : IsFit w (command.Oracle file x F) file s
  pub has_base : base_of (setting s x.num x.den (fraction_bits F)) ≡ Some base

-- The words ask to bound the classes of a specification at an x, in units of 2^-F, without a base,
-- or to draw from it there.
pub data IsBaseless (w : World) (s : Spec) (x : Fraction) (F : FractionBits) : Type 0 where
  to_bound : (file : List ℕ) → IsFit w (command.Oracle file x F) file s
      → base_of (setting s x.num x.den (fraction_bits F)) ≡ None → IsBaseless w s x F
  to_draw : (file : List ℕ) (word : TapeWord) (limits : Limits) (fast : Bool)
      → IsFit w (command.Sample file x word limits F fast) file s
      → base_of (setting s x.num x.den (fraction_bits F)) ≡ None → IsBaseless w s x F

-- The words ask to draw from a specification by the fast vector of this base, which has none.
pub record IsWithoutFast (w : World) (s : Spec) (x : Fraction) (F : FractionBits) (base : List ℕ)
    : Type 0 where
  pub file : List ℕ
  pub word : TapeWord
  pub limits : Limits
  pub fit : IsFit w (command.Sample file x word limits F true) file s
  pub has_base : base_of (setting s x.num x.den (fraction_bits F)) ≡ Some base
  pub has_none : start_of true (setting s x.num x.den (fraction_bits F)) base ≡ None

-- The course of so many turns over the levels of a base, whose lower sweeps begin at a start, and
-- these bits, where no read fails.
abbrev pub undisturbed : Setting → (base start : List ℕ) → Window → (bits : ℕ → Option Bool)
    → (turns : ℕ) → Course
undisturbed t base start limits bits turns =
    after (sampling t.spec t.bits (level_bounds_from t start base) limits bits) (λ n. None) turns

-- The words ask to draw from a specification at an x within these limits, in units of 2^-F, by a
-- fast vector or from zero, with this base and this start. The bits of the tape are known to be
-- these, as those of a seed always are, no read of it failed in the call, and over them the course
-- of so many turns comes to this end.
pub record IsDrawable (w : World) (s : Spec) (x : Fraction) (F : FractionBits) (fast : Bool)
    (limits : Limits) (base start : List ℕ) (bits : ℕ
    → Option Bool) (turns : ℕ) (ending : Ending) : Type 0 where
  pub file : List ℕ
  pub word : TapeWord
  pub fit : IsFit w (command.Sample file x word limits F fast) file s
  pub has_base : base_of (setting s x.num x.den (fraction_bits F)) ≡ Some base
  pub has_start : start_of fast (setting s x.num x.den (fraction_bits F)) base ≡ Some start
  pub are_told : bits_of_source (source_of word) w.files.content ≡ Some bits
  pub no_fault : ¬ (HasFailed (tape_in w.files (source_of word)))
  pub ends : (undisturbed (setting s x.num x.den (fraction_bits F)) base start (limits_of limits)
      bits turns).state.ending ≡ Some ending

-- The words ask for the run of a number, in units of 2^-F; its specification has this base at 3/16,
-- and over it the course of so many turns comes to this end.
pub record IsCountable (w : World) (n : ℕ) (F : FractionBits) (base : List ℕ) (turns : ℕ)
    (ending : Ending) : Type 0 where
  pub named : IsCommand w.words (command.Bulk n F)
  pub has_base : base_of (setting (bulk_tables n) 3 16 (fraction_bits F)) ≡ Some base
  pub ends : (bulk_course n (setting (bulk_tables n) 3 16 (fraction_bits F)) base
      turns).state.ending ≡ Some ending
