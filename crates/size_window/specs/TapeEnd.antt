-- How many bits a course uses, and when a tape's end is met.
use Rattle.std.specs.Prelude.{◌≡◌, ◌≢◌, ℕ, ◌*◌, ◌^◌, ◌≤◌, max, min, List, length, Some}
use Rattle.bz_model.specs.declared.cell.Bounds.{Bounds}
use Rattle.bz_model.specs.Fraction.{Fraction}
use Rattle.bz_model.specs.Spec.{Spec}
use Rattle.bit_tape.specs.Bits.{file_bit, seed_bit}
use Rattle.class_system.specs.Sound.{IsSound}
use Rattle.size_window.specs.RunByBits.{Limits, Ending, Course}
use Rattle.size_window.specs.Drawing.{AreLimits}
use Rattle.size_window.specs.Trace.{IsTrace}

-- The most bits that a turn takes: 60 for one number, and 60 for each atom of a shape that is
-- labelled.
abbrev pub bits_a_turn : Limits → ℕ
bits_a_turn limits = 60 * max 1 limits.max

-- A course uses few bits where it counts no more turns than the limit, and for each of them uses no
-- more bits than a turn takes.
pub record UsesFewBits (limits : Limits) (c : Course) : Type 0 where
  pub turns : c.state.turns ≤ limits.turns
  pub bits : c.state.attempt.used ≤ c.state.turns * bits_a_turn limits

-- A trace over the bits of a file ends with the tape's end only where it used all of them: 8 for
-- each byte, and 2^63 at most.
abbrev pub FilesEndRightly : Type 0
FilesEndRightly = (s : Spec) (x : Fraction) (F : ℕ) (table : (level node : ℕ) → Bounds)
    (limits : Limits) (bytes : List ℕ) (turns most : ℕ) (c : Course)
    → IsTrace s x F table limits (Some (file_bit bytes)) turns most c
    → c.state.ending ≡ Some Ending.TapeEnded → c.state.attempt.used ≡ min (8 * length bytes)
    (2 ^ 63)

-- A trace over the bits of a seed never ends with the tape's end, within the limits.
abbrev pub SeedsNeverEnd : Type 0
SeedsNeverEnd = (s : Spec) (x : Fraction) (F : ℕ) (table : (level node : ℕ) → Bounds)
    (limits : Limits) (seed turns most : ℕ) (c : Course) → IsSound s → AreLimits limits
    → IsTrace s x F table limits (Some (seed_bit seed)) turns most c
    → c.state.ending ≢ Some Ending.TapeEnded
