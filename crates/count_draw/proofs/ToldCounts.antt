-- The answer that a choice gives tells the draw of this choice, and is no fault.
use Rattle.std.proofs.Common.{ℕ, Bool, List, Option, false}
use Rattle.bz_model.specs.declared.cell.Cell.{Cell}
use Rattle.bit_tape.specs.Tape.{TapeState, LeavesTape}
use Rattle.choice_draw.specs.Decision.{Choice}
use Rattle.choice_draw.specs.Draw.{Draw}
use Rattle.choice_draw.specs.Answer.{IsDraw}
use Rattle.count_draw.specs.declared.kind.CountChoice.{CountChoice}
use Rattle.count_draw.specs.declared.kind.CountChoice.TheVariants.{Take, Over}
use Rattle.count_draw.specs.Decision.{choice_meant}
use Rattle.count_draw.specs.Answer.{answer_of, told_count, is_count_fault}

-- If a choice with its cell is the draw over the bits that were given, so is the draw that its
-- answer tells.
pub told-answer : (decide : Cell → Option Choice) (told : Option (ℕ → Option Bool)) (start used : ℕ) (c : CountChoice) (cell : Cell) → IsDraw decide told start used (Draw.Decided (choice_meant c) cell) → IsDraw decide told start used (told_count (answer_of c cell) used)
told-answer decide told start used (Take i) cell d = d
told-answer decide told start used Over cell d = d

-- What a call without a failed read leaves of the tape and its shelf is what it leaves where a
-- choice's answer is given.
pub answer-leaves : {S : Type 0} (contents : S → List ℕ → Option (List ℕ)) (counts : S → List ℕ → ℕ) (before now : S) (old new : TapeState) (c : CountChoice) (cell : Cell) → LeavesTape contents counts false before now old new → LeavesTape contents counts (is_count_fault (answer_of c cell)) before now old new
answer-leaves contents counts before now old new (Take i) cell l = l
answer-leaves contents counts before now old new Over cell l = l
