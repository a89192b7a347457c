-- What a tape answers where a bit is asked, and what it leaves.
use Rattle.std.specs.Prelude.{◌≡◌, ◌+◌, Bool, true, false, Option, Some, None}
use Rattle.bit_tape.specs.declared.tape.BitAnswer.{BitAnswer}
use Rattle.bit_tape.specs.declared.tape.BitAnswer.TheVariants.{Bit, Ended, ReadFault}
use Rattle.bit_tape.specs.Tape.{TapeState}

-- A bit is the next one, and the end is met exactly where there is none. A failed read says nothing
-- of the bits.
abbrev pub TellsBit : BitAnswer → (next : Option Bool) → Type 0
TellsBit (Bit bit) next = next ≡ Some bit
TellsBit Ended next = next ≡ None
TellsBit ReadFault next = Unit {0}

-- The answer is that a read failed.
abbrev pub is_fault : BitAnswer → Bool
is_fault ReadFault = true
is_fault _ = false

-- A bit given counts as used. Every other answer leaves the tape as it was.
abbrev pub UsesOrLeavesTape : BitAnswer → (old new : TapeState) → Type 0
UsesOrLeavesTape (Bit bit) old new = new.used ≡ old.used + 1
UsesOrLeavesTape Ended old new = new ≡ old
UsesOrLeavesTape ReadFault old new = new ≡ old
