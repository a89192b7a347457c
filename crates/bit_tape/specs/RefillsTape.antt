-- What it means that a tape read on, or that it could not.
use Rattle.std.specs.Prelude.{◌≡◌, ℕ, ◌/◌, ◌^◌, ◌<◌, ◌≤◌, List, true, false, Option, ◌⊎◌}
use Rattle.bit_tape.specs.declared.source.Refill.{Refill}
use Rattle.bit_tape.specs.declared.source.Refill.TheVariants.{Bytes, Ended, ReadFault}
use Rattle.bit_tape.specs.Tape.{TapeState, CountsFault}
use Rattle.bit_tape.specs.Refill.{HasBytes, HasEnded}

-- What each answer says. But for bytes, the tape stays as it was.
abbrev pub RefillsTape : Refill → (contents : List ℕ → Option (List ℕ)) → (before now : List ℕ → ℕ)
    → (old new : TapeState) → Type 0
RefillsTape Bytes contents before now old new = CountsFault false old.source before now
    × HasBytes old.source contents (old.used / 8) new.ahead
RefillsTape Ended contents before now old new = CountsFault false old.source before now
    × ((2 ^ 60 ≤ old.used / 8) ⊎ HasEnded old.source contents (old.used / 8)) × (new ≡ old)
RefillsTape ReadFault contents before now old new = (old.used / 8 < 2 ^ 60)
    × CountsFault true old.source before now × (new ≡ old)
