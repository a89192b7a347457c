-- What it means that a tape's buffer was filled, or that it could not be.
use Rattle.std.specs.Prelude.{◌≡◌, ℕ, ◌+◌, ◌^◌, ◌<◌, ◌≤◌, List, length, true, false, Option, IfSome}
use Rattle.bit_tape.specs.declared.source.Refill.{Refill}
use Rattle.bit_tape.specs.declared.source.Refill.TheVariants.{Bytes, Ended, ReadFault}
use Rattle.bit_tape.specs.Tape.{TapeSource, ReadsAhead, CountsFault}

-- The source has no byte at the place. A seed never ends.
abbrev pub HasEnded : TapeSource → (contents : List ℕ → Option (List ℕ)) → (place : ℕ) → Type 0
HasEnded (TapeSource.Named name) contents place =
    IfSome (contents name) (λ bytes. length bytes ≤ place)
HasEnded (TapeSource.Seeded seed) contents place = ⊥

-- There is a byte at least, none at or past 2^60, and they are those of the source.
pub record HasBytes (source : TapeSource) (contents : List ℕ
    → Option (List ℕ)) (place : ℕ) (ahead : List ℕ) : Type 0 where
  pub some : 0 < length ahead
  pub room : place + length ahead ≤ 2 ^ 60
  pub told : ReadsAhead source contents place ahead

-- What each answer says. But for bytes, the buffer stays as it was.
abbrev pub Refills : Refill → TapeSource → (contents : List ℕ → Option (List ℕ))
    → (before now : List ℕ → ℕ) → (place : ℕ) → (old new : List ℕ) → Type 0
Refills Bytes source contents before now place old new = CountsFault false source before now
    × HasBytes source contents place new
Refills Ended source contents before now place old new = CountsFault false source before now
    × HasEnded source contents place × (new ≡ old)
Refills ReadFault source contents before now place old new = CountsFault true source before now
    × (new ≡ old)
