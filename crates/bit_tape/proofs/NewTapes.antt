-- Tapes that belong to every shelf.
use Rattle.std.proofs.Common.{◌≡◌, ℕ, ◌/◌, List, [], Option, Some, None, refl, sym, subst}
use Rattle.std.specs.Prelude.{IfSome}
use Rattle.bit_tape.specs.Tape.{TapeSource, TapeState, AreAt, ReadsAhead, BelongsToShelf}

-- no bytes are those of any content
none_ahead : (content : Option (List ℕ)) (place : ℕ) → IfSome content (AreAt [] place)
none_ahead None place = tt
none_ahead (Some bytes) place = refl

nothing_ahead : (source : TapeSource) (contents : List ℕ → Option (List ℕ)) (place : ℕ) → ReadsAhead source contents place []
nothing_ahead (TapeSource.Named name) contents place = none_ahead (contents name) place
nothing_ahead (TapeSource.Seeded seed) contents place = tt

-- a tape that has read nothing ahead
pub belongs_new : (contents : List ℕ → Option (List ℕ)) (source : TapeSource) (used : ℕ) → BelongsToShelf contents (record { source = source; used = used; ahead = [] })
belongs_new contents source used = record { ahead = nothing_ahead source contents (used / 8) }

-- a seeded tape
pub belongs_seeded : (contents : List ℕ → Option (List ℕ)) (seed : ℕ) (tape : TapeState) → tape.source ≡ TapeSource.Seeded seed → BelongsToShelf contents tape
belongs_seeded contents seed tape e = record { ahead = subst (λ s. ReadsAhead s contents (tape.used / 8) tape.ahead) (sym e) tt }
