-- The bits that a call was given.
use Rattle.std.specs.Prelude.{◌≡◌, ℕ, suc, ◌+◌, Bool, List, [], ◌∷◌, length, Option, Some, IfSome}

-- Bits of a tape from a place on are these.
abbrev pub HasBits : (bits : ℕ → Option Bool) → (place : ℕ) → List Bool → Type 0
HasBits bits place [] = Unit {0}
HasBits bits place (bit ∷ more) = (bits place ≡ Some bit) × HasBits bits (suc place) more

-- A call was given these bits of a tape, from a place on: as many as it used, and the tape's own
-- where they are told.
pub record Gave (told : Option (ℕ → Option Bool)) (start used : ℕ) (given : List Bool) : Type 0
  where
    pub count : used ≡ start + length given
    pub are_told : IfSome told (λ bits. HasBits bits start given)
