-- Bits given one after another.
use Rattle.std.proofs.Common.{◌≡◌, ℕ, suc, ◌+◌, Bool, List, [], ◌∷◌, ◌++◌, length, Option, Some, None, subst, arith, length-append}
use Rattle.std.specs.Prelude.{IfSome}
use Rattle.bit_tape.specs.Given.{HasBits, Gave}

-- bits from a place on, and further bits from where they end
pub has_bits-append : (bits : ℕ → Option Bool) (place : ℕ) (first more : List Bool) → HasBits bits place first → HasBits bits (place + length first) more → HasBits bits place (first ++ more)
has_bits-append bits place [] more here there = subst (λ n. HasBits bits n more) (let e : place + 0 ≡ place = omega arith in e) there
has_bits-append bits place (b ∷ first) more here there = (here.0, has_bits-append bits (suc place) first more here.1 (subst (λ n. HasBits bits n more) (let e : place + suc (length first) ≡ suc place + length first = omega arith in e) there))

-- the first of them, and the further ones
pub has_bits-first : (bits : ℕ → Option Bool) (place : ℕ) (first more : List Bool) → HasBits bits place (first ++ more) → HasBits bits place first
has_bits-first bits place [] more all = tt
has_bits-first bits place (b ∷ first) more all = (all.0, has_bits-first bits (suc place) first more all.1)

-- Where the bits of a tape from a place on are `first` and then `more`, those from the place after
-- `first` on are `more`.
pub has_bits-more : (bits : ℕ → Option Bool) (place : ℕ) (first more : List Bool) → HasBits bits place (first ++ more) → HasBits bits (place + length first) more
has_bits-more bits place [] more all = subst (λ n. HasBits bits n more) (let e : place ≡ place + 0 = omega arith in e) all
has_bits-more bits place (b ∷ first) more all = subst (λ n. HasBits bits n more) (let e : suc place + length first ≡ place + suc (length first) = omega arith in e) (has_bits-more bits (suc place) first more all.1)

-- no bit was given yet
pub gave-none : (told : Option (ℕ → Option Bool)) (start : ℕ) → Gave told start start []
gave-none None start = record { count = omega arith; are_told = tt }
gave-none (Some bits) start = record { count = omega arith; are_told = tt }

told-append : (told : Option (ℕ → Option Bool)) (start middle : ℕ) (first more : List Bool) → middle ≡ start + length first → IfSome told (λ bits. HasBits bits start first) → IfSome told (λ bits. HasBits bits middle more) → IfSome told (λ bits. HasBits bits start (first ++ more))
told-append None start middle first more place here there = tt
told-append (Some bits) start middle first more place here there = has_bits-append bits start first more here (subst (λ n. HasBits bits n more) place there)

-- two calls, one after the other, were given the bits of both
pub gave-append : (told : Option (ℕ → Option Bool)) (start middle used : ℕ) (first more : List Bool) → Gave told start middle first → Gave told middle used more → Gave told start used (first ++ more)
gave-append told start middle used first more one two = record {
  count = omega (arith, one.count, two.count, length-append first more);
  are_told = told-append told start middle first more one.count one.are_told two.are_told;
}

-- one bit was given
pub gave-one : (told : Option (ℕ → Option Bool)) (place after : ℕ) (bit : Bool) → after ≡ place + 1 → IfSome told (λ bits. bits place ≡ Some bit) → Gave told place after (bit ∷ [])
gave-one None place after bit next here = record { count = next; are_told = tt }
gave-one (Some bits) place after bit next here = record { count = next; are_told = (here, tt) }
