-- When a trace meets its tape's end.
use Rattle.std.proofs.Common.{◌≡◌, ℕ, zero, suc, ◌+◌, ◌*◌, ◌/◌, ◌%◌, ◌^◌, ◌<◌, ◌≤◌, ◌⊎◌, inl, inr, min, arith, Bool, true, false, cond, List, [], ◌∷◌, length, refl, sym, ◌∙◌, ap, subst}
use Rattle.std.specs.Prelude.{Option, Some, None, nat_lt, slice_get, option_map}
use Rattle.std.proofs.lemmas.Bool.{ltb-true, ltb-false}
use Rattle.std.proofs.lemmas.Option.{slice_get_within}
use Rattle.std.proofs.Math.Nat.{mul-le-mul}
use Rattle.std.proofs.lemmas.Nat.{mod_below, div-add-mod'}
use Rattle.bit_tape.specs.Bits.{byte_bit, word_bit, seed_word, file_bit, seed_bit}
use Rattle.bit_tape.specs.Given.{HasBits}
use Rattle.well_founded.specs.EmptyObjects.{has_empty}
use Rattle.size_window.specs.RunByBits.{Limits}
use Rattle.size_window.specs.Drawing.{AreLimits}
use Rattle.size_window.specs.Ideally.{chooser_of}
use Rattle.size_window.specs.Trace.{EndsAt}
use Rattle.size_window.specs.TapeEnd.{bits_a_turn, UsesFewBits, FilesEndRightly, SeedsNeverEnd}
use Rattle.size_window.proofs.Tracing.{table-chooser}
use Rattle.size_window.proofs.FewBits.{course-few}

-- the last of some bits is there
last-there : (tape : ℕ → Option Bool) (place : ℕ) (b : Bool) (bits : List Bool) → HasBits tape place (b ∷ bits) → (v : Bool) × (tape (place + length bits) ≡ Some v)
last-there tape place b [] have = (b, ap tape (let z : place + 0 ≡ place = omega arith in z) ∙ have.0)
last-there tape place b (c ∷ bits) have =
    let rest = last-there tape (suc place) c bits have.1 in
    (rest.0, ap tape (let z : place + suc (length bits) ≡ suc place + length bits = omega arith in z) ∙ rest.1)

-- a place at which a file has a bit, and one at which it has none
module _ (bytes : List ℕ) (place : ℕ) where
  in-byte : (o : Option ℕ) (v : Bool) → slice_get bytes (place / 8) ≡ o → option_map (λ byte. byte_bit byte (place % 8)) o ≡ Some v → place / 8 < length bytes
  in-byte None v is e = absurd (cc)
  in-byte (Some byte) v is e = slice_get_within bytes (place / 8) byte is

  has-bit : (v : Bool) → file_bit bytes place ≡ Some v → (place < 2 ^ 63) × (place < 8 * length bytes)
  has-bit v e = go (nat_lt place (2 ^ 63)) refl e
    where
      go : (b : Bool) → nat_lt place (2 ^ 63) ≡ b → cond b (option_map (λ byte. byte_bit byte (place % 8)) (slice_get bytes (place / 8))) None ≡ Some v → (place < 2 ^ 63) × (place < 8 * length bytes)
      go true is f = (ltb-true place (2 ^ 63) is, let byte = in-byte (slice_get bytes (place / 8)) v refl f in let parts = div-add-mod' place 8 in let low = mod_below place 8 (omega arith) in omega (arith, byte, parts, low))
      go false is f = absurd (cc)

  no-byte : (xs : List ℕ) (i : ℕ) → slice_get xs i ≡ None → length xs ≤ i
  no-byte [] i e = omega arith
  no-byte (x ∷ xs) zero e = absurd (cc)
  no-byte (x ∷ xs) (suc i) e = let h = no-byte xs i e in omega (arith, h)

  none-of : (o : Option ℕ) → option_map (λ byte. byte_bit byte (place % 8)) o ≡ None → o ≡ None
  none-of None e = refl
  none-of (Some byte) e = absurd (cc)

  no-bit : file_bit bytes place ≡ None → (2 ^ 63 ≤ place) ⊎ (8 * length bytes ≤ place)
  no-bit e = go (nat_lt place (2 ^ 63)) refl e
    where
      go : (b : Bool) → nat_lt place (2 ^ 63) ≡ b → cond b (option_map (λ byte. byte_bit byte (place % 8)) (slice_get bytes (place / 8))) None ≡ None → (2 ^ 63 ≤ place) ⊎ (8 * length bytes ≤ place)
      go true is f = inr (let past = no-byte bytes (place / 8) (none-of (slice_get bytes (place / 8)) f) in let parts = div-add-mod' place 8 in omega (arith, past, parts))
      go false is f = inl (ltb-false place (2 ^ 63) is)

-- a file's end is where all its bits are used
all-used : (bytes : List ℕ) (given : List Bool) (used : ℕ) → used ≡ 0 + length given → HasBits (file_bit bytes) 0 given → (2 ^ 63 ≤ used) ⊎ (8 * length bytes ≤ used) → used ≡ min (8 * length bytes) (2 ^ 63)
all-used bytes [] used count have (inl past) = let none : length {A = Bool} [] ≡ 0 = refl in let some : 0 < 2 ^ 63 = omega arith in absurd (omega (arith, past, count, none, some))
all-used bytes [] used count have (inr past) = let none : length {A = Bool} [] ≡ 0 = refl in omega (arith, past, count, none)
all-used bytes (b ∷ bits) used count have past =
    let last = last-there (file_bit bytes) 0 b bits have in
    let here = has-bit bytes (0 + length bits) last.0 last.1 in
    let one : length (b ∷ bits) ≡ suc (length bits) = refl in
    elim past [ inl h ↦ omega (arith, h, here, count, one) | inr h ↦ omega (arith, h, here, count, one) ]

-- A trace over a file's bits that ends with the tape's end has used all of them, 8 for each byte,
-- and 2^63 at most.
pub files_end_rightly : FilesEndRightly
files_end_rightly s x F table limits bytes turns most c p is =
    let ends : file_bit bytes c.state.attempt.used ≡ None = subst (λ o. EndsAt o c.state.attempt.used (file_bit bytes)) is p.ended in
    all-used bytes p.given c.state.attempt.used p.gave.count p.gave.are_told (no-bit bytes c.state.attempt.used ends)

-- a seed has a bit at each place below 2^63
seed-ends : (seed place : ℕ) → seed_bit seed place ≡ None → 2 ^ 63 ≤ place
seed-ends seed place e = go (nat_lt place (2 ^ 63)) refl e
  where
    go : (b : Bool) → nat_lt place (2 ^ 63) ≡ b → cond b (Some (word_bit (seed_word seed (place / 32)) (place % 32))) None ≡ None → 2 ^ 63 ≤ place
    go true is f = let no : ⊥ = cc in absurd no
    go false is f = ltb-false place (2 ^ 63) is

-- the bits of all turns
few-enough : (limits : Limits) (used turns : ℕ) → AreLimits limits → turns ≤ limits.turns → used ≤ turns * bits_a_turn limits → used < 2 ^ 63
few-enough limits used turns are few bits =
    let most : bits_a_turn limits ≤ 60000000 = let m = are.max in omega (arith, m) in
    let many : turns ≤ 50000000 = let t = are.turns in omega (arith, t, few) in
    let product : turns * bits_a_turn limits ≤ 50000000 * 60000000 = mul-le-mul many most in
    omega (arith, bits, product)

-- For a sound specification, a trace within the limits over the bits of a seed never ends with the
-- tape's end.
pub seeds_never_end : SeedsNeverEnd
seeds_never_end s x F table limits seed turns most c sound are p is =
    let ends : seed_bit seed c.state.attempt.used ≡ None = subst (λ o. EndsAt o c.state.attempt.used (seed_bit seed)) is p.ended in
    let over = p.exact (seed_bit seed) p.gave.are_told p.ended (chooser_of s F table (has_empty s)) (table-chooser s F table sound) in
    let few = subst (UsesFewBits limits) (sym over.same) (course-few (record { chooser = chooser_of s F table (has_empty s); limits = limits; tape = seed_bit seed }) p.faults turns) in
    let below = few-enough limits c.state.attempt.used c.state.turns are few.turns few.bits in
    let past = seed-ends seed c.state.attempt.used ends in
    omega (arith, below, past)
