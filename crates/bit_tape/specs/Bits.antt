-- The bits of files and of seeds. A tape's bits are a function from a place to a bit, None from the
-- end on.
use Rattle.std.specs.Prelude.{ℕ, ◌-◌, ◌/◌, ◌%◌, ◌^◌, Bool, nat_eq, nat_lt, List, ◌++◌, replicate}
use Rattle.std.specs.Prelude.{slice_get, Option, Some, None, option_map, if◌then◌else◌}
use Rattle.std.specs.Int.{w64, to_le_bytes}
use Rattle.rand_chacha.specs.ChaCha.{word_at, key_of}

-- A tape gives 2^63 bits at most.
abbrev pub within_tape : (place : ℕ) → Option Bool → Option Bool
within_tape place bit = if nat_lt place (2 ^ 63) then bit else None

-- A byte's bit after its first k bits, the highest being the first.
abbrev pub byte_bit : (byte k : ℕ) → Bool
byte_bit byte k = nat_eq (byte / 2 ^ (7 - k) % 2) 1

-- The bit of sixteen bits after their first k, the highest being the first.
abbrev pub peeked_bit : (word k : ℕ) → Bool
peeked_bit word k = nat_eq (word / 2 ^ (15 - k) % 2) 1

-- The bits of a file are those of its bytes in order.
abbrev pub file_bit : (bytes : List ℕ) → (place : ℕ) → Option Bool
file_bit bytes place =
    within_tape place (option_map (λ byte. byte_bit byte (place % 8)) (slice_get bytes (place / 8)))

-- The 32 bytes of a seed: the number as 8 bytes, least first, and 24 zero bytes.
abbrev pub seed_bytes : ℕ → List ℕ
seed_bytes seed = to_le_bytes w64 seed ++ replicate 24 0

-- The word at a place of stream 0 of ChaCha20 (ten double rounds) under the seed.
unfoldable pub seed_word : (seed place : ℕ) → ℕ
seed_word seed place = word_at 10 (key_of (seed_bytes seed)) 0 place

-- A word's bit after its first k bits, the highest being the first.
abbrev pub word_bit : (word k : ℕ) → Bool
word_bit word k = nat_eq (word / 2 ^ (31 - k) % 2) 1

-- The bits of a seed are those of its words in order.
abbrev pub seed_bit : (seed place : ℕ) → Option Bool
seed_bit seed place = within_tape place (Some (word_bit (seed_word seed (place / 32)) (place % 32)))
