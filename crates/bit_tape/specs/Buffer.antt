-- Bytes read ahead, of the first of which some bits may be used.
use Rattle.std.specs.Prelude.{◌≡◌, ℕ, ◌+◌, ◌*◌, ◌/◌, ◌%◌, ◌<◌, ◌≤◌, List, length, drop, slice_index}
use Rattle.bit_tape.specs.Bits.{byte_bit, peeked_bit}

-- The bytes from the one with the next bit on, and how many bits of it are used.
pub record Ahead : Type 0 where
  pub bytes : List ℕ
  pub bit : ℕ

-- One bit more is used.
abbrev pub after_bit : Ahead → Ahead
after_bit a = record { bytes = drop ((a.bit + 1) / 8) a.bytes; bit = (a.bit + 1) % 8 }

-- n bits more are used.
abbrev pub after_bits : Ahead → (n : ℕ) → Ahead
after_bits a n = record { bytes = drop ((a.bit + n) / 8) a.bytes; bit = (a.bit + n) % 8 }

-- The first n of sixteen bits are the next n that are read ahead.
pub record LooksAhead (a : Ahead) (word n : ℕ) : Type 0 where
  pub few : n ≤ 16
  pub held : a.bit + n ≤ 8 * length a.bytes
  pub bits : (i : ℕ) → i < n
      → peeked_bit word i ≡ byte_bit (slice_index a.bytes ((a.bit + i) / 8)) ((a.bit + i) % 8)
