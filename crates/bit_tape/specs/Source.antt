-- What contracts see of the source of a tape's bytes.
use Rattle.std.specs.Prelude.{◌≡◌, ℕ, ◌+◌, ◌*◌, ◌/◌, ◌%◌, ◌<◌, List, length, slice_index}
use Rattle.std.specs.Int.{w32, to_be_bytes}
use Rattle.bit_tape.specs.declared.source.Source.{Source}
use Rattle.bit_tape.specs.declared.source.Source.TheVariants.{File, Seed}
use Rattle.bit_tape.specs.Bits.{seed_word}
use Rattle.bit_tape.specs.Tape.{TapeSource}

-- the name or the seed
abbrev pub name_or_seed : Source → TapeSource
name_or_seed (File name) = TapeSource.Named name
name_or_seed (Seed words) = TapeSource.Seeded words.seed

-- The bytes read ahead from a place on end where the first `words` words of a seed end, and each is
-- the byte at its place in these words, the highest byte of a word first.
pub record AreOfWords (seed words place : ℕ) (ahead : List ℕ) : Type 0 where
  pub ends : place + length ahead ≡ 4 * words
  pub each : (i : ℕ) → i < length ahead → slice_index ahead i
      ≡ slice_index (to_be_bytes w32 (seed_word seed ((place + i) / 4))) ((place + i) % 4)

-- The first n bytes are those of a seed's words from a word on, the highest byte of a word first.
pub record AreFirstBytes (seed first n : ℕ) (bytes : List ℕ) : Type 0 where
  pub each : (i : ℕ) → i < n
      → slice_index bytes i ≡ slice_index (to_be_bytes w32 (seed_word seed (first + i / 4))) (i % 4)

-- The source goes on where the bytes read ahead end. A file is read at any place.
abbrev pub SourceGoesOn : Source → (place : ℕ) → (ahead : List ℕ) → Type 0
SourceGoesOn (File name) place ahead = Unit {0}
SourceGoesOn (Seed words) place ahead = AreOfWords words.seed words.place place ahead
