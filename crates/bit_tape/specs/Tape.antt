-- Tapes: where their bits come from, which bits they have, and how a tape fits a shelf.
use Rattle.std.specs.Prelude.{◌≡◌, ℕ, ◌+◌, ◌*◌, ◌/◌, ◌%◌, ◌<◌, ◌≤◌, List, length, take, drop, Bool}
use Rattle.std.specs.Prelude.{true, false, Option, Some, IfSome, option_map}
use Rattle.bz_outside.specs.Outside.{Rose, ReadFailed}
use Rattle.bit_tape.specs.Bits.{peeked_bit, file_bit, seed_bit}

-- The bits come from the bytes under a name, or from a seed.
pub data TapeSource : Type 0 where
  Named : (name : List ℕ) → TapeSource
  Seeded : (seed : ℕ) → TapeSource

-- A tape: its source, how many bits it gave, and the bytes that it has read ahead, from the one
-- with the next bit on.
pub record TapeState : Type 0 where
  pub source : TapeSource
  pub used : ℕ
  pub ahead : List ℕ

-- The bits of a source over a shelf with these contents, where they are told.
abbrev pub bits_of_source : TapeSource → (contents : List ℕ → Option (List ℕ))
    → Option (ℕ → Option Bool)
bits_of_source (TapeSource.Named name) contents = option_map file_bit (contents name)
bits_of_source (TapeSource.Seeded seed) contents = Some (seed_bit seed)

-- Bytes read ahead are those of a content from a place on.
abbrev pub AreAt : (ahead : List ℕ) → (place : ℕ) → (content : List ℕ) → Type 0
AreAt ahead place content = ahead ≡ take (length ahead) (drop place content)

-- What a source reads ahead is what the contents have at the place. Of a seed no shelf is asked.
abbrev pub ReadsAhead : TapeSource → (contents : List ℕ → Option (List ℕ)) → (place : ℕ)
    → (ahead : List ℕ) → Type 0
ReadsAhead (TapeSource.Named name) contents place ahead = IfSome (contents name) (AreAt ahead place)
ReadsAhead (TapeSource.Seeded seed) contents place ahead = Unit {0}

-- A tape belongs to a shelf with these contents where the bytes that it has read ahead are those of
-- its name's content.
pub record BelongsToShelf (contents : List ℕ → Option (List ℕ)) (tape : TapeState) : Type 0 where
  pub ahead : ReadsAhead tape.source contents (tape.used / 8) tape.ahead

-- What a call leaves of the counts of faults: where it failed, the count of the source's name rose
-- once; else every count stays. A seed has no name, so none fails.
abbrev pub CountsFault : (failed : Bool) → TapeSource → (before now : List ℕ → ℕ) → Type 0
CountsFault false source before now = now ≡ before
CountsFault true (TapeSource.Named name) before now = ReadFailed name before now
CountsFault true (TapeSource.Seeded seed) before now = ⊥

-- What a call with a tape and a shelf leaves, its meanings being the shelf's contents and counts:
-- the tape is of the same source and still belongs to the shelf, whose contents stay; a failed read
-- is counted exactly where it is answered; over a seed the shelf is as it was.
pub record LeavesTape {S : Type 0} (contents : S → List ℕ → Option (List ℕ)) (counts : S → List ℕ
    → ℕ) (failed : Bool) (before now : S) (old new : TapeState) : Type 0 where
  pub source : new.source ≡ old.source
  pub belongs : BelongsToShelf (contents now) new
  pub content : contents now ≡ contents before
  pub faults : CountsFault failed old.source (counts before) (counts now)
  pub seeded : (seed : ℕ) → old.source ≡ TapeSource.Seeded seed → now ≡ before

-- In a run of several calls a read of the source failed: its name's count of faults rose. A seed
-- has no name, so none fails.
abbrev pub HasFault : TapeSource → (before now : List ℕ → ℕ) → Type 0
HasFault (TapeSource.Named name) before now = Rose (before name) (now name)
HasFault (TapeSource.Seeded seed) before now = ⊥

-- The tape gave one bit. Over every shelf that it belongs to, that is the next bit of its source,
-- and it still belongs.
pub record GivesBit (old : TapeState) (bit : Bool) (new : TapeState) : Type 0 where
  pub source : new.source ≡ old.source
  pub used : new.used ≡ old.used + 1
  pub next : (contents : List ℕ → Option (List ℕ)) → BelongsToShelf contents old
      → IfSome (bits_of_source old.source contents) (λ bits. bits old.used ≡ Some bit)
  pub belongs : (contents : List ℕ → Option (List ℕ)) → BelongsToShelf contents old
      → BelongsToShelf contents new

-- The tape has read n bits ahead.
abbrev pub HoldsBits : TapeState → (n : ℕ) → Type 0
HoldsBits tape n = tape.used % 8 + n ≤ 8 * length tape.ahead

-- The first n of sixteen bits are read ahead: over every shelf that the tape belongs to, they are
-- the next n bits of its source.
pub record ShowsBits (tape : TapeState) (word n : ℕ) : Type 0 where
  pub few : n ≤ 16
  pub held : HoldsBits tape n
  pub next : (contents : List ℕ → Option (List ℕ)) → BelongsToShelf contents tape
      → IfSome (bits_of_source tape.source contents) (λ bits. (i : ℕ) → i < n
      → bits (tape.used + i) ≡ Some (peeked_bit word i))

-- The tape passed over n bits, and still belongs to every shelf that it belonged to.
pub record SkipsBits (old : TapeState) (n : ℕ) (new : TapeState) : Type 0 where
  pub source : new.source ≡ old.source
  pub used : new.used ≡ old.used + n
  pub belongs : (contents : List ℕ → Option (List ℕ)) → BelongsToShelf contents old
      → BelongsToShelf contents new
