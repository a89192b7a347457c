-- Shelves and sinks over memory: what they keep, which calls fail, and what a call leaves.
use Rattle.std.specs.Prelude.{ℕ, ◌-◌, Bool, ◌&&◌, ◌||◌, nat_lt, nat_le, List, length, min, Option}
use Rattle.std.specs.Prelude.{option_map, is_none, find, if◌then◌else◌, ◌==◌}
use Rattle.std.specs.Cmp.Lexicographic.{pointwise}
use Rattle.std.specs.List.{list_any}
use Rattle.bz_outside.specs.Outside.{next_count}

-- How many calls were made, the numbers of those that are to fail (the first call has number 1),
-- and how many failed.
pub record Calls : Type 0 where
  pub made : ℕ
  pub failing : List ℕ
  pub failed : ℕ

-- The next call is one of those that are to fail.
abbrev pub fails_next : Calls → Bool
fails_next calls = list_any (λ number. number == next_count calls.made) calls.failing

-- One more call was made, and failed or not.
abbrev pub after_call : (failed : Bool) → Calls → Calls
after_call failed calls = record {
  made = next_count calls.made;
  failing = calls.failing;
  failed =
      if failed then next_count calls.failed else calls.failed;
}

-- Bytes under a name.
pub record Stored : Type 0 where
  pub name : List ℕ
  pub bytes : List ℕ

-- The bytes stored under a name, if there are any.
abbrev pub content_of : List Stored → (name : List ℕ) → Option (List ℕ)
content_of files name =
    option_map (λ file. file.bytes) (find (λ file. pointwise ◌==◌ file.name name) files)

-- A shelf over memory: what is stored, the most bytes that one call gives, and the calls.
pub record ShelfState : Type 0 where
  pub files : List Stored
  pub most : ℕ
  pub calls : Calls

-- The next read of the name fails: it is to fail, or nothing is stored under the name.
abbrev pub read_fails : ShelfState → (name : List ℕ) → Bool
read_fails shelf name = fails_next shelf.calls || is_none (content_of shelf.files name)

-- How many bytes of the content from the place on go into a buffer with this room.
abbrev pub piece_length : ShelfState → (content : List ℕ) → (place room : ℕ) → ℕ
piece_length shelf content place room = min (min room shelf.most) (length content - place)

-- A sink over memory: what was written, the most bytes that one call takes, the most that it takes
-- in all, and the calls.
pub record SinkState : Type 0 where
  pub written : List ℕ
  pub most : ℕ
  pub room : ℕ
  pub calls : Calls

-- The next write of the bytes fails: it is to fail, or there are bytes and the room is used up.
abbrev pub write_fails : SinkState → (bytes : List ℕ) → Bool
write_fails sink bytes =
    fails_next sink.calls || (nat_lt 0 (length bytes) && nat_le sink.room (length sink.written))

-- How many of the bytes the next write takes.
abbrev pub taken_length : SinkState → (bytes : List ℕ) → ℕ
taken_length sink bytes = min (min (length bytes) sink.most) (sink.room - length sink.written)
