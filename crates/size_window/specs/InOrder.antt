-- Entries in order: their numbers, where their bits begin and end, and their sizes.
use Rattle.std.specs.Prelude.{◌≡◌, ℕ, suc, ◌+◌, ◌≤◌, List, [], ◌∷◌, length}
use Rattle.object_store.specs.Tokens.{size_of}
use Rattle.labelling.specs.LabelsByBits.{bits_in}
use Rattle.size_window.specs.RunByBits.{Limits, Entry, Course}

-- An entry is the next one after a number and a place of the tape: it has the next number, its bits
-- begin at the place or later, and its size is the number of its atoms, which is within the window.
pub record IsNextEntry (limits : Limits) (number place : ℕ) (e : Entry) : Type 0 where
  pub number_is : e.number ≡ suc number
  pub begins : place ≤ e.place
  pub size : e.size ≡ size_of e.tokens
  pub least : limits.min ≤ e.size
  pub greatest : e.size ≤ limits.max

-- Entries are in order after a number and a place: each is the next one after the number of the
-- entry before it and the end of that entry's bits.
abbrev pub AreInOrder : Limits → (number place : ℕ) → List Entry → Type 0
AreInOrder limits number place [] = Unit {0}
AreInOrder limits number place (e ∷ es) = IsNextEntry limits number place e
    × AreInOrder limits e.number (e.place + bits_in e.cells) es

-- The end of the bits of the last entry; where there is none, a place.
abbrev pub last_end : (place : ℕ) → List Entry → ℕ
last_end place [] = place
last_end place (e ∷ es) = last_end (e.place + bits_in e.cells) es

-- The entries of a course are in order from the first number and the tape's first bit on, are as
-- many as it kept, and end at or before the bits that it used.
pub record IsInOrder (limits : Limits) (c : Course) : Type 0 where
  pub entries : AreInOrder limits 0 0 c.entries
  pub number : length c.entries ≡ c.state.kept
  pub ends : last_end 0 c.entries ≤ c.state.attempt.used
