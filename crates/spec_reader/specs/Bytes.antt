-- The bytes of a specification's text, by what they are for.
use Rattle.std.specs.Prelude.{◌==◌, ◌&&◌, ◌||◌, ℕ, Bool, nat_le}
use Rattle.std.specs.Char.{is_ascii_alphabetic, is_ascii_digit}
use Rattle.class_system.specs.Words as words

-- A byte is text where it is a tab, a line feed, a carriage return, or from space to ~.
abbrev pub is_text : ℕ → Bool
is_text b = b == 9 || b == 10 || b == 13 || nat_le 32 b && nat_le b 126

-- Tab, carriage return and space are blanks.
abbrev pub is_blank : ℕ → Bool
is_blank b = b == 9 || b == 13 || b == 32

-- The digits 0 to 9.
abbrev pub is_digit : ℕ → Bool
is_digit b = is_ascii_digit b

-- The letters A to Z and a to z.
abbrev pub is_letter : ℕ → Bool
is_letter b = is_ascii_alphabetic b

-- A run is made of letters, digits and _.
abbrev pub may_be_in_run : ℕ → Bool
may_be_in_run b = words.is_run_byte b
