-- Names of classes and words of leaves, as the text of a specification has them.
use Rattle.std.specs.Prelude.{◌≡◌, ◌≢◌, ℕ, ◌≤◌, Bool, true, ◌||◌, nat_eq, List, [], ◌∷◌, length}
use Rattle.std.specs.Prelude.{slice_index, codes}
use Rattle.std.specs.List.{AllPass, AllByRecursion}
use Rattle.std.specs.Char.{is_ascii_alphabetic, is_ascii_alphanumeric}

-- A byte of a run is a letter, a digit or an underscore.
abbrev pub is_run_byte : ℕ → Bool
is_run_byte b = is_ascii_alphanumeric b || nat_eq b 95

-- A leaf's word is empty, which means the plain leaf, or a run of at most 32 bytes.
pub record IsLeafWord (word : List ℕ) : Type 0 where
  pub few : length word ≤ 32
  pub run : AllPass is_run_byte word

-- The words that have a meaning of their own in a sum, so that no class has one as its name.
abbrev pub kept_words : List (List ℕ)
kept_words = codes "E" ∷ codes "Z" ∷ codes "Seq" ∷ codes "Set" ∷ codes "Cyc" ∷ []

-- A name is a run of at most 32 bytes that begins with a letter and is none of the kept words.
pub record IsName (word : List ℕ) : Type 0 where
  pub letter : is_ascii_alphabetic (slice_index word 0) ≡ true
  pub few : length word ≤ 32
  pub run : AllPass is_run_byte word
  pub free : AllByRecursion (λ kept. word ≢ kept) kept_words
