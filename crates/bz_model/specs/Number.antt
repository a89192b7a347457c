-- Whole numbers as texts, and the text of a fraction.
use Rattle.std.specs.Prelude.{◌≡◌, ℕ, ◌≤◌, List, ◌∷◌, ◌++◌, length, slice_index}
use Rattle.std.specs.Str.Parse.{IsNumeral, digits_value}

-- A text is a number where it is one or more digits, the first of them not 0 unless it is the only
-- one.
pub record IsNumber (text : List ℕ) : Type 0 where
  pub digits : IsNumeral 10 text
  pub plain : slice_index text 0 ≡ 48 → length text ≡ 1

-- The number that the digits of a text stand for.
abbrev pub number_value : List ℕ → ℕ
number_value text = digits_value 10 text

-- A part of a fraction that is given is from 1 to 1_000_000.
abbrev pub IsPart : ℕ → Type 0
IsPart n = (1 ≤ n) × (n ≤ 1000000)

-- A text has the form of a fraction where it is a number, a stroke and a number.
pub record HasFractionForm (text : List ℕ) : Type 0 where
  pub num : List ℕ
  pub den : List ℕ
  pub is : text ≡ num ++ 47 ∷ den
  pub is_num : IsNumber num
  pub is_den : IsNumber den

-- A text stands for num / den where these are the two numbers of its form.
pub record IsFractionText (text : List ℕ) (num den : ℕ) : Type 0 where
  pub form : HasFractionForm text
  pub is_num : number_value form.num ≡ num
  pub is_den : number_value form.den ≡ den
