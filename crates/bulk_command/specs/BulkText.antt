-- The specification that is made from a number, as text.
use Rattle.std.specs.Prelude.{ℕ, ◌+◌, ◌%◌, List, ◌++◌, flat_map, decimal, codes}
use Rattle.std.specs.List.{range_with_len}
use Rattle.call_stages.specs.Lines.{feed}

-- The specification of n has 2 to 41 classes.
abbrev pub classes_of : (n : ℕ) → ℕ
classes_of n = 2 + n % 40

-- A class's name is A with its number.
abbrev pub numbered_name : (class : ℕ) → List ℕ
numbered_name class = codes "A" ++ decimal class

-- After the last of so many classes comes the first.
abbrev pub next_class : (classes class : ℕ) → ℕ
next_class classes class = (class + 1) % classes

-- The line of a class: an object is empty, or an atom with an object of the class and one of the
-- class after it.
abbrev pub rule_line : (classes class : ℕ) → List ℕ
rule_line classes class = numbered_name class
    ++ (codes " = E + Z*"
    ++ (numbered_name class ++ (codes "*" ++ (numbered_name (next_class classes class) ++ feed))))

-- The text: the mode, and the line of each class.
abbrev pub bulk_text : (n : ℕ) → List ℕ
bulk_text n = codes "unlabelled"
    ++ (feed ++ flat_map (rule_line (classes_of n)) (range_with_len 0 (classes_of n)))
