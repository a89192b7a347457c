-- From bytes to tokens, each with its line and column.
use Rattle.std.specs.Prelude.{◌==◌, ◌&&◌, ◌||◌, ℕ, zero, suc, ◌+◌, ◌-◌, ◌*◌, Bool, true, false, not}
use Rattle.std.specs.Prelude.{if◌then◌else◌, nat_le, List, [], ◌∷◌, ◌++◌, length, drop, codes}
use Rattle.std.specs.Prelude.{Option, Some, None}
use Rattle.std.specs.List.{list_all, prefix_len, take_while}
use Rattle.std.specs.Cmp.Lexicographic.{pointwise}
use Rattle.spec_reader.specs.Bytes.{is_blank, is_digit, is_letter, may_be_in_run}
use Rattle.spec_reader.specs.declared.tokens.Counting.{Counting}
use Rattle.spec_reader.specs.declared.tokens.Token.{Token}
use Rattle.spec_reader.specs.declared.tokens.Front.{Front}
use Rattle.spec_reader.specs.declared.tokens.Placed.{Placed}
use Rattle.spec_reader.specs.declared.tokens.Spot.{Spot}

-- Two texts are the same.
abbrev pub is_same : List ℕ → List ℕ → Bool
is_same a b = pointwise ◌==◌ a b

-- The number that one or two digits spell, where it is from 1 to 64 and has no leading zero; other
-- digits spell none that may stand in a text.
abbrev pub number_spelled : List ℕ → Option ℕ
number_spelled (a ∷ []) = if nat_le 49 a then Some (a - 48) else None
number_spelled (a ∷ b ∷ []) =
    if nat_le 49 a && nat_le ((a - 48) * 10 + (b - 48)) 64 then Some ((a - 48) * 10 + (b - 48)) else
    None
number_spelled _ = None

-- The token of a number that may stand in a text, and one that stands nowhere for any other.
abbrev pub number_token : Option ℕ → Token
number_token (Some k) = Token.Number k
number_token None = Token.Bad

-- A run begins with a letter.
abbrev pub begins_with_letter : List ℕ → Bool
begins_with_letter [] = false
begins_with_letter (b ∷ bs) = is_letter b

-- A run other than a number begins with a letter and has at most 32 bytes; one that breaks this
-- stands nowhere.
abbrev pub word_token : List ℕ → Token
word_token run =
    if begins_with_letter run && nat_le (length run) 32 then Token.Name run else Token.Bad

-- The token of a run that stands alone.
abbrev pub run_token : List ℕ → Token
run_token run =
    if list_all is_digit run then number_token (number_spelled run)
    else if is_same run (codes "E") then Token.Empty []
    else if is_same run (codes "Z") then Token.Atom []
    else if is_same run (codes "Seq") then Token.Counted Counting.Seq
    else if is_same run (codes "Set") then Token.Counted Counting.Set
    else if is_same run (codes "Cyc") then Token.Counted Counting.Cyc
    else word_token run

-- The token of a leaf with a word of at most 32 bytes; with a longer one it stands nowhere.
abbrev pub leaf_token : List ℕ → List ℕ → Token
leaf_token letter word =
    if nat_le (length word) 32 then (if is_same letter (codes "E") then Token.Empty word else
    Token.Atom word) else Token.Bad

-- The run behind a colon, where the bytes begin so; else nothing.
abbrev pub word_after : List ℕ → List ℕ
word_after [] = []
word_after (b ∷ bs) = if b == 58 then take_while may_be_in_run bs else []

-- What a run begins, by how many bytes it has after the first and by the bytes behind it: a leaf
-- with a word where the run is E or Z and a colon and a run follow at once, else a token of its
-- own.
abbrev pub run_front : List ℕ → ℕ → List ℕ → Front
run_front run more after =
    if (is_same run (codes "E") || is_same run (codes "Z")) && not (length (word_after after) == 0)
    then Front.Begins (leaf_token run (word_after after)) (length (word_after after) + 1)
    else Front.Begins (run_token run) more

-- The bytes begin with an equals sign.
abbrev pub begins_with_equals : List ℕ → Bool
begins_with_equals [] = false
begins_with_equals (b ∷ bs) = b == 61

-- What a byte of no run begins, by the bytes behind it: = + * ( ) by themselves, > and < with an
-- equals sign, and else a token that stands nowhere.
abbrev pub sign_front : ℕ → List ℕ → Front
sign_front b bs =
    if b == 61 then Front.Begins Token.Exactly 0
    else if b == 43 then Front.Begins Token.Plus 0
    else if b == 42 then Front.Begins Token.Star 0
    else if b == 40 then Front.Begins Token.Open 0
    else if b == 41 then Front.Begins Token.Close 0
    else if b == 62 && begins_with_equals bs then Front.Begins Token.AtLeast 1
    else if b == 60 && begins_with_equals bs then Front.Begins Token.AtMost 1
    else Front.Begins Token.Bad 0

-- A comment's bytes go on to the end of the line.
abbrev pub goes_on : ℕ → Bool
goes_on b = not (b == 10)

-- What a byte begins, by the bytes behind it.
abbrev pub front : ℕ → List ℕ → Front
front b bs =
    if b == 10 then Front.LineFeed
    else if is_blank b then Front.Blank
    else if b == 35 then Front.Comment (prefix_len goes_on bs)
    else if may_be_in_run b then run_front (b ∷ take_while may_be_in_run bs)
    (prefix_len may_be_in_run bs)
    (drop (prefix_len may_be_in_run bs) bs)
    else sign_front b bs

-- The spot so many bytes further on in the line.
abbrev pub along : ℕ → Spot → Spot
along n s = record { some = s.some; line = s.line; column = s.column + n }

-- A token at a spot.
abbrev pub placed : Token → Spot → Placed
placed t s = record { token = t; line = s.line; column = s.column }

-- The end of a line is a token where the line has one.
abbrev pub line_end : Spot → List Placed
line_end s = if s.some then placed Token.LineEnd s ∷ [] else []

-- The tokens that stand at a spot, by what begins there.
abbrev pub made : Spot → Front → List Placed
made s Front.LineFeed = line_end s
made s Front.Blank = []
made s (Front.Comment more) = []
made s (Front.Begins t more) = placed t s ∷ []

-- The spot after the first byte of what begins at a spot.
abbrev pub moved : Spot → Front → Spot
moved s Front.LineFeed = record { some = false; line = s.line + 1; column = 1 }
moved s Front.Blank = along 1 s
moved s (Front.Comment more) = along 1 s
moved s (Front.Begins t more) = record { some = true; line = s.line; column = s.column + 1 }

-- How many bytes after the first belong to what begins at a spot.
abbrev pub further : Front → ℕ
further Front.LineFeed = 0
further Front.Blank = 0
further (Front.Comment more) = more
further (Front.Begins t more) = more

-- The tokens of the bytes from a spot on, where so many bytes belong to what began before. The end
-- of the text is a token, after the end of its last line.
abbrev pub tokens_from : ℕ → Spot → List ℕ → List Placed
tokens_from skip s [] = line_end s ++ placed Token.TextEnd s ∷ []
tokens_from (suc skip) s (b ∷ bs) = tokens_from skip (along 1 s) bs
tokens_from zero s (b ∷ bs) = made s (front b bs)
    ++ tokens_from (further (front b bs)) (moved s (front b bs)) bs

-- A text begins at line 1 and column 1, with no token before.
abbrev pub beginning : Spot
beginning = record { some = false; line = 1; column = 1 }

-- The tokens of a text.
abbrev pub tokens_of : List ℕ → List Placed
tokens_of bytes = tokens_from 0 beginning bytes
