-- The tokens of bytes without their places.
use Rattle.std.proofs.Common.{◌≡◌, ℕ, zero, suc, Bool, true, false, if◌then◌else◌, List, [], ◌∷◌, ◌++◌, length, refl, ◌∙◌, ap}
use Rattle.spec_reader.specs.declared.tokens.Token.{Token}
use Rattle.spec_reader.specs.declared.tokens.Front.{Front}
use Rattle.spec_reader.specs.declared.tokens.Placed.{Placed}
use Rattle.spec_reader.specs.declared.tokens.Spot.{Spot}
use Rattle.spec_reader.specs.Tokens.{front, placed, made, moved, further, along, tokens_from}
use Rattle.spec_reader.specs.Reading.{plain_tokens}

-- the end of a line, where the line has a token
abbrev pub ended : Bool → List Token
ended true = Token.LineEnd ∷ []
ended false = []

-- the tokens that stand where something begins
abbrev pub plain_made : Bool → Front → List Token
plain_made some Front.LineFeed = ended some
plain_made some Front.Blank = []
plain_made some (Front.Comment more) = []
plain_made some (Front.Begins t more) = t ∷ []

-- whether the line has a token behind it
abbrev pub has_some : Bool → Front → Bool
has_some some Front.LineFeed = false
has_some some Front.Blank = some
has_some some (Front.Comment more) = some
has_some some (Front.Begins t more) = true

-- the tokens of bytes of which so many belong to what began before
unfoldable pub plain_from : ℕ → Bool → List ℕ → List Token
plain_from skip some [] = ended some ++ Token.TextEnd ∷ []
plain_from (suc skip) some (b ∷ bs) = plain_from skip some bs
plain_from zero some (b ∷ bs) = plain_made some (front b bs) ++ plain_from (further (front b bs)) (has_some some (front b bs)) bs

line_tokens : (b : Bool) (p : Placed) (ps : List Placed) → p.token ≡ Token.LineEnd → plain_tokens ((if b then p ∷ [] else []) ++ ps) ≡ ended b ++ plain_tokens ps
line_tokens true p ps e = ap (λ t. t ∷ plain_tokens ps) e
line_tokens false p ps e = refl

made_tokens : (s : Spot) (f : Front) (ps : List Placed) → plain_tokens (made s f ++ ps) ≡ plain_made s.some f ++ plain_tokens ps
made_tokens s Front.LineFeed ps = line_tokens s.some (placed Token.LineEnd s) ps refl
made_tokens s Front.Blank ps = refl
made_tokens s (Front.Comment more) ps = refl
made_tokens s (Front.Begins t more) ps = refl

moved_some : (s : Spot) (f : Front) → (moved s f).some ≡ has_some s.some f
moved_some s Front.LineFeed = refl
moved_some s Front.Blank = refl
moved_some s (Front.Comment more) = refl
moved_some s (Front.Begins t more) = refl

-- the tokens of bytes, without their places
pub plain_is : (skip : ℕ) (s : Spot) (bs : List ℕ) → plain_tokens (tokens_from skip s bs) ≡ plain_from skip s.some bs
unfolding plain_from
plain_is skip s [] = line_tokens s.some (placed Token.LineEnd s) (placed Token.TextEnd s ∷ []) refl
plain_is (suc skip) s (b ∷ bs) = plain_is skip (along 1 s) bs
plain_is zero s (b ∷ bs) =
    made_tokens s (front b bs) (tokens_from (further (front b bs)) (moved s (front b bs)) bs) ∙ ap (λ ts. plain_made s.some (front b bs) ++ ts) (plain_is (further (front b bs)) (moved s (front b bs)) bs ∙ ap (λ some. plain_from (further (front b bs)) some bs) (moved_some s (front b bs)))

passed : (word rest : List ℕ) (some : Bool) → plain_from (length word) some (word ++ rest) ≡ plain_from 0 some rest
unfolding plain_from
passed [] rest some = refl
passed (b ∷ word) rest some = passed word rest some

-- what begins with a token goes on behind the token's bytes
pub plain-begins : (b : ℕ) (bs word rest : List ℕ) (some : Bool) (t : Token) → bs ≡ word ++ rest → front b bs ≡ Front.Begins t (length word) → plain_from 0 some (b ∷ bs) ≡ t ∷ plain_from 0 true rest
unfolding plain_from
plain-begins b bs word rest some t is_bs is_front =
    ap (λ f. plain_made some f ++ plain_from (further f) (has_some some f) bs) is_front ∙ ap (λ us. t ∷ us) (ap (λ cs. plain_from (length word) true cs) is_bs ∙ passed word rest true)

-- what makes no token is skipped with the bytes that belong to it
pub plain-skips : (b : ℕ) (bs word rest : List ℕ) (some : Bool) → bs ≡ word ++ rest → (f : Front) → front b bs ≡ f → plain_made some f ≡ [] → further f ≡ length word → has_some some f ≡ some → plain_from 0 some (b ∷ bs) ≡ plain_from 0 some rest
unfolding plain_from
plain-skips b bs word rest some is_bs f is_front none more same =
    ap (λ g. plain_made some g ++ plain_from (further g) (has_some some g) bs) is_front
    ∙ ap (λ us. us ++ plain_from (further f) (has_some some f) bs) none
    ∙ ap (λ n. plain_from n (has_some some f) bs) more
    ∙ ap (λ c. plain_from (length word) c bs) same
    ∙ ap (λ cs. plain_from (length word) some cs) is_bs
    ∙ passed word rest some

-- no bytes behind a line that has a token
pub plain-last_end : plain_from 0 true [] ≡ Token.LineEnd ∷ Token.TextEnd ∷ []
unfolding plain_from
plain-last_end = refl

-- a line feed of a line that has none
pub plain-empty_feed : (rest : List ℕ) → plain_from 0 false (10 ∷ rest) ≡ plain_from 0 false rest
unfolding plain_from
plain-empty_feed rest = refl

-- no bytes
pub plain-end : plain_from 0 false [] ≡ Token.TextEnd ∷ []
unfolding plain_from
plain-end = refl

-- a space
pub plain-space : (some : Bool) (rest : List ℕ) → plain_from 0 some (32 ∷ rest) ≡ plain_from 0 some rest
unfolding plain_from
plain-space some rest = refl

-- a line feed
pub plain-feed : (rest : List ℕ) → plain_from 0 true (10 ∷ rest) ≡ Token.LineEnd ∷ plain_from 0 false rest
unfolding plain_from
plain-feed rest = refl

-- the signs
pub plain-exactly : (some : Bool) (rest : List ℕ) → plain_from 0 some (61 ∷ rest) ≡ Token.Exactly ∷ plain_from 0 true rest
unfolding plain_from
plain-exactly some rest = refl

-- A plus sign in front gives its token, and then come the tokens of the rest in a line that has
-- one.
pub plain-plus : (some : Bool) (rest : List ℕ) → plain_from 0 some (43 ∷ rest) ≡ Token.Plus ∷ plain_from 0 true rest
unfolding plain_from
plain-plus some rest = refl

-- An asterisk in front gives its token, and then come the tokens of the rest in a line that has
-- one.
pub plain-star : (some : Bool) (rest : List ℕ) → plain_from 0 some (42 ∷ rest) ≡ Token.Star ∷ plain_from 0 true rest
unfolding plain_from
plain-star some rest = refl

-- An opening parenthesis in front gives its token, and then come the tokens of the rest in a line
-- that has one.
pub plain-open : (some : Bool) (rest : List ℕ) → plain_from 0 some (40 ∷ rest) ≡ Token.Open ∷ plain_from 0 true rest
unfolding plain_from
plain-open some rest = refl

-- A closing parenthesis in front gives its token, and then come the tokens of the rest in a line
-- that has one.
pub plain-close : (some : Bool) (rest : List ℕ) → plain_from 0 some (41 ∷ rest) ≡ Token.Close ∷ plain_from 0 true rest
unfolding plain_from
plain-close some rest = refl

-- A greater-than sign and an equals sign in front give the token of a bound from below, and then
-- come the tokens of the rest.
pub plain-least : (some : Bool) (rest : List ℕ) → plain_from 0 some (62 ∷ 61 ∷ rest) ≡ Token.AtLeast ∷ plain_from 0 true rest
unfolding plain_from
plain-least some rest = refl

-- A less-than sign and an equals sign in front give the token of a bound from above, and then come
-- the tokens of the rest.
pub plain-most : (some : Bool) (rest : List ℕ) → plain_from 0 some (60 ∷ 61 ∷ rest) ≡ Token.AtMost ∷ plain_from 0 true rest
unfolding plain_from
plain-most some rest = refl
