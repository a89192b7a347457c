-- One step of the lexer: what begins at a byte, and the tokens after it.
use Rattle.std.proofs.Common.{◌≡◌, ℕ, zero, suc, ◌+◌, ◌≤◌, ◌<◌, List, [], ◌∷◌, ◌++◌, length, drop, slice_index, sym, ◌∙◌, ap, add-zero, arith, drop-drop, append_assoc}
use Rattle.spec_reader.specs.declared.tokens.Front.{Front}
use Rattle.spec_reader.specs.declared.tokens.Placed.{Placed}
use Rattle.spec_reader.specs.declared.tokens.Spot.{Spot}
use Rattle.spec_reader.specs.Tokens.{front, made, moved, further, along, tokens_from}

-- bytes that belong to what began before are passed over
passes : (k : ℕ) (s : Spot) (bs : List ℕ) → k ≤ length bs → tokens_from k s bs ≡ tokens_from 0 (along k s) (drop k bs)
passes zero s bs h = ap (λ n. tokens_from 0 (record { some = s.some; line = s.line; column = n }) bs) (sym (add-zero s.column))
passes (suc k) s [] h = absurd (omega arith)
passes (suc k) s (b ∷ bs) h =
    let shorter : k ≤ length bs = omega arith in
    let column_is : s.column + 1 + k ≡ s.column + suc k = omega arith in
    passes k (along 1 s) bs shorter ∙ ap (λ n. tokens_from 0 (record { some = s.some; line = s.line; column = n }) (drop k bs)) column_is

scan_rest : (rest : List ℕ) (s : Spot) (f : Front) → f ≡ front (slice_index rest 0) (drop 1 rest) → further f < length rest → tokens_from 0 s rest ≡ made s f ++ tokens_from 0 (along (further f) (moved s f)) (drop (suc (further f)) rest)
scan_rest [] s f e h = absurd (omega arith)
scan_rest (b ∷ bs) s f e h =
    let within : further f ≤ length bs = omega arith in
    ap (λ g. made s g ++ tokens_from (further g) (moved s g) bs) (sym e) ∙ ap (λ ts. made s f ++ ts) (passes (further f) (moved s f) bs within)

counted : (f : Front) (i : ℕ) → i + suc (further f) ≡ i + (1 + further f)
counted f i = omega arith

-- a spot stays as near to the beginning as its place is
pub stays_near : (s : Spot) (f : Front) → 1 ≤ s.column → (along (further f) (moved s f)).line + (along (further f) (moved s f)).column ≤ s.line + s.column + (1 + further f)
stays_near s Front.LineFeed h = omega arith
stays_near s Front.Blank h = omega arith
stays_near s (Front.Comment more) h = omega arith
stays_near s (Front.Begins t more) h = omega arith

pub from_one : (s : Spot) (f : Front) → 1 ≤ s.column → 1 ≤ (along (further f) (moved s f)).column
from_one s Front.LineFeed h = omega arith
from_one s Front.Blank h = omega arith
from_one s (Front.Comment more) h = omega arith
from_one s (Front.Begins t more) h = omega arith

-- what begins at the place i of the bytes, and the tokens after it
pub scan_step : (bytes rest : List ℕ) (i : ℕ) (s : Spot) (f : Front) → rest ≡ drop i bytes → f ≡ front (slice_index rest 0) (drop 1 rest) → further f < length rest → tokens_from 0 s (drop i bytes) ≡ made s f ++ tokens_from 0 (along (further f) (moved s f)) (drop (i + (1 + further f)) bytes)
scan_step bytes rest i s f rest_is e h =
    let there : drop (suc (further f)) rest ≡ drop (i + (1 + further f)) bytes = ap (λ bs. drop (suc (further f)) bs) rest_is ∙ drop-drop (suc (further f)) i bytes ∙ ap (λ n. drop n bytes) (counted f i) in
    ap (λ bs. tokens_from 0 s bs) (sym rest_is) ∙ scan_rest rest s f e h ∙ ap (λ bs. made s f ++ tokens_from 0 (along (further f) (moved s f)) bs) there

-- the tokens so far and those to come stay the tokens of the text
pub so_far_kept : (bytes rest : List ℕ) (i n : ℕ) (s behind : Spot) (f : Front) (all old new : List Placed) → rest ≡ drop i bytes → f ≡ front (slice_index rest 0) (drop 1 rest) → further f < length rest → all ≡ old ++ tokens_from 0 s (drop i bytes) → new ≡ old ++ made s f → behind ≡ along (further f) (moved s f) → n ≡ further f → all ≡ new ++ tokens_from 0 behind (drop (i + (1 + n)) bytes)
so_far_kept bytes rest i n s behind f all old new rest_is e h so_far new_is behind_is n_is =
    rw (new_is, behind_is, n_is) (so_far ∙ ap (λ ts. old ++ ts) (scan_step bytes rest i s f rest_is e h) ∙ sym (append_assoc old (made s f) _))

-- Where line plus column is at most the place plus 2, and the column at least 1, the same bound
-- holds behind the bytes of what begins there.
pub near_kept : (i n : ℕ) (s behind : Spot) (f : Front) → s.line + s.column ≤ i + 2 → 1 ≤ s.column → behind ≡ along (further f) (moved s f) → n ≡ further f → behind.line + behind.column ≤ i + (1 + n) + 2
near_kept i n s behind f near one behind_is n_is = rw (behind_is, n_is) (omega (arith, stays_near s f one))

-- Where the column of a spot is at least 1, so is the column of the spot behind what begins there.
pub from_one_kept : (s behind : Spot) (f : Front) → 1 ≤ s.column → behind ≡ along (further f) (moved s f) → 1 ≤ behind.column
from_one_kept s behind f one behind_is = rw behind_is (from_one s f one)
