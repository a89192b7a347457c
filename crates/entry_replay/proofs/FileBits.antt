-- The bits of a file's bytes, and bits put one after the other into bytes.
use Rattle.std.proofs.Common.{◌≡◌, ℕ, zero, suc, ◌+◌, ◌-◌, ◌*◌, ◌/◌, ◌%◌, ◌^◌, ◌<◌, ◌≤◌, arith, Bool, List, [], ◌∷◌, ◌++◌, length, replicate, take, get_or, cond, append-nil, append_assoc, length-append, Option, Some, None, refl, sym, ◌∙◌, ap, subst}
use Rattle.std.proofs.lemmas.Bool.{lt-ltb}
use Rattle.std.proofs.Math.Decide.{dec_le}
use Rattle.std.proofs.lemmas.List.{take_more}
use Rattle.std.proofs.lemmas.Option.{slice_get_past}
use Rattle.std.specs.Prelude.{slice_get, option_map, nat_eq, nat_lt, true, false}
use Rattle.bz_model.specs.declared.cell.Cell.{Cell}
use Rattle.bz_model.specs.Cell.{bits_of, bits_of_bytes, spelled}
use Rattle.bit_tape.specs.Bits.{file_bit, byte_bit, within_tape}
use Rattle.bit_tape.specs.Given.{HasBits}
use Rattle.bit_tape.proofs.GivenBits.{has_bits-append, has_bits-first}
use Rattle.labelling.proofs.SpelledLabels.{spelled-both}
use Rattle.choice_draw.specs.Draw.{bit_number}
use Rattle.choice_draw.proofs.LeastCells.{bits-length, halved-bits}

-- a bit of a file stands in its byte
byte-at : (bytes : List ℕ) (l byte k place : ℕ) → slice_get bytes l ≡ Some byte → l < 2 ^ 60 → k < 8 → place ≡ 8 * l + k → file_bit bytes place ≡ Some (byte_bit byte k)
byte-at bytes l byte k place at few small is =
    let below : place < 2 ^ 63 = omega arith in
    let which : place / 8 ≡ l = omega arith in
    let bit : place % 8 ≡ k = omega arith in
    ap (λ b. cond b (option_map (λ y. byte_bit y (place % 8)) (slice_get bytes (place / 8))) None) (lt-ltb place (2 ^ 63) below)
    ∙ ap (λ n. option_map (λ y. byte_bit y (place % 8)) (slice_get bytes n)) which
    ∙ ap (option_map (λ y. byte_bit y (place % 8))) at
    ∙ ap (λ n. Some (byte_bit byte n)) bit

-- the eight bits of a byte
byte-bits : (bytes : List ℕ) (l byte : ℕ) → slice_get bytes l ≡ Some byte → l < 2 ^ 60 → HasBits (file_bit bytes) (8 * l) (bits_of 8 byte)
byte-bits bytes l byte at few = (
  byte-at bytes l byte 0 (8 * l) at few (omega arith) (omega arith),
  (
    byte-at bytes l byte 1 (suc (8 * l)) at few (omega arith) (omega arith),
    (
      byte-at bytes l byte 2 (suc (suc (8 * l))) at few (omega arith) (omega arith),
      (
        byte-at bytes l byte 3 (suc (suc (suc (8 * l)))) at few (omega arith) (omega arith),
        (
          byte-at bytes l byte 4 (suc (suc (suc (suc (8 * l))))) at few (omega arith) (omega arith),
          (
            byte-at bytes l byte 5 (suc (suc (suc (suc (suc (8 * l)))))) at few (omega arith) (omega arith),
            (
              byte-at bytes l byte 6 (suc (suc (suc (suc (suc (suc (8 * l))))))) at few (omega arith) (omega arith),
              (
                byte-at bytes l byte 7 (suc (suc (suc (suc (suc (suc (suc (8 * l)))))))) at few (omega arith) (omega arith),
                tt,
              ),
            ),
          ),
        ),
      ),
    ),
  ),
)

get-seam : (front : List ℕ) (byte : ℕ) (rest : List ℕ) → slice_get (front ++ byte ∷ rest) (length front) ≡ Some byte
get-seam [] byte rest = refl
get-seam (x ∷ front) byte rest = get-seam front byte rest

bytes-from : (front bytes : List ℕ) → length (front ++ bytes) ≤ 2 ^ 60 → HasBits (file_bit (front ++ bytes)) (8 * length front) (bits_of_bytes bytes)
bytes-from front [] few = tt
bytes-from front (byte ∷ bytes) few =
    let all : length (front ++ byte ∷ bytes) ≡ length front + suc (length bytes) = length-append front (byte ∷ bytes) in
    let whole : (front ++ byte ∷ []) ++ bytes ≡ front ++ byte ∷ bytes = append_assoc front (byte ∷ []) bytes in
    let more = bytes-from (front ++ byte ∷ []) bytes (subst (λ bs. length bs ≤ 2 ^ 60) (sym whole) few) in
    let long : length (front ++ byte ∷ []) ≡ length front + 1 = length-append front (byte ∷ []) in
    let place : 8 * length (front ++ byte ∷ []) ≡ 8 * length front + length (bits_of 8 byte) = omega (arith, long, bits-length 8 byte) in
    has_bits-append (file_bit (front ++ byte ∷ bytes)) (8 * length front) (bits_of 8 byte) (bits_of_bytes bytes)
    (byte-bits (front ++ byte ∷ bytes) (length front) byte (get-seam front byte bytes) (omega arith))
    (subst (λ n. HasBits (file_bit (front ++ byte ∷ bytes)) n (bits_of_bytes bytes)) place (subst (λ bs. HasBits (file_bit bs) (8 * length (front ++ byte ∷ [])) (bits_of_bytes bytes)) whole more))

-- the bits of a file
pub file-bits : (bytes : List ℕ) → length bytes ≤ 2 ^ 60 → HasBits (file_bit bytes) 0 (bits_of_bytes bytes)
file-bits bytes few = bytes-from [] bytes few

-- the bits of one byte more
pub bytes-more : (bytes : List ℕ) (byte : ℕ) → bits_of_bytes (bytes ++ byte ∷ []) ≡ bits_of_bytes bytes ++ bits_of 8 byte
bytes-more [] byte = append-nil (bits_of 8 byte)
bytes-more (b ∷ bytes) byte = ap (λ bs. bits_of 8 b ++ bs) (bytes-more bytes byte) ∙ sym (append_assoc (bits_of 8 b) (bits_of_bytes bytes) (bits_of 8 byte))

-- one bit more in the byte that isn't full
pub bit-more : (front : List Bool) (count last next v : ℕ) (bit : Bool) → next ≡ 2 * last + v → v ≡ bit_number bit → front ++ bits_of (count + 1) next ≡ (front ++ bits_of count last) ++ bit ∷ []
bit-more front count last next v bit is number =
    ap (λ n. front ++ bits_of n next) (let z : count + 1 ≡ suc count = omega arith in z)
    ∙ ap (λ n. front ++ bits_of (suc count) n) (is ∙ ap (λ m. 2 * last + m) number)
    ∙ ap (λ bs. front ++ bs) (halved-bits count last bit)
    ∙ sym (append_assoc front (bits_of count last) (bit ∷ []))

-- or the last one of it
pub byte-full : (bytes : List ℕ) (count last next v : ℕ) (bit : Bool) → next ≡ 2 * last + v → v ≡ bit_number bit → count ≡ 7 → bits_of_bytes (bytes ++ next ∷ []) ++ [] ≡ (bits_of_bytes bytes ++ bits_of count last) ++ bit ∷ []
byte-full bytes count last next v bit is number full =
    append-nil (bits_of_bytes (bytes ++ next ∷ []))
    ∙ bytes-more bytes next
    ∙ ap (λ n. bits_of_bytes bytes ++ bits_of n next) (let z : 8 ≡ count + 1 = omega arith in z)
    ∙ bit-more (bits_of_bytes bytes) count last next v bit is number

-- what begins two lists of bits, of which the other one's rest is no longer
begins : (old zeros whole tail : List Bool) → old ++ zeros ≡ whole ++ tail → length tail ≤ length zeros → (rest : List Bool) × (whole ≡ old ++ rest)
begins [] zeros whole tail is few = (whole, refl)
begins (b ∷ old) zeros [] tail is few =
    let l : length (b ∷ (old ++ zeros)) ≡ length tail = ap length is in
    let m = length-append old zeros in
    let no : ⊥ = omega arith in absurd no
begins (b ∷ old) zeros (d ∷ whole) tail is few =
    let more : old ++ zeros ≡ whole ++ tail = cc in
    let same : d ≡ b = cc in
    let r = begins old zeros whole tail more few in
    (r.0, ap (λ bs. d ∷ bs) r.1 ∙ ap (λ x. x ∷ (old ++ r.0)) same)

-- After seven zeros more the full bytes have all bits before.
pub padded : (old : List Bool) (bytes : List ℕ) (count last : ℕ) → bits_of_bytes bytes ++ bits_of count last ≡ old ++ replicate 7 false → count < 8 → length bytes ≤ 2 ^ 60 → HasBits (file_bit bytes) 0 old
padded old bytes count last is few within =
    let short : length (bits_of count last) ≤ 7 = (let l = bits-length count last in omega arith) in
    let r = begins old (replicate 7 false) (bits_of_bytes bytes) (bits_of count last) (sym is) short in
    has_bits-first (file_bit bytes) 0 old r.0 (subst (HasBits (file_bit bytes) 0) r.1 (file-bits bytes within))

-- one zero more
pub zero-more : (old : List Bool) (n : ℕ) → (old ++ replicate n false) ++ false ∷ [] ≡ old ++ replicate (n + 1) false
zero-more old n = append_assoc old (replicate n false) (false ∷ []) ∙ ap (λ bs. old ++ bs) (zeros n)
  where
    zeros : (k : ℕ) → replicate k false ++ false ∷ [] ≡ replicate (k + 1) false
    zeros zero = refl
    zeros (suc k) = ap (λ bs. false ∷ bs) (zeros k) ∙ (let z : suc (k + 1) ≡ suc k + 1 = omega arith in ap (λ n. replicate n false) z)

-- the lowest bits of a cell, one bit after the other
pub bits-left : (front : List Bool) (left next k : ℕ) (bit : Bool) (all : List Bool) → left ≡ next + 1 → bit ≡ nat_eq (k / 2 ^ next % 2) 1 → front ++ bits_of left k ≡ all → (front ++ bit ∷ []) ++ bits_of next k ≡ all
bits-left front left next k bit all is at h =
    append_assoc front (bit ∷ []) (bits_of next k)
    ∙ ap (λ b. front ++ (b ∷ bits_of next k)) at
    ∙ ap (λ n. front ++ bits_of n k) (let z : suc next ≡ left = omega arith in z)
    ∙ h

-- the bits of one cell more
pub spelled-more : (cells : List Cell) (i : ℕ) (d : Cell) (before next : List Bool) → i < length cells → before ≡ spelled (take i cells) → next ≡ before ++ bits_of (get_or cells i d).b (get_or cells i d).k → next ≡ spelled (take (i + 1) cells)
spelled-more cells i d before next h is more =
    let cell = get_or cells i d in
    let one : spelled (take (i + 1) cells) ≡ spelled (take i cells) ++ bits_of (get_or cells i d).b (get_or cells i d).k =
    ap spelled (take_more cells i d h) ∙ spelled-both (take i cells) (get_or cells i d ∷ []) ∙ ap (λ bs. spelled (take i cells) ++ bs) (append-nil (bits_of (get_or cells i d).b (get_or cells i d).k)) in
    more ∙ ap (λ bs. bs ++ bits_of (get_or cells i d).b (get_or cells i d).k) is ∙ sym one

bits-at : (f : ℕ → Option Bool) (place : ℕ) (bs : List Bool) → HasBits f place bs → (i : ℕ) → i < length bs → f (place + i) ≡ slice_get bs i
bits-at f place [] here i within = absurd (omega arith)
bits-at f place (b ∷ bs) here zero within = ap f (let e : place + 0 ≡ place = omega arith in e) ∙ here.0
bits-at f place (b ∷ bs) here (suc i) within = ap f (let e : place + suc i ≡ suc place + i = omega arith in e) ∙ bits-at f (suc place) bs here.1 i (omega arith)

bytes-long : (bytes : List ℕ) → length (bits_of_bytes bytes) ≡ 8 * length bytes
bytes-long [] = omega arith
bytes-long (b ∷ bytes) = omega (arith, length-append (bits_of 8 b) (bits_of_bytes bytes), bits-length 8 b, bytes-long bytes)

no-bit : (inside : Bool) (bit : Option Bool) → bit ≡ None → cond inside bit None ≡ None
no-bit true bit none = none
no-bit false bit none = refl

no-byte : (byte : Option ℕ) (place : ℕ) → byte ≡ None → within_tape place (option_map (λ y. byte_bit y (place % 8)) byte) ≡ None
no-byte byte place none = no-bit (nat_lt place (2 ^ 63)) (option_map (λ y. byte_bit y (place % 8)) byte) (ap (option_map (λ y. byte_bit y (place % 8))) none)

-- The bit of a file at a place is the one there in the list of its bytes' bits.
pub file-bit-at : (bytes : List ℕ) (place : ℕ) → length bytes ≤ 2 ^ 60 → file_bit bytes place ≡ slice_get (bits_of_bytes bytes) place
file-bit-at bytes place few = go (dec_le (length (bits_of_bytes bytes)) place)
  where
    go : Dec (length (bits_of_bytes bytes) ≤ place) → file_bit bytes place ≡ slice_get (bits_of_bytes bytes) place
    go (yes past) =
        let long = bytes-long bytes in
        let beyond : length bytes ≤ place / 8 = omega arith in
        no-byte (slice_get bytes (place / 8)) place (slice_get_past bytes (place / 8) beyond) ∙ sym (slice_get_past (bits_of_bytes bytes) place past)
    go (no within) = ap (file_bit bytes) (let e : place ≡ 0 + place = omega arith in e) ∙ bits-at (file_bit bytes) 0 (bits_of_bytes bytes) (file-bits bytes few) place (omega (arith, within))
