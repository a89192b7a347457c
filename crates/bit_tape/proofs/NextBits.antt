-- The next bit of the bytes read ahead is the source's, and the bytes left are still the source's.
use Rattle.std.proofs.Common.{◌≡◌, ℕ, zero, suc, ◌+◌, ◌-◌, ◌*◌, ◌/◌, ◌%◌, ◌^◌, ◌<◌, ◌≤◌, List, length, get_or, take, drop, Bool, Option, Some, None, refl, sym, ap, subst, ◌∙◌, arith, length-take, length-drop, inl, inr}
use Rattle.std.specs.Prelude.{IfSome, slice_get, slice_index, nat_lt, nat_eq, cond, option_map, ◌⊎◌, true, false}
use Rattle.std.specs.Int.{w32, to_be_bytes, bit_at}
use Rattle.std.proofs.lemmas.Bool.{le-ltb, lt-ltb}
use Rattle.std.proofs.lemmas.List.{get_or-take, get_or-drop, drop-drop, drop-take}
use Rattle.std.proofs.lemmas.Nat.{shr-shr, div-add-mod'}
use Rattle.std.proofs.lemmas.Nat.Bits.{bit_at_cat_low}
use Rattle.std.proofs.lemmas.Option.{slice_get-get_or, slice_get_past}
use Rattle.bit_tape.specs.declared.source.Source.{Source}
use Rattle.bit_tape.specs.declared.source.Source.TheVariants.{File, Seed}
use Rattle.bit_tape.specs.Bits.{within_tape, byte_bit, word_bit, file_bit, seed_bit, seed_word}
use Rattle.bit_tape.specs.Buffer.{Ahead, after_bit}
use Rattle.bit_tape.specs.Source.{name_or_seed, SourceGoesOn, AreOfWords}
use Rattle.bit_tape.specs.Refill.{HasEnded}
use Rattle.bit_tape.specs.Tape.{TapeSource, TapeState, AreAt, GivesBit, bits_of_source}

-- below the limit a bit stands, and from it on there is none
within : (place : ℕ) (bit : Option Bool) → place < 2 ^ 63 → within_tape place bit ≡ bit
within place bit h = ap (λ b. cond b bit None) (lt-ltb place (2 ^ 63) h)

past_limit : (place : ℕ) (bit : Option Bool) → 2 ^ 63 ≤ place → within_tape place bit ≡ None
past_limit place bit h = ap (λ b. cond b bit None) (le-ltb place (2 ^ 63) h)

no_bit : (place : ℕ) (bit : Option Bool) → bit ≡ None → within_tape place bit ≡ None
no_bit place bit h = either (nat_lt place (2 ^ 63)) bit h
  where
    either : (b : Bool) (bit : Option Bool) → bit ≡ None → cond b bit None ≡ None
    either true bit e = e
    either false bit e = refl

-- the bits of a byte of a number are bits of the number
pub bit_of_byte : (n i k : ℕ) → k < 8 → n / 2 ^ i % 256 / 2 ^ k % 2 ≡ n / 2 ^ (i + k) % 2
bit_of_byte n i k h =
    let whole : bit_at (n / 2 ^ i / 256 * 2 ^ 8 + n / 2 ^ i % 256) k ≡ bit_at (n / 2 ^ i % 256) k = bit_at_cat_low _ 8 _ k h in
    sym whole ∙ ap (λ m. m / 2 ^ k % 2) (div-add-mod' (n / 2 ^ i) 256) ∙ ap (λ m. m % 2) (shr-shr n i k)

-- the bytes from a place on, but for the first of them, are those from a later place on
pub later : (ahead content : List ℕ) (place d : ℕ) → d ≤ length ahead → AreAt ahead place content → AreAt (drop d ahead) (place + d) content
later ahead content place d few h =
    let m = length ahead - d in
    let split : take (length ahead) (drop place content) ≡ take (d + m) (drop place content) = ap (λ n. take n (drop place content)) (omega arith) in
    let fewer : m ≡ length (drop d ahead) = sym (length-drop d ahead) in
    ap (drop d) (h ∙ split) ∙ drop-take d m (drop place content) ∙ ap (take m) (drop-drop d place content) ∙ ap (λ n. take n (drop (place + d) content)) fewer

-- the first of the bytes read ahead is the content's at the place
first_byte : (ahead content : List ℕ) (place : ℕ) → 0 < length ahead → AreAt ahead place content → slice_get content place ≡ Some (get_or ahead 0 0)
first_byte ahead content place some h =
    let there : length ahead ≡ length (take (length ahead) (drop place content)) = ap length h in
    let inside : place < length content = omega (arith, length-take (length ahead) (drop place content), length-drop place content) in
    let same : get_or ahead 0 0 ≡ get_or content (place + 0) 0 = ap (λ bytes. get_or bytes 0 0) h ∙ get_or-take (length ahead) (drop place content) 0 0 some ∙ get_or-drop place content 0 0 in
    slice_get-get_or content place 0 inside ∙ ap Some (ap (λ i. get_or content i 0) (omega arith) ∙ sym same)

-- a byte of a word has the word's bits
byte_in_word : (word byte i j k : ℕ) → byte ≡ word / 2 ^ i % 256 → i + 8 * j ≡ 24 → k < 8 → byte_bit byte k ≡ word_bit word (8 * j + k)
byte_in_word word byte i j k e at h =
    let place : i + (7 - k) ≡ 31 - (8 * j + k) = omega arith in
    ap (λ bit. nat_eq bit 1) (ap (λ b. b / 2 ^ (7 - k) % 2) e ∙ bit_of_byte word i (7 - k) (omega arith) ∙ ap (λ n. word / 2 ^ n % 2) place)

bit_in_word : (word j k : ℕ) → j < 4 → k < 8 → byte_bit (get_or (to_be_bytes w32 word) j 0) k ≡ word_bit word (8 * j + k)
bit_in_word word zero k h k8 = byte_in_word word _ 24 0 k refl refl k8
bit_in_word word (suc zero) k h k8 = byte_in_word word _ 16 1 k refl refl k8
bit_in_word word (suc (suc zero)) k h k8 = byte_in_word word _ 8 2 k refl refl k8
bit_in_word word (suc (suc (suc zero))) k h k8 = byte_in_word word _ 0 3 k (ap (λ n. n % 256) (omega arith)) refl k8
bit_in_word word (suc (suc (suc (suc j)))) k h k8 = absurd (omega arith)

-- over a shelf, the first of the bytes read ahead has the source's next bit
pub named_bit : (content : Option (List ℕ)) (used : ℕ) (ahead : List ℕ) → used < 2 ^ 63 → 0 < length ahead → IfSome content (AreAt ahead (used / 8)) → IfSome (option_map file_bit content) (λ bits. bits used ≡ Some (byte_bit (get_or ahead 0 0) (used % 8)))
named_bit None used ahead below some h = tt
named_bit (Some bytes) used ahead below some h =
    within used _ below ∙ ap (option_map (λ byte. byte_bit byte (used % 8))) (first_byte ahead bytes (used / 8) some h)

-- the bytes of the words have the seed's next bit first
pub seeded_bit : (seed words used : ℕ) (ahead : List ℕ) → used < 2 ^ 63 → 0 < length ahead → AreOfWords seed words (used / 8) ahead → seed_bit seed used ≡ Some (byte_bit (get_or ahead 0 0) (used % 8))
seeded_bit seed words used ahead below some h =
    let j = (used / 8 + 0) % 4 in
    let which : used / 32 ≡ (used / 8 + 0) / 4 = omega arith in
    let place : used % 32 ≡ 8 * j + used % 8 = omega arith in
    let word = seed_word seed ((used / 8 + 0) / 4) in
    let first : get_or ahead 0 0 ≡ get_or (to_be_bytes w32 word) j 0 = h.each 0 some in
    let bit : byte_bit (get_or ahead 0 0) (used % 8) ≡ word_bit word (8 * j + used % 8) = ap (λ byte. byte_bit byte (used % 8)) first ∙ bit_in_word word j (used % 8) (omega arith) (omega arith) in
    within used _ below ∙ ap Some (ap (λ n. word_bit (seed_word seed n) (used % 32)) which ∙ ap (word_bit word) place ∙ sym bit)

-- the byte's last bit ends it
still_at : (content : Option (List ℕ)) (used : ℕ) (ahead : List ℕ) → 0 < length ahead → IfSome content (AreAt ahead (used / 8)) → IfSome content (AreAt (drop ((used % 8 + 1) / 8) ahead) ((used + 1) / 8))
still_at None used ahead some h = tt
still_at (Some bytes) used ahead some h =
    let next : (used + 1) / 8 ≡ used / 8 + (used % 8 + 1) / 8 = omega arith in
    subst (λ place. AreAt (drop ((used % 8 + 1) / 8) ahead) place bytes) (sym next) (later ahead bytes (used / 8) ((used % 8 + 1) / 8) (omega arith) h)

-- the tape's fields before a bit is taken and after it
gives : (source : Source) (used : ℕ) (ahead : List ℕ) → used < 2 ^ 63 → 0 < length ahead → SourceGoesOn source (used / 8) ahead
    → GivesBit (record { source = name_or_seed source; used = used; ahead = ahead }) (byte_bit (get_or ahead 0 0) (used % 8)) (record { source = name_or_seed source; used = used + 1; ahead = drop ((used % 8 + 1) / 8) ahead })
gives (File name) used ahead below some goes = record {
  source = refl;
  used = refl;
  next = λ contents b. named_bit (contents name) used ahead below some b.ahead;
  belongs = λ contents b. record { ahead = still_at (contents name) used ahead some b.ahead };
}
gives (Seed words) used ahead below some goes = record {
  source = refl;
  used = refl;
  next = λ contents b. seeded_bit words.seed words.place used ahead below some goes;
  belongs = λ contents b. record { ahead = tt };
}

-- the same for a tape that is seen as these fields
pub gives_bit : (source : Source) (used : ℕ) (buffer after : Ahead) (bit : Bool) (old : TapeState) → record { source = name_or_seed source; used = used; ahead = buffer.bytes } ≡ old → 0 < length old.ahead → buffer.bit ≡ used % 8 → used / 8 + length buffer.bytes ≤ 2 ^ 60 → SourceGoesOn source (used / 8) buffer.bytes → bit ≡ byte_bit (slice_index buffer.bytes 0) buffer.bit → after ≡ after_bit buffer
    → GivesBit old bit (record { source = name_or_seed source; used = used + 1; ahead = after.bytes })
gives_bit source used buffer after bit old seen there at room goes is then =
    let some : 0 < length buffer.bytes = subst (λ t. 0 < length t.ahead) (sym seen) there in
    let value : byte_bit (get_or buffer.bytes 0 0) (used % 8) ≡ bit = ap (byte_bit (get_or buffer.bytes 0 0)) (sym at) ∙ sym is in
    let left : drop ((used % 8 + 1) / 8) buffer.bytes ≡ after.bytes = ap (λ k. drop ((k + 1) / 8) buffer.bytes) (sym at) ∙ sym (ap (λ a. a.bytes) then) in
    let new : List ℕ → TapeState = λ ahead. record { source = name_or_seed source; used = used + 1; ahead = ahead } in
    let now : TapeState = record { source = name_or_seed source; used = used; ahead = buffer.bytes } in
    let with_bit = subst (λ b. GivesBit now b (new (drop ((used % 8 + 1) / 8) buffer.bytes))) value (gives source used buffer.bytes (omega arith) some goes) in
    let with_left = subst (λ ahead. GivesBit now bit (new ahead)) left with_bit in
    subst (λ t. GivesBit t bit (new after.bytes)) seen with_left

-- where the source has ended, or the limit is reached, there is no next bit
pub no_next : (source : TapeSource) (contents : List ℕ → Option (List ℕ)) (used : ℕ) → (2 ^ 60 ≤ used / 8) ⊎ HasEnded source contents (used / 8) → IfSome (bits_of_source source contents) (λ bits. bits used ≡ None)
no_next (TapeSource.Named name) contents used h = no_named (contents name) h
  where
    no_named : (content : Option (List ℕ)) → (2 ^ 60 ≤ used / 8) ⊎ IfSome content (λ bytes. length bytes ≤ used / 8) → IfSome (option_map file_bit content) (λ bits. bits used ≡ None)
    no_named None k = tt
    no_named (Some bytes) (inl far) = past_limit used _ (omega arith)
    no_named (Some bytes) (inr end) = no_bit used _ (ap (option_map (λ byte. byte_bit byte (used % 8))) (slice_get_past bytes (used / 8) end))
no_next (TapeSource.Seeded seed) contents used (inl far) = past_limit used _ (omega arith)
no_next (TapeSource.Seeded seed) contents used (inr never) = absurd never
