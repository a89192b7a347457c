-- The bits that a tape shows are its source's next bits, and a tape that passes over them still belongs.
use Rattle.std.proofs.Common.{◌≡◌, ℕ, ◌+◌, ◌-◌, ◌*◌, ◌/◌, ◌%◌, ◌^◌, ◌<◌, ◌≤◌, List, length, get_or, drop, Bool, Option, Some, None, refl, sym, ap, subst, ◌∙◌, arith, length-drop, ⊎_elim}
use Rattle.std.specs.Prelude.{IfSome, nat_eq, option_map}
use Rattle.std.specs.Int.{w32, to_be_bytes, bit_at}
use Rattle.std.proofs.lemmas.Bool.{cases_lt}
use Rattle.std.proofs.lemmas.List.{get_or-drop}
use Rattle.std.proofs.lemmas.Nat.Bits.{bit_at_cat_low, bit_at_cat_high}
use Rattle.std.proofs.lemmas.Nat.{shr-shr, div-add-mod'}
use Rattle.bit_tape.specs.declared.source.Source.{Source}
use Rattle.bit_tape.specs.declared.source.Source.TheVariants.{File, Seed}
use Rattle.bit_tape.specs.Bits.{byte_bit, peeked_bit, file_bit, seed_bit, seed_word}
use Rattle.bit_tape.specs.Source.{name_or_seed, SourceGoesOn, AreOfWords}
use Rattle.bit_tape.specs.Buffer.{Ahead, after_bits, LooksAhead}
use Rattle.bit_tape.specs.Tape.{TapeSource, TapeState, AreAt, ReadsAhead, HoldsBits, ShowsBits, SkipsBits, bits_of_source}
use Rattle.bit_tape.proofs.NextBits.{later, named_bit, seeded_bit}

-- a bit of sixteen bits of a number is the number's
bit_of_sixteen : (n i k : ℕ) → k < 16 → n / 2 ^ i % 65536 / 2 ^ k % 2 ≡ n / 2 ^ (i + k) % 2
bit_of_sixteen n i k h =
    let whole : bit_at (n / 2 ^ i / 65536 * 2 ^ 16 + n / 2 ^ i % 65536) k ≡ bit_at (n / 2 ^ i % 65536) k = bit_at_cat_low _ 16 _ k h in
    sym whole ∙ ap (λ m. m / 2 ^ k % 2) (div-add-mod' (n / 2 ^ i) 65536) ∙ ap (λ m. m % 2) (shr-shr n i k)

-- the bits of three bytes, by the byte that a bit stands in
module _ (first second third s i : ℕ) (s8 : s < 8) (i16 : i < 16) (second_fits : second < 256) (third_fits : third < 256) where
  in_first : s + i < 8 → bit_at (first * 2 ^ 16 + (second * 2 ^ 8 + third)) (8 - s + (15 - i)) ≡ bit_at first (7 - (s + i) % 8)
  in_first here =
      bit_at_cat_high first 16 (second * 2 ^ 8 + third) (8 - s + (15 - i)) (omega arith) (omega arith)
      ∙ ap (bit_at first) (let e : 8 - s + (15 - i) - 16 ≡ 7 - (s + i) % 8 = omega arith in e)

  in_second : 8 ≤ s + i → s + i < 16 → bit_at (first * 2 ^ 16 + (second * 2 ^ 8 + third)) (8 - s + (15 - i)) ≡ bit_at second (7 - (s + i) % 8)
  in_second above below =
      bit_at_cat_low first 16 (second * 2 ^ 8 + third) (8 - s + (15 - i)) (omega arith)
      ∙ bit_at_cat_high second 8 third (8 - s + (15 - i)) (omega arith) (omega arith)
      ∙ ap (bit_at second) (let e : 8 - s + (15 - i) - 8 ≡ 7 - (s + i) % 8 = omega arith in e)

  in_third : 16 ≤ s + i → bit_at (first * 2 ^ 16 + (second * 2 ^ 8 + third)) (8 - s + (15 - i)) ≡ bit_at third (7 - (s + i) % 8)
  in_third above =
      bit_at_cat_low first 16 (second * 2 ^ 8 + third) (8 - s + (15 - i)) (omega arith)
      ∙ bit_at_cat_low second 8 third (8 - s + (15 - i)) (omega arith)
      ∙ ap (bit_at third) (let e : 8 - s + (15 - i) ≡ 7 - (s + i) % 8 = omega arith in e)

-- the bit stands at its place in the bytes, where it stands in the byte of that place
bit_at_place : (bytes : List ℕ) (place k byte bit : ℕ) → bit ≡ bit_at byte (7 - k % 8) → byte ≡ get_or bytes (place + k / 8) 0 → nat_eq bit 1 ≡ byte_bit (get_or (drop place bytes) (k / 8) 0) (k % 8)
bit_at_place bytes place k byte bit is there =
    ap (λ b. nat_eq b 1) is
    ∙ ap (λ b. byte_bit b (k % 8)) (there ∙ sym (get_or-drop place bytes (k / 8) 0))

-- a bit of the sixteen bits stands at its place in the bytes
pub bit_of_peeked : (bytes : List ℕ) (place s first second third word i : ℕ) → s < 8 → i < 16 → second < 256 → third < 256 → first ≡ get_or bytes place 0 → second ≡ get_or bytes (place + 1) 0 → third ≡ get_or bytes (place + 2) 0 → word ≡ (first * 2 ^ 16 + (second * 2 ^ 8 + third)) / 2 ^ (8 - s) % 65536 → peeked_bit word i ≡ byte_bit (get_or (drop place bytes) ((s + i) / 8) 0) ((s + i) % 8)
bit_of_peeked bytes place s first second third word i s8 i16 fits2 fits3 is_first is_second is_third is =
    let bits : ℕ = first * 2 ^ 16 + (second * 2 ^ 8 + third) in
    let bit : word / 2 ^ (15 - i) % 2 ≡ bit_at bits (8 - s + (15 - i)) = ap (λ w. w / 2 ^ (15 - i) % 2) is ∙ bit_of_sixteen bits (8 - s) (15 - i) (omega arith) in
    ⊎_elim
    (λ here. bit_at_place bytes place (s + i) first _ (bit ∙ in_first first second third s i s8 i16 fits2 fits3 here) (is_first ∙ ap (λ k. get_or bytes k 0) (let e : place ≡ place + (s + i) / 8 = omega arith in e)))
    (λ above. ⊎_elim
    (λ below. bit_at_place bytes place (s + i) second _ (bit ∙ in_second first second third s i s8 i16 fits2 fits3 above below) (is_second ∙ ap (λ k. get_or bytes k 0) (let e : place + 1 ≡ place + (s + i) / 8 = omega arith in e)))
    (λ last. bit_at_place bytes place (s + i) third _ (bit ∙ in_third first second third s i s8 i16 fits2 fits3 last) (is_third ∙ ap (λ k. get_or bytes k 0) (let e : place + 2 ≡ place + (s + i) / 8 = omega arith in e)))
    (cases_lt (s + i) 16))
    (cases_lt (s + i) 8)

-- What is left of the bytes of words after some of them are bytes of these words.
pub words_later : (seed words place d : ℕ) (ahead : List ℕ) → d ≤ length ahead → AreOfWords seed words place ahead → AreOfWords seed words (place + d) (drop d ahead)
words_later seed words place d ahead inside h =
    let fewer = length-drop d ahead in
    record {
      ends = let ends = h.ends in omega arith;
      each = λ i less. get_or-drop d ahead i 0 ∙ h.each (d + i) (omega arith) ∙ ap (λ p. get_or (to_be_bytes w32 (seed_word seed (p / 4))) (p % 4) 0) (let e : place + (d + i) ≡ place + d + i = omega arith in e);
    }

-- A source goes on where the bytes that are left after n bits end.
goes_later : (source : Source) (used n : ℕ) (ahead : List ℕ) → used % 8 + n ≤ 8 * length ahead → SourceGoesOn source (used / 8) ahead → SourceGoesOn source ((used + n) / 8) (drop ((used % 8 + n) / 8) ahead)
goes_later (File name) used n ahead held goes = tt
goes_later (Seed words) used n ahead held goes =
    let place : used / 8 + (used % 8 + n) / 8 ≡ (used + n) / 8 = omega arith in
    subst (λ p. AreOfWords words.seed words.place p (drop ((used % 8 + n) / 8) ahead)) place (words_later words.seed words.place (used / 8) ((used % 8 + n) / 8) ahead (omega arith) goes)

-- After n bits the fields of a tape still fit one another.
pub still_fits : (source : Source) (used n more : ℕ) (buffer after : Ahead) → buffer.bit ≡ used % 8 → used / 8 + length buffer.bytes ≤ 2 ^ 60 → SourceGoesOn source (used / 8) buffer.bytes → used % 8 + n ≤ 8 * length buffer.bytes → after ≡ after_bits buffer n → more ≡ n → (after.bit ≡ (used + more) % 8) × ((used + more) / 8 + length after.bytes ≤ 2 ^ 60) × SourceGoesOn source ((used + more) / 8) after.bytes
still_fits source used n more buffer after at room goes held then is =
    let left : after.bytes ≡ drop ((used % 8 + n) / 8) buffer.bytes = ap (λ a. a.bytes) then ∙ ap (λ k. drop ((k + n) / 8) buffer.bytes) at in
    let many : length after.bytes ≡ length buffer.bytes - (used % 8 + n) / 8 = ap length left ∙ length-drop ((used % 8 + n) / 8) buffer.bytes in
    let bit : after.bit ≡ (used % 8 + n) % 8 = ap (λ a. a.bit) then ∙ ap (λ k. (k + n) % 8) at in
    (omega arith, omega arith, subst (λ m. SourceGoesOn source ((used + m) / 8) after.bytes) (sym is) (subst (λ bytes. SourceGoesOn source ((used + n) / 8) bytes) (sym left) (goes_later source used n buffer.bytes held goes)))

still_named : (content : Option (List ℕ)) (used n : ℕ) (ahead : List ℕ) → used % 8 + n ≤ 8 * length ahead → IfSome content (AreAt ahead (used / 8)) → IfSome content (AreAt (drop ((used % 8 + n) / 8) ahead) ((used + n) / 8))
still_named None used n ahead held h = tt
still_named (Some bytes) used n ahead held h =
    let place : used / 8 + (used % 8 + n) / 8 ≡ (used + n) / 8 = omega arith in
    subst (λ p. AreAt (drop ((used % 8 + n) / 8) ahead) p bytes) place (later ahead bytes (used / 8) ((used % 8 + n) / 8) (omega arith) h)

-- what is read ahead after some bits is still the source's
reads_ahead-later : (source : TapeSource) (contents : List ℕ → Option (List ℕ)) (used n : ℕ) (ahead : List ℕ) → used % 8 + n ≤ 8 * length ahead → ReadsAhead source contents (used / 8) ahead → ReadsAhead source contents ((used + n) / 8) (drop ((used % 8 + n) / 8) ahead)
reads_ahead-later (TapeSource.Named name) contents used n ahead held h = still_named (contents name) used n ahead held h
reads_ahead-later (TapeSource.Seeded seed) contents used n ahead held h = tt

-- the byte with a bit that is read ahead begins what is left from it on
same_bit : (used i : ℕ) (ahead : List ℕ) → byte_bit (get_or (drop ((used % 8 + i) / 8) ahead) 0 0) ((used + i) % 8) ≡ byte_bit (get_or ahead ((used % 8 + i) / 8) 0) ((used % 8 + i) % 8)
same_bit used i ahead =
    ap (λ b. byte_bit b ((used + i) % 8)) (get_or-drop ((used % 8 + i) / 8) ahead 0 0 ∙ ap (λ k. get_or ahead k 0) (let e : (used % 8 + i) / 8 + 0 ≡ (used % 8 + i) / 8 = omega arith in e))
    ∙ ap (byte_bit (get_or ahead ((used % 8 + i) / 8) 0)) (let e : (used + i) % 8 ≡ (used % 8 + i) % 8 = omega arith in e)

module _ (used n : ℕ) (ahead : List ℕ) (held : used % 8 + n ≤ 8 * length ahead) (room : used / 8 + length ahead ≤ 2 ^ 60) where
  some_left : (i : ℕ) → i < n → 0 < length (drop ((used % 8 + i) / 8) ahead)
  some_left i less = omega (arith, length-drop ((used % 8 + i) / 8) ahead)

  named_next : (content : Option (List ℕ)) → IfSome content (AreAt ahead (used / 8)) → IfSome (option_map file_bit content) (λ bits. (i : ℕ) → i < n → bits (used + i) ≡ Some (byte_bit (get_or ahead ((used % 8 + i) / 8) 0) ((used % 8 + i) % 8)))
  named_next None h = tt
  named_next (Some bytes) h = λ i less.
      named_bit (Some bytes) (used + i) (drop ((used % 8 + i) / 8) ahead) (omega arith) (some_left i less) (still_named (Some bytes) used i ahead (omega arith) h)
      ∙ ap Some (same_bit used i ahead)

  seeded_next : (seed words : ℕ) → AreOfWords seed words (used / 8) ahead → (i : ℕ) → i < n → seed_bit seed (used + i) ≡ Some (byte_bit (get_or ahead ((used % 8 + i) / 8) 0) ((used % 8 + i) % 8))
  seeded_next seed words rest i less =
      let place : used / 8 + (used % 8 + i) / 8 ≡ (used + i) / 8 = omega arith in
      seeded_bit seed words (used + i) (drop ((used % 8 + i) / 8) ahead) (omega arith) (some_left i less) (subst (λ p. AreOfWords seed words p (drop ((used % 8 + i) / 8) ahead)) place (words_later seed words (used / 8) ((used % 8 + i) / 8) ahead (omega arith) rest))
      ∙ ap Some (same_bit used i ahead)

  -- the bits that are read ahead are the source's next bits
  next_bits : (source : Source) (contents : List ℕ → Option (List ℕ)) → SourceGoesOn source (used / 8) ahead → ReadsAhead (name_or_seed source) contents (used / 8) ahead → IfSome (bits_of_source (name_or_seed source) contents) (λ bits. (i : ℕ) → i < n → bits (used + i) ≡ Some (byte_bit (get_or ahead ((used % 8 + i) / 8) 0) ((used % 8 + i) % 8)))
  next_bits (File name) contents goes reads = named_next (contents name) reads
  next_bits (Seed words) contents goes reads = seeded_next words.seed words.place goes

-- what holds of each of the first n bits holds of equal bits
same_bits : (told : Option (ℕ → Option Bool)) (used n : ℕ) (one other : ℕ → Bool) → ((i : ℕ) → i < n → other i ≡ one i) → IfSome told (λ bits. (i : ℕ) → i < n → bits (used + i) ≡ Some (one i)) → IfSome told (λ bits. (i : ℕ) → i < n → bits (used + i) ≡ Some (other i))
same_bits None used n one other same h = tt
same_bits (Some bits) used n one other same h = λ i less. h i less ∙ ap Some (sym (same i less))

-- The bits that a buffer looks ahead to show the tape's bits, for a tape that is seen as these fields.
pub shows_bits : (source : Source) (used n word : ℕ) (buffer : Ahead) (old : TapeState) → record { source = name_or_seed source; used = used; ahead = buffer.bytes } ≡ old → buffer.bit ≡ used % 8 → used / 8 + length buffer.bytes ≤ 2 ^ 60 → SourceGoesOn source (used / 8) buffer.bytes → LooksAhead buffer word n → ShowsBits old word n
shows_bits source used n word buffer old seen at room goes looks =
    let held : used % 8 + n ≤ 8 * length buffer.bytes = subst (λ k. k + n ≤ 8 * length buffer.bytes) at looks.held in
    let now : TapeState = record { source = name_or_seed source; used = used; ahead = buffer.bytes } in
    let shows : ShowsBits now word n = record {
      few = looks.few;
      held = held;
      next = λ contents b. same_bits (bits_of_source (name_or_seed source) contents) used n (λ i. byte_bit (get_or buffer.bytes ((used % 8 + i) / 8) 0) ((used % 8 + i) % 8)) (λ i. peeked_bit word i)
          (λ i less. looks.bits i less ∙ ap (λ k. byte_bit (get_or buffer.bytes ((k + i) / 8) 0) ((k + i) % 8)) at)
          (next_bits used n buffer.bytes held room source contents goes b.ahead);
    } in
    subst (λ t. ShowsBits t word n) seen shows

-- A tape seen as these fields passes over n bits.
pub skips_bits : (source : Source) (used n more : ℕ) (buffer after : Ahead) (old : TapeState) → record { source = name_or_seed source; used = used; ahead = buffer.bytes } ≡ old → HoldsBits old n → buffer.bit ≡ used % 8 → after ≡ after_bits buffer n → more ≡ n → SkipsBits old n (record { source = name_or_seed source; used = used + more; ahead = after.bytes })
skips_bits source used n more buffer after old seen held_old at then is =
    let held : used % 8 + n ≤ 8 * length buffer.bytes = subst (λ t. HoldsBits t n) (sym seen) held_old in
    let left : drop ((used % 8 + n) / 8) buffer.bytes ≡ after.bytes = ap (λ k. drop ((k + n) / 8) buffer.bytes) (sym at) ∙ sym (ap (λ a. a.bytes) then) in
    let now : TapeState = record { source = name_or_seed source; used = used; ahead = buffer.bytes } in
    let new : TapeState = record { source = name_or_seed source; used = used + more; ahead = after.bytes } in
    let skips : SkipsBits now n new = record {
      source = refl;
      used = ap (λ m. used + m) is;
      belongs = λ contents b. record { ahead = subst (λ m. ReadsAhead (name_or_seed source) contents ((used + m) / 8) after.bytes) (sym is) (subst (λ xs. ReadsAhead (name_or_seed source) contents ((used + n) / 8) xs) left (reads_ahead-later (name_or_seed source) contents used n buffer.bytes held b.ahead)) };
    } in
    subst (λ t. SkipsBits t n new) seen skips
