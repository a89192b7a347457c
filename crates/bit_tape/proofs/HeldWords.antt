-- The bytes of a seed's words that are written one after another.
use Rattle.std.proofs.Common.{◌≡◌, ℕ, ◌+◌, ◌-◌, ◌*◌, ◌/◌, ◌%◌, ◌<◌, ◌≤◌, List, ◌++◌, length, get_or, take, ap, ◌∙◌, arith, length-take, ⊎_elim}
use Rattle.std.specs.Int.{w32, to_be_bytes}
use Rattle.std.proofs.lemmas.Bool.{cases_lt}
use Rattle.std.proofs.lemmas.List.{get_or-take, get_or_append_left, get_or-append_right}
use borrow.Rule.Slice.PartMut.{put_mid, post_of}
use Rattle.bit_tape.specs.Bits.{seed_word}
use Rattle.bit_tape.specs.Source.{AreFirstBytes, AreOfWords}

-- a byte of the words that stand already is kept
kept_byte : (i k j : ℕ) (out word : List ℕ) → 4 * i ≤ length out → j < 4 * i → get_or (put_mid (4 * i) k out word) j 0 ≡ get_or out j 0
kept_byte i k j out word fits here =
    get_or_append_left (take (4 * i) out) (word ++ post_of (4 * i) k out) 0 j (omega (arith, length-take (4 * i) out))
    ∙ get_or-take (4 * i) out j 0 here

-- a byte of the word that is written
written_byte : (i k j : ℕ) (out word : List ℕ) → 4 * i ≤ length out → 4 * i ≤ j → j < 4 * i + length word → get_or (put_mid (4 * i) k out word) j 0 ≡ get_or word (j - 4 * i) 0
written_byte i k j out word fits from below =
    get_or-append_right (take (4 * i) out) (word ++ post_of (4 * i) k out) (4 * i) j 0 (let e : length (take (4 * i) out) ≡ 4 * i = omega (arith, length-take (4 * i) out) in e) from
    ∙ get_or_append_left word (post_of (4 * i) k out) 0 (j - 4 * i) (omega arith)

-- Where the first i words stand, and the next is written after them, the first i + 1 words stand.
pub first_bytes-more : (seed first i k : ℕ) (out word : List ℕ) → AreFirstBytes seed first (4 * i) out → 4 * i + 4 ≤ length out → word ≡ to_be_bytes w32 (seed_word seed (first + i)) → AreFirstBytes seed first (4 * (i + 1)) (put_mid (4 * i) k out word)
first_bytes-more seed first i k out word held fits is =
    let four : length word ≡ 4 = ap length is in
    record {
      each = λ j less. ⊎_elim
          (λ here. kept_byte i k j out word (omega arith) here ∙ held.each j here)
          (λ there. written_byte i k j out word (omega arith) there (omega arith)
          ∙ ap (λ bytes. get_or bytes (j - 4 * i) 0) is
          ∙ ap (λ n. get_or (to_be_bytes w32 (seed_word seed (first + n))) (j - 4 * i) 0) (let e : i ≡ j / 4 = omega arith in e)
          ∙ ap (λ n. get_or (to_be_bytes w32 (seed_word seed (first + j / 4))) n 0) (let e : j - 4 * i ≡ j % 4 = omega arith in e))
          (cases_lt j (4 * i));
    }

-- The first bytes, where they are those of words, are read ahead from the first word's place on.
pub first_bytes-ahead : (seed first count last : ℕ) (bytes : List ℕ) → AreFirstBytes seed first (4 * count) bytes → 4 * count ≤ length bytes → last ≡ first + count → AreOfWords seed last (4 * first) (take (4 * count) bytes)
first_bytes-ahead seed first count last bytes held fits is =
    let many : length (take (4 * count) bytes) ≡ 4 * count = omega (arith, length-take (4 * count) bytes) in
    record {
      ends = omega arith;
      each = λ i less. get_or-take (4 * count) bytes i 0 (omega arith) ∙ held.each i (omega arith)
          ∙ ap (λ n. get_or (to_be_bytes w32 (seed_word seed n)) (i % 4) 0) (let e : first + i / 4 ≡ (4 * first + i) / 4 = omega arith in e)
          ∙ ap (λ n. get_or (to_be_bytes w32 (seed_word seed ((4 * first + i) / 4))) n 0) (let e : i % 4 ≡ (4 * first + i) % 4 = omega arith in e);
    }
