-- A SHA-256 digest is 32 bytes.
use Rattle.std.proofs.Common.{ℕ, zero, suc, ◌<◌, arith, List, [], ◌∷◌, ◌++◌, mod-lt}
use Rattle.std.specs.Prelude.{slice_index}
use Rattle.std.specs.Int.{byte_at, bytes_high_first, to_be_bytes, w32}
use Rattle.sha2.specs.Sha256.{digest_bytes, final_hash, initial_hash_256, sha256}
use Rattle.sha2.proofs.Facts256.{length-sha256}
use Rattle.hex.specs.Hex.{IsBytes}
use Rattle.certificate.specs.Fields.{IsDigest}

byte-small : (i n : ℕ) → byte_at i n < 256
byte-small zero n = mod-lt n (omega arith)
byte-small (suc i) n = mod-lt _ (omega arith)

number-bytes : (k n i : ℕ) → slice_index (bytes_high_first k n) i < 256
number-bytes zero n i = omega arith
number-bytes (suc k) n zero = byte-small k n
number-bytes (suc k) n (suc i) = number-bytes k n i

joined-bytes : (xs ys : List ℕ) → IsBytes xs → IsBytes ys → (i : ℕ) → slice_index (xs ++ ys) i < 256
joined-bytes [] ys h k i = k i
joined-bytes (x ∷ xs) ys h k zero = h zero
joined-bytes (x ∷ xs) ys h k (suc i) = joined-bytes xs ys (λ j. h (suc j)) k i

words-bytes : (h : List ℕ) (n i : ℕ) → slice_index (digest_bytes h n) i < 256
unfolding digest_bytes
words-bytes h zero i = omega arith
words-bytes h (suc n) i = joined-bytes (digest_bytes h n) (to_be_bytes w32 (slice_index h n)) (words-bytes h n) (number-bytes 4 (slice_index h n)) i

-- The SHA-256 digest of any message is a digest, a list of 32 bytes.
pub is-digest : (message : List ℕ) → IsDigest (sha256 message)
unfolding sha256
is-digest message = record { count = length-sha256 message; each = words-bytes (final_hash initial_hash_256 message) 8 }
