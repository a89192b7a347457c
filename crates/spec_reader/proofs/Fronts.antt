-- What a run begins at the front of bytes.
use Rattle.std.proofs.Common.{◌≡◌, ◌≢◌, ◌==◌, ℕ, ◌+◌, ◌<◌, true, false, List, [], ◌∷◌, length, take, drop, slice_index, Result, IfOk, refl, ap, add-one, arith}
use Rattle.std.specs.List.{prefix_len}
use Rattle.spec_reader.specs.Bytes.{is_blank, may_be_in_run}
use Rattle.spec_reader.specs.declared.tokens.Front.{Front}
use Rattle.spec_reader.specs.Tokens.{front, run_front}

longer : (n b : ℕ) (bs : List ℕ) → b ∷ take n bs ≡ take (n + 1) (b ∷ bs)
longer n b bs = rw add-one refl

front_at_run : (bytes : List ℕ) → 0 < length bytes → (slice_index bytes 0 == 10) ≡ false → is_blank (slice_index bytes 0) ≡ false → (slice_index bytes 0 == 35) ≡ false → may_be_in_run (slice_index bytes 0) ≡ true → front (slice_index bytes 0) (drop 1 bytes) ≡ run_front (take (prefix_len may_be_in_run (drop 1 bytes) + 1) bytes) (prefix_len may_be_in_run (drop 1 bytes)) (drop (prefix_len may_be_in_run (drop 1 bytes)) (drop 1 bytes))
front_at_run [] some e1 e2 e3 e4 = absurd (omega arith)
front_at_run (b ∷ bs) some e1 e2 e3 e4 = rw (e1, e2, e3, e4) (ap (λ run. run_front run (prefix_len may_be_in_run bs) (drop (prefix_len may_be_in_run bs) bs)) (longer (prefix_len may_be_in_run bs) b bs))

other : (a b : ℕ) → a ≢ b → (a == b) ≡ false
other a b h = grind arith

-- what was read of a run at the front of bytes is what begins there
pub front_read : {E : Type 0} (bytes rest after : List ℕ) (n : ℕ) (r : Result Front E) → 0 < length bytes → slice_index bytes 0 ≢ 10 → is_blank (slice_index bytes 0) ≡ false → slice_index bytes 0 ≢ 35 → may_be_in_run (slice_index bytes 0) ≡ true → rest ≡ drop 1 bytes → after ≡ drop n rest → n ≡ prefix_len may_be_in_run rest → IfOk r (λ f. f ≡ run_front (take (n + 1) bytes) n after) → IfOk r (λ f. f ≡ front (slice_index bytes 0) (drop 1 bytes))
front_read bytes rest after n r some e1 e2 e3 e4 rest_is after_is n_is read =
    rw (front_at_run bytes some (other _ _ e1) e2 (other _ _ e3) e4, ← rest_is, ← n_is, ← after_is) read
