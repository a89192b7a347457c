-- A vector less a multiple of the weights, entry after entry.
use Rattle.std.proofs.Common.{◌≡◌, ℕ, zero, suc, ◌+◌, ◌-◌, ◌*◌, ◌<◌, ◌≤◌, List, [], ◌∷◌, ◌++◌, length, drop, refl, sym, ap, ◌∙◌, arith, add-one, append_assoc, append-nil}
use Rattle.std.specs.Prelude.{slice_index}
use Rattle.rounded_map.proofs.Bounding.{length-at_each}
use Rattle.fast_lower.specs.FastVector.{lowered}

-- There is an entry for each class.
pub length-lowered : (upper weights : List ℕ) (f : ℕ) → length weights ≡ length upper → length (lowered upper weights f) ≡ length upper
unfolding lowered
length-lowered upper weights f same = length-at_each (λ u v. u - f * v) upper weights same

pub lowered-first : (upper weights : List ℕ) (f : ℕ) → [] ++ lowered (drop 0 upper) (drop 0 weights) f ≡ lowered upper weights f
lowered-first upper weights f = refl

split : (upper weights : List ℕ) (f c : ℕ) → c < length upper → length weights ≡ length upper → lowered (drop c upper) (drop c weights) f ≡ (slice_index upper c - f * slice_index weights c) ∷ lowered (drop (suc c) upper) (drop (suc c) weights) f
unfolding lowered
split [] weights f c within same = absurd (omega arith)
split (u ∷ upper) [] f c within same = absurd (omega arith)
split (u ∷ upper) (w ∷ weights) f zero within same = refl
split (u ∷ upper) (w ∷ weights) f (suc c) within same = split upper weights f c (omega arith) (omega arith)

-- Entries of a lowered vector up to c, with upper's entry at c less f times its weight (0 if
-- negative) put at the end, are its entries up to c + 1.
pub lowered-more : (upper weights : List ℕ) (f c v : ℕ) (low more : List ℕ) → c < length upper → length weights ≡ length upper → low ++ lowered (drop c upper) (drop c weights) f ≡ lowered upper weights f → v ≡ slice_index upper c - f * slice_index weights c → more ≡ low ++ v ∷ [] → more ++ lowered (drop (c + 1) upper) (drop (c + 1) weights) f ≡ lowered upper weights f
lowered-more upper weights f c v low more within same so_far is pushed =
    ap (λ (k : ℕ). more ++ lowered (drop k upper) (drop k weights) f) (add-one c)
    ∙ ap (λ (vs : List ℕ). vs ++ lowered (drop (suc c) upper) (drop (suc c) weights) f) pushed
    ∙ append_assoc low (v ∷ []) (lowered (drop (suc c) upper) (drop (suc c) weights) f)
    ∙ ap (λ (e : ℕ). low ++ e ∷ lowered (drop (suc c) upper) (drop (suc c) weights) f) is
    ∙ ap (λ (vs : List ℕ). low ++ vs) (sym (split upper weights f c within same))
    ∙ so_far

none-left : (upper weights : List ℕ) (f c : ℕ) → length upper ≤ c → lowered (drop c upper) (drop c weights) f ≡ []
unfolding lowered
none-left [] weights f zero all = refl
none-left [] weights f (suc c) all = refl
none-left (u ∷ upper) weights f zero all = absurd (omega arith)
none-left (u ∷ upper) [] f (suc c) all = gone (drop c upper)
  where
    gone : (us : List ℕ) → lowered us [] f ≡ []
    gone [] = refl
    gone (u ∷ us) = refl
none-left (u ∷ upper) (w ∷ weights) f (suc c) all = none-left upper weights f c (omega arith)

-- If entries up to c make the lowered vector together with the lowered rest, and c is past the end,
-- they are the whole lowered vector.
pub lowered-all : (upper weights : List ℕ) (f c : ℕ) (low : List ℕ) → length upper ≤ c → low ++ lowered (drop c upper) (drop c weights) f ≡ lowered upper weights f → low ≡ lowered upper weights f
lowered-all upper weights f c low all so_far = sym (append-nil low) ∙ ap (λ (vs : List ℕ). low ++ vs) (sym (none-left upper weights f c all)) ∙ so_far
