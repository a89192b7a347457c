-- The values of a range of numbers of parts, from the sums that run over their terms.
use Rattle.std.proofs.Common.{◌≡◌, ℕ, zero, suc, ◌+◌, ◌-◌, ◌*◌, ◌/◌, ◌^◌, ◌<◌, ◌≤◌, min, max, ◌⊎◌, inl, inr, Bool, true, false, drop, sum, Option, Some, None, cond, refl, sym, ◌∙◌, ap, subst, arith, ⊎_elim, pow_pos, add-zero}
use Rattle.std.specs.Prelude.{nat_le, nat_lt, option_map, option_and_then, IfSome}
use Rattle.std.specs.List.{list_all}
use Rattle.std.proofs.Math.Nat.{mul-le-mul_left, mul-le-mul_right, mul-pos, div-le_of_le-mul, le_refl, le_trans}
use Rattle.std.proofs.lemmas.Nat.{le-div, div_below, mul-le}
use Rattle.std.proofs.lemmas.Bool.{cases_lt, lt-leb, le-leb, lt-ltb, le-ltb}
use Rattle.fixed_enclosure.specs.Rounded.{greatest, saturated, fits, if_fits, Side, quotient_up, mul_down, mul_up, seq_down, seq_up}
use Rattle.fixed_enclosure.proofs.Quotients.{quotient_up-least, if_fits-past}
use Rattle.series_bounds.specs.Series.{Kind, carried_on, carried, term, terms, terms_from, sum_up, sum_capped, part_down, range_up, part_up, end_from, log_end, cyc_end, log_rest, cyc_up_to, from_down, from_up}
use Rattle.series_bounds.specs.Running.{run_down, up_to, kept, summed_up, summed_down, carried_up, value_down, value_up, end_up, last_up}
use Rattle.series_bounds.specs.ExactSums.{first_term, IsAboveAll}
use Rattle.series_bounds.proofs.Rules.{from_up-above}
use Rattle.series_bounds.proofs.Running.{down-all, down-zeros, up-all}
use Rattle.series_bounds.proofs.Steps.{zero_terms, one_bits}

-- The running sum, as the rules write it.
pub summed-is : (kind : Kind) (f a most low i : ℕ) → summed_up kind f a most low i ≡ cond (list_all fits (terms Side.Up kind f a (suc i))) (up_to most (sum (drop low (terms Side.Up kind f a (suc i))))) None
unfolding summed_up
summed-is kind f a most low i = up-all low most low 0 (terms Side.Up kind f a (suc i)) (omega arith)

not_below : (i low : ℕ) (o : Option ℕ) → low ≤ i → cond (nat_lt i low) (Some 0) o ≡ o
not_below i low o h = ap (λ b. cond b (Some 0) o) (le-ltb i low h)

no_rest : (b : Bool) (n : ℕ) → cond b (if_fits (n + 0)) None ≡ cond b (up_to greatest n) None
no_rest b n = ap (λ m. cond b (if_fits m) None) (add-zero n)

-- Without a cap the bound is the greatest number.
pub range-is : (kind : Kind) (f a low i : ℕ) → low ≤ i → summed_up kind f a greatest low i ≡ range_up kind f a low i
range-is kind f a low i h =
    summed-is kind f a greatest low i
    ∙ sym (no_rest (list_all fits (terms Side.Up kind f a (suc i))) (sum (drop low (terms Side.Up kind f a (suc i)))))
    ∙ sym (not_below i low (sum_up low (terms Side.Up kind f a (suc i)) 0) h)

pub below-is : (kind : Kind) (f a low i : ℕ) → i < low → Some 0 ≡ range_up kind f a low i
below-is kind f a low i h = sym (ap (λ b. cond b (Some 0) (sum_up low (terms Side.Up kind f a (suc i)) 0)) (lt-ltb i low h))

capped_some : (b : Bool) (n most v : ℕ) → cond b (up_to most n) None ≡ Some v → v ≡ cond b (min n most) most
capped_some false n most v e = absurd (cc)
capped_some true n most v e = ⊎_elim
    (λ past. absurd (nothing (sym (ap (λ b. cond b (Some n) None) (lt-leb n most past)) ∙ e)))
    (λ within. let same : Some n ≡ Some v = sym (ap (λ b. cond b (Some n) None) (le-leb n most within)) ∙ e in let k : n ≡ v = cc in omega arith)
    (cases_lt most n)
  where
    nothing : None ≡ Some v → ⊥
    nothing e = absurd (cc)

capped_none : (b : Bool) (n most : ℕ) → cond b (up_to most n) None ≡ None → most ≡ cond b (min n most) most
capped_none false n most e = refl
capped_none true n most e = ⊎_elim
    (λ past. omega arith)
    (λ within. absurd (nothing (sym (ap (λ b. cond b (Some n) None) (le-leb n most within)) ∙ e)))
    (cases_lt most n)
  where
    nothing : Some n ≡ None → ⊥
    nothing e = absurd (cc)

not_below_capped : (i low v : ℕ) → low ≤ i → cond (nat_lt i low) 0 v ≡ v
not_below_capped i low v h = ap (λ b. cond b 0 v) (le-ltb i low h)

-- With a cap the sum is the value where it is there, and the cap where it isn't.
pub part-some : (kind : Kind) (f a low i most v : ℕ) → low ≤ i → summed_up kind f a most low i ≡ Some v → v ≡ part_up kind f a low i most
part-some kind f a low i most v h e =
    capped_some (list_all fits (terms Side.Up kind f a (suc i))) (sum (drop low (terms Side.Up kind f a (suc i)))) most v (sym (summed-is kind f a most low i) ∙ e)
    ∙ sym (not_below_capped i low (sum_capped low (terms Side.Up kind f a (suc i)) most) h)

-- Where the upper sum from low to i has no value up to the cap, and low is at most i, the upper
-- value with that cap is the cap.
pub part-none : (kind : Kind) (f a low i most : ℕ) → low ≤ i → summed_up kind f a most low i ≡ None → most ≡ part_up kind f a low i most
part-none kind f a low i most h e =
    capped_none (list_all fits (terms Side.Up kind f a (suc i))) (sum (drop low (terms Side.Up kind f a (suc i)))) most (sym (summed-is kind f a most low i) ∙ e)
    ∙ sym (not_below_capped i low (sum_capped low (terms Side.Up kind f a (suc i)) most) h)

pub part-below : (kind : Kind) (f a low i most : ℕ) → i < low → 0 ≡ part_up kind f a low i most
part-below kind f a low i most h = sym (ap (λ b. cond b 0 (sum_capped low (terms Side.Up kind f a (suc i)) most)) (lt-ltb i low h))

rest_none : (b : Bool) (n rest : ℕ) → cond b (up_to greatest n) None ≡ None → None ≡ cond b (if_fits (n + rest)) None
rest_none false n rest e = refl
rest_none true n rest e = ⊎_elim
    (λ past. sym (if_fits-past (n + rest) (omega arith)))
    (λ within. absurd (nothing (sym (ap (λ b. cond b (Some n) None) (le-leb n greatest within)) ∙ e)))
    (cases_lt greatest n)
  where
    nothing : Some n ≡ None → ⊥
    nothing e = absurd (cc)

rest_some : (b : Bool) (n rest v : ℕ) → cond b (up_to greatest n) None ≡ Some v → if_fits (v + rest) ≡ cond b (if_fits (n + rest)) None
rest_some false n rest v e = absurd (cc)
rest_some true n rest v e = ⊎_elim
    (λ past. absurd (nothing (sym (ap (λ b. cond b (Some n) None) (lt-leb n greatest past)) ∙ e)))
    (λ within. let same : Some n ≡ Some v = sym (ap (λ b. cond b (Some n) None) (le-leb n greatest within)) ∙ e in let k : v ≡ n = cc in ap (λ m. if_fits (m + rest)) k)
    (cases_lt greatest n)
  where
    nothing : None ≡ Some v → ⊥
    nothing e = absurd (cc)

-- A sum with a rest, from the sum without it.
pub sum-none : (kind : Kind) (f a low i rest : ℕ) → summed_up kind f a greatest low i ≡ None → None ≡ sum_up low (terms Side.Up kind f a (suc i)) rest
sum-none kind f a low i rest e = rest_none (list_all fits (terms Side.Up kind f a (suc i))) (sum (drop low (terms Side.Up kind f a (suc i)))) rest (sym (summed-is kind f a greatest low i) ∙ e)

pub sum-some : (kind : Kind) (f a low i rest v : ℕ) → summed_up kind f a greatest low i ≡ Some v → if_fits (v + rest) ≡ sum_up low (terms Side.Up kind f a (suc i)) rest
sum-some kind f a low i rest v e = rest_some (list_all fits (terms Side.Up kind f a (suc i))) (sum (drop low (terms Side.Up kind f a (suc i)))) rest v (sym (summed-is kind f a greatest low i) ∙ e)

-- Powers of an argument up to 1 don't grow.
pub falls-down : (c a d : ℕ) → 0 < d → a ≤ d → c * a / (1 * d) ≤ c
falls-down c a d p h = div-le_of_le-mul (1 * d) (let m : c * a ≤ c * d = mul-le-mul_left c h in omega (arith, m))

-- Where a is at most d and d is positive, c * a / d rounded up is at most c.
pub falls-up : (c a d : ℕ) → 0 < d → a ≤ d → quotient_up (c * a) (1 * d) ≤ c
falls-up c a d p h = quotient_up-least (c * a) (1 * d) c (omega arith) (let m : c * a ≤ c * d = mul-le-mul_left c h in omega (arith, m))

pub power-below : (f a j : ℕ) → a ≤ 2 ^ f → carried Side.Up Kind.Cyc f a j ≤ 2 ^ f
power-below f a zero h = le_refl (2 ^ f)
power-below f a (suc j) h = le_trans (falls-up (carried Side.Up Kind.Cyc f a j) a (2 ^ f) (pow_pos f) h) (power-below f a j h)

-- The sequence from a low above 0.
pub seq_from_down-is : (f a low : ℕ) → 1 ≤ low → from_down Kind.Seq f a low ≡ mul_down f (carried Side.Down Kind.Seq f a low) (seq_down f a)
seq_from_down-is f a zero h = absurd (omega arith)
seq_from_down-is f a (suc low) h = refl

pub seq_from_up-is : (f a low : ℕ) → 1 ≤ low → from_up Kind.Seq f a low ≡ option_and_then (mul_up f (carried Side.Up Kind.Seq f a low)) (seq_up f a)
seq_from_up-is f a zero h = absurd (omega arith)
seq_from_up-is f a (suc low) h = refl

-- From 1 on it is the greatest number, and has no upper value.
powers_stay : (f a j : ℕ) → 2 ^ f ≤ a → 2 ^ f ≤ carried Side.Down Kind.Seq f a j
powers_stay f a zero h = le_refl (2 ^ f)
powers_stay f a (suc j) h =
    let c = carried Side.Down Kind.Seq f a j in
    le-div (2 ^ f) (c * a) (1 * 2 ^ f) (mul-pos (omega arith) (pow_pos f)) (let m : 2 ^ f * 2 ^ f ≤ c * a = mul-le-mul-both (powers_stay f a j h) h in omega (arith, m))
  where
    mul-le-mul-both : {p q r s : ℕ} → p ≤ q → r ≤ s → p * r ≤ q * s
    mul-le-mul-both {p} {q} {r} {s} h k = le_trans (mul-le-mul_right r h) (mul-le-mul_left q k)

seq_down-full : (f a : ℕ) → 2 ^ f ≤ a → seq_down f a ≡ greatest
seq_down-full f zero h = let p : 0 < 2 ^ f = pow_pos f in absurd (omega arith)
seq_down-full f (suc a) h = ap (λ b. cond b (saturated (2 ^ (2 * f) / (2 ^ f - suc a) - 1)) greatest) (le-ltb (suc a) (2 ^ f) h)

-- Where the argument is at least 1 and low is at least 1, the lower sequence from low on is the
-- greatest number.
pub seq_from_down-full : (f a low : ℕ) → 1 ≤ low → 2 ^ f ≤ a → greatest ≡ value_down Kind.Seq f a low
unfolding value_down
seq_from_down-full f a low h k =
    sym (seq_from_down-is f a low h ∙ ap (λ s. saturated (carried Side.Down Kind.Seq f a low * s / 2 ^ f)) (seq_down-full f a k) ∙ all (carried Side.Down Kind.Seq f a low) (powers_stay f a low k))
  where
    all : (c : ℕ) → 2 ^ f ≤ c → saturated (c * greatest / 2 ^ f) ≡ greatest
    all c l = let q : greatest ≤ c * greatest / 2 ^ f = le-div greatest (c * greatest) (2 ^ f) (pow_pos f) (let m : 2 ^ f * greatest ≤ c * greatest = mul-le-mul_right greatest l in omega (arith, m)) in omega arith

-- Where the argument is at least 1 and low is at least 1, the upper sequence from low on has no
-- value.
pub seq_from_up-none : (f a low : ℕ) → 1 ≤ low → 2 ^ f ≤ a → None ≡ value_up Kind.Seq f a low
unfolding value_up
seq_from_up-none f a low h k = sym (seq_from_up-is f a low h ∙ ap (λ o. option_and_then (mul_up f (carried Side.Up Kind.Seq f a low)) o) (ap (λ b. cond b (if_fits (quotient_up (2 ^ (2 * f)) (2 ^ f - a))) None) (le-ltb a (2 ^ f) k)))

pub carried_up-is : (kind : Kind) (f a i : ℕ) → carried_up kind f a i ≡ carried Side.Up kind f a i
unfolding carried_up
carried_up-is kind f a i = refl

-- The exponential from low on.
pub set-past : (f a low : ℕ) → 16 * 2 ^ f < a → None ≡ value_up Kind.Set f a low
unfolding value_up
set-past f a low h = sym (go (sum_up low (terms Side.Up Kind.Set f a 128) (2 * carried Side.Up Kind.Set f a 128)))
  where
    go : (o : Option ℕ) → cond (nat_le a (16 * 2 ^ f)) o None ≡ None
    go o = ap (λ b. cond b o None) (lt-leb a (16 * 2 ^ f) h)

set_within : (f a : ℕ) (o : Option ℕ) → a ≤ 16 * 2 ^ f → cond (nat_le a (16 * 2 ^ f)) o None ≡ o
set_within f a o h = ap (λ b. cond b o None) (le-leb a (16 * 2 ^ f) h)

set-none_at : (f a low i : ℕ) → summed_up Kind.Set f a greatest low i ≡ None → None ≡ sum_up low (terms Side.Up Kind.Set f a (suc i)) (2 * carried Side.Up Kind.Set f a (suc i))
set-none_at f a low i e = sum-none Kind.Set f a low i (2 * carried Side.Up Kind.Set f a (suc i)) e

set-some_at : (f a low i c next v : ℕ) → c ≡ carried Side.Up Kind.Set f a i → next ≡ carried_on Side.Up Kind.Set f a i c → summed_up Kind.Set f a greatest low i ≡ Some v → if_fits (v + 2 * next) ≡ sum_up low (terms Side.Up Kind.Set f a (suc i)) (2 * carried Side.Up Kind.Set f a (suc i))
set-some_at f a low i c next v is on e = ap (λ q. if_fits (v + 2 * q)) (on ∙ ap (λ q. carried_on Side.Up Kind.Set f a i q) is) ∙ sum-some Kind.Set f a low i (2 * carried Side.Up Kind.Set f a (suc i)) v e

-- For an argument of at most 16, where the upper sum of the terms from low to 127 has no value, the
-- upper exponential from low on has none.
pub set-none : (f a low : ℕ) → a ≤ 16 * 2 ^ f → summed_up Kind.Set f a greatest low 127 ≡ None → None ≡ value_up Kind.Set f a low
unfolding value_up
set-none f a low h e = set-none_at f a low 127 e ∙ sym (set_within f a (sum_up low (terms Side.Up Kind.Set f a 128) (2 * carried Side.Up Kind.Set f a 128)) h)

-- For an argument of at most 16, the upper exponential from low on is its upper sum v to term 127
-- plus twice the number carried to term 128, if that fits.
pub set-some : (f a low c next v : ℕ) → a ≤ 16 * 2 ^ f → c ≡ carried_up Kind.Set f a 127 → next ≡ carried_on Side.Up Kind.Set f a 127 c → summed_up Kind.Set f a greatest low 127 ≡ Some v → if_fits (v + 2 * next) ≡ value_up Kind.Set f a low
unfolding value_up
set-some f a low c next v h is on e = set-some_at f a low 127 c next v (is ∙ carried_up-is Kind.Set f a 127) on e ∙ sym (set_within f a (sum_up low (terms Side.Up Kind.Set f a 128) (2 * carried Side.Up Kind.Set f a 128)) h)

-- The end of the logarithm's sum is at most j + n.
pub end-within : (side : Side) (f a n j p : ℕ) → end_from side f a n j p ≤ j + n
end-within side f a zero j p = omega arith
end-within side f a (suc n) j p = ⊎_elim
    (λ more. subst (λ e. e ≤ j + suc n) (sym (ap (λ b. cond b j (end_from side f a n (suc j) (carried_on side Kind.Cyc f a j p))) (lt-leb p 1 more))) (le_trans (end-within side f a n (suc j) (carried_on side Kind.Cyc f a j p)) (omega arith)))
    (λ small. subst (λ e. e ≤ j + suc n) (sym (ap (λ b. cond b j (end_from side f a n (suc j) (carried_on side Kind.Cyc f a j p))) (le-leb p 1 small))) (omega arith))
    (cases_lt 1 p)

-- The search for it, place by place.
pub end-next : (f a j p q w : ℕ) → j < 4096 → 1 < p → q ≡ carried_on Side.Up Kind.Cyc f a j p → w ≡ end_up f a (4096 - j) j p → w ≡ end_up f a (4096 - (j + 1)) (j + 1) q
unfolding end_up
end-next f a j p q w h big on run =
    let left : 4096 - j ≡ suc (4095 - j) = omega arith in
    let later : 4095 - j ≡ 4096 - (j + 1) = omega arith in
    let one : suc j ≡ j + 1 = omega arith in
    run ∙ ap (λ n. end_from Side.Up f a n j p) left
    ∙ ap (λ b. cond b j (end_from Side.Up f a (4095 - j) (suc j) (carried_on Side.Up Kind.Cyc f a j p))) (lt-leb p 1 big)
    ∙ ap (λ c. end_from Side.Up f a (4095 - j) (suc j) c) (sym on)
    ∙ ap (λ n. end_from Side.Up f a n (suc j) q) later
    ∙ ap (λ i. end_from Side.Up f a (4096 - (j + 1)) i q) one

end_small : (f a n j p : ℕ) → p ≤ 1 → end_from Side.Up f a n j p ≡ j
end_small f a zero j p h = refl
end_small f a (suc n) j p h = ap (λ b. cond b j (end_from Side.Up f a n (suc j) (carried_on Side.Up Kind.Cyc f a j p))) (le-leb p 1 h)

end_full : (f a n j p : ℕ) → n ≡ 0 → end_from Side.Up f a n j p ≡ j
end_full f a n j p none_left = ap (λ m. end_from Side.Up f a m j p) none_left

-- It ends at a power of at most one unit, or at the greatest number of terms.
pub end-found : (f a j p w : ℕ) → (p ≤ 1) ⊎ (4096 ≤ j) → w ≡ end_up f a (4096 - j) j p → w ≡ j
unfolding end_up
end-found f a j p w (inl small) run = run ∙ end_small f a (4096 - j) j p small
end-found f a j p w (inr full) run = run ∙ end_full f a (4096 - j) j p (omega arith)

-- So the last term is found.
pub last-is : (f a low j n : ℕ) → n ≡ 4095 → end_up f a n 1 a ≡ j → max j (low - 1) ≡ last_up f a low
unfolding end_up last_up
last-is f a low j n most e = ap (λ k. max k (low - 1)) (sym e ∙ ap (λ m. end_from Side.Up f a m 1 a) most)

pub last_up-is : (f a low : ℕ) → last_up f a low ≡ cyc_end Side.Up f a low
unfolding last_up
last_up-is f a low = refl

-- The logarithm from low on.
pub cycle-past : (f a low : ℕ) → 2 ^ f ≤ a → None ≡ value_up Kind.Cyc f a low
unfolding value_up
cycle-past f a low h = sym (ap (λ b. cond b (cyc_up_to f a low (cyc_end Side.Up f a low)) None) (le-ltb a (2 ^ f) h))

cycle_within : (f a low last : ℕ) → a < 2 ^ f → last ≡ cyc_end Side.Up f a low → from_up Kind.Cyc f a low ≡ cyc_up_to f a low last
cycle_within f a low last h e = ap (λ b. cond b (cyc_up_to f a low (cyc_end Side.Up f a low)) None) (lt-ltb a (2 ^ f) h) ∙ ap (λ j. cyc_up_to f a low j) (sym e)

-- For an argument below 1, where the upper sum of a logarithm's terms from low to the last one has
-- no value, the upper logarithm from low on has none.
pub cycle-none : (f a low last : ℕ) → a < 2 ^ f → last ≡ last_up f a low → summed_up Kind.Cyc f a greatest low last ≡ None → None ≡ value_up Kind.Cyc f a low
unfolding value_up
cycle-none f a low last h is e = sum-none Kind.Cyc f a low last (log_rest f a last) e ∙ sym (cycle_within f a low last h (is ∙ last_up-is f a low))

-- For an argument below 1, the upper logarithm from low on is the upper sum v up to the last term
-- plus the bound on the rest, where that has 64 bits.
pub cycle-some : (f a low last c next rest v : ℕ) → a < 2 ^ f → last ≡ last_up f a low → c ≡ carried_up Kind.Cyc f a last → next ≡ carried_on Side.Up Kind.Cyc f a last c → rest ≡ quotient_up (next * 2 ^ f) ((last + 1) * (2 ^ f - a)) → summed_up Kind.Cyc f a greatest low last ≡ Some v → if_fits (v + rest) ≡ value_up Kind.Cyc f a low
unfolding value_up
cycle-some f a low last c next rest v h is here on rest_is e =
    let one : last + 1 ≡ suc last = omega arith in
    let power : next ≡ carried Side.Up Kind.Cyc f a (suc last) = on ∙ ap (λ q. carried_on Side.Up Kind.Cyc f a last q) (here ∙ carried_up-is Kind.Cyc f a last) in
    let whole : rest ≡ log_rest f a last = rest_is ∙ ap (λ q. quotient_up (q * 2 ^ f) ((last + 1) * (2 ^ f - a))) power ∙ ap (λ j. quotient_up (carried Side.Up Kind.Cyc f a (suc last) * 2 ^ f) (j * (2 ^ f - a))) one in
    ap (λ r. if_fits (v + r)) whole ∙ sum-some Kind.Cyc f a low last (log_rest f a last) v e ∙ sym (cycle_within f a low last h (is ∙ last_up-is f a low))

-- An end before the last number has a lower power of at most one unit, after which all are 0.
end_power : (f a n j p : ℕ) → p ≡ carried Side.Down Kind.Cyc f a j → end_from Side.Down f a n j p < j + n → carried Side.Down Kind.Cyc f a (end_from Side.Down f a n j p) ≤ 1
end_power f a zero j p e h = absurd (omega arith)
end_power f a (suc n) j p e h = ⊎_elim
    (λ more. let same : end_from Side.Down f a (suc n) j p ≡ end_from Side.Down f a n (suc j) (carried_on Side.Down Kind.Cyc f a j p) = ap (λ b. cond b j (end_from Side.Down f a n (suc j) (carried_on Side.Down Kind.Cyc f a j p))) (lt-leb p 1 more) in
    subst (λ k. carried Side.Down Kind.Cyc f a k ≤ 1) (sym same) (end_power f a n (suc j) (carried_on Side.Down Kind.Cyc f a j p) (ap (λ c. carried_on Side.Down Kind.Cyc f a j c) e) (omega arith)))
    (λ small. let same : end_from Side.Down f a (suc n) j p ≡ j = ap (λ b. cond b j (end_from Side.Down f a n (suc j) (carried_on Side.Down Kind.Cyc f a j p))) (le-leb p 1 small) in
    subst (λ k. carried Side.Down Kind.Cyc f a k ≤ 1) (sym same) (subst (λ c. c ≤ 1) e small))
    (cases_lt 1 p)

first_power : (f a : ℕ) → a ≡ carried Side.Down Kind.Cyc f a 1
first_power f a = exact (2 ^ f) (pow_pos f)
  where
    exact : (d : ℕ) → 0 < d → a ≡ d * a / (1 * d)
    exact d p =
        let low : a ≤ d * a / (1 * d) = le-div a (d * a) (1 * d) (omega arith) (omega arith) in
        let high : d * a / (1 * d) ≤ a = div-le_of_le-mul (1 * d) (omega arith) in
        omega arith

vanished : (f a j : ℕ) → a < 2 ^ f → carried Side.Down Kind.Cyc f a j ≤ 1 → carried Side.Down Kind.Cyc f a (suc j) ≡ 0
vanished f a j h small =
    let c = carried Side.Down Kind.Cyc f a j in
    let below : c * a / (1 * 2 ^ f) < 1 = div_below (c * a) (1 * 2 ^ f) 1 (mul-pos (omega arith) (pow_pos f)) (let m : c * a ≤ 1 * a = mul-le-mul_right a small in omega (arith, m)) in
    omega arith

-- Two sums that go past a power of 0 are the same.
same_past : (f a low e : ℕ) → carried Side.Down Kind.Cyc f a (suc e) ≡ 0 → (d j s m n : ℕ) → suc e ≡ j + d → s ≤ greatest → d ≤ m → d ≤ n → run_down low j s (terms_from Side.Down Kind.Cyc f a m j (carried Side.Down Kind.Cyc f a j)) ≡ run_down low j s (terms_from Side.Down Kind.Cyc f a n j (carried Side.Down Kind.Cyc f a j))
same_past f a low e z zero j s m n at small p q = zeros m ∙ sym (zeros n)
  where
    here : carried Side.Down Kind.Cyc f a j ≡ 0
    here = let same : j ≡ suc e = omega arith in ap (λ i. carried Side.Down Kind.Cyc f a i) same ∙ z

    zeros : (k : ℕ) → run_down low j s (terms_from Side.Down Kind.Cyc f a k j (carried Side.Down Kind.Cyc f a j)) ≡ s
    zeros k = ap (λ c. run_down low j s (terms_from Side.Down Kind.Cyc f a k j c)) here ∙ ap (λ ts. run_down low j s ts) (zero_terms Kind.Cyc f a k j) ∙ down-zeros low j s k small
same_past f a low e z (suc d) j s zero n at small p q = absurd (omega arith)
same_past f a low e z (suc d) j s (suc m) zero at small p q = absurd (omega arith)
same_past f a low e z (suc d) j s (suc m) (suc n) at small p q =
    ap (λ r. cond (fits (first j)) r (cond (nat_lt j low) 0 greatest)) (same_past f a low e z d (suc j) (saturated (s + kept low j (first j))) m n (omega arith) (within (s + kept low j (first j))) (omega arith) (omega arith))
  where
    within : (k : ℕ) → saturated k ≤ greatest
    within k = omega arith

    first : ℕ → ℕ
    first i = term Side.Down Kind.Cyc i (carried Side.Down Kind.Cyc f a i)

-- The lower sum, as the rules write it.
pub summed_down-is : (kind : Kind) (f a low i : ℕ) → summed_down kind f a low i ≡ part_down kind f a low i
unfolding summed_down
summed_down-is kind f a low i = refl

runs_down : (f a low n : ℕ) → part_down Kind.Cyc f a low n ≡ run_down low 0 0 (terms_from Side.Down Kind.Cyc f a (suc n) 0 (carried Side.Down Kind.Cyc f a 0))
runs_down f a low n = sym (down-all low low 0 (terms_from Side.Down Kind.Cyc f a (suc n) 0 (2 ^ f)) (omega arith))

-- The lower logarithm may be summed to the greatest number of terms.
cycle_to : (f a low most : ℕ) → a < 2 ^ f → log_end Side.Down f a ≤ most → low ≤ suc most → (log_end Side.Down f a < most → carried Side.Down Kind.Cyc f a (log_end Side.Down f a) ≤ 1) → part_down Kind.Cyc f a low most ≡ part_down Kind.Cyc f a low (cyc_end Side.Down f a low)
cycle_to f a low most h end few small = go (log_end Side.Down f a) refl end small
  where
    go : (e : ℕ) → e ≡ log_end Side.Down f a → e ≤ most → (e < most → carried Side.Down Kind.Cyc f a e ≤ 1) → part_down Kind.Cyc f a low most ≡ part_down Kind.Cyc f a low (max (log_end Side.Down f a) (low - 1))
    go e is within fallen = ⊎_elim
        (λ early. runs_down f a low most
        ∙ same_past f a low e (vanished f a e h (fallen early)) (suc e) 0 0 (suc most) (suc (max e (low - 1))) (omega arith) (omega arith) (omega arith) (omega arith)
        ∙ sym (runs_down f a low (max e (low - 1)))
        ∙ ap (λ k. part_down Kind.Cyc f a low (max k (low - 1))) is)
        (λ full. let last : most ≡ max e (low - 1) = omega arith in ap (λ k. part_down Kind.Cyc f a low k) last ∙ ap (λ k. part_down Kind.Cyc f a low (max k (low - 1))) is)
        (cases_lt e most)

-- For an argument below 1 and a low of at most 64, the lower logarithm from low on is the lower sum
-- of its terms from low to 4096.
pub cycle_down-is : (f a low most : ℕ) → most ≡ 4096 → a < 2 ^ f → low ≤ 64 → summed_down Kind.Cyc f a low most ≡ value_down Kind.Cyc f a low
unfolding value_down
cycle_down-is f a low most is h few =
    summed_down-is Kind.Cyc f a low most
    ∙ cycle_to f a low most h (let w = end-within Side.Down f a 4095 1 a in omega arith) (omega arith) (λ early. end_power f a 4095 1 a (first_power f a) (omega arith))
    ∙ sym (ap (λ b. cond b (part_down Kind.Cyc f a low (cyc_end Side.Down f a low)) greatest) (lt-ltb a (2 ^ f) h))

-- From an argument of 1 on, the lower logarithm is the greatest number.
pub cycle_down-past : (f a low : ℕ) → 2 ^ f ≤ a → greatest ≡ value_down Kind.Cyc f a low
unfolding value_down
cycle_down-past f a low h = sym (ap (λ b. cond b (part_down Kind.Cyc f a low (cyc_end Side.Down f a low)) greatest) (le-ltb a (2 ^ f) h))

-- The lower exponential is its first 128 terms.
pub set_down-is : (f a low most : ℕ) → most ≡ 127 → summed_down Kind.Set f a low most ≡ value_down Kind.Set f a low
unfolding value_down
set_down-is f a low most is = summed_down-is Kind.Set f a low most ∙ ap (λ i. part_down Kind.Set f a low i) is

-- The lower value from low on, as the code names it, is the one that the series' definition gives.
pub value_down-is : (kind : Kind) (f a low : ℕ) → value_down kind f a low ≡ from_down kind f a low
unfolding value_down
value_down-is kind f a low = refl

-- The upper value from low on, as the code names it, is the one that the series' definition gives.
pub value_up-is : (kind : Kind) (f a low : ℕ) → value_up kind f a low ≡ from_up kind f a low
unfolding value_up
value_up-is kind f a low = refl

-- The sequence, by its low.
pub seq_down-zero : (f a low : ℕ) → low ≡ 0 → seq_down f a ≡ value_down Kind.Seq f a low
unfolding value_down
seq_down-zero f a low e = ap (λ k. from_down Kind.Seq f a k) (sym e)

-- From a low of 0 on, the upper sequence is the upper value of 1 / (1 - a).
pub seq_up-zero : (f a low : ℕ) → low ≡ 0 → seq_up f a ≡ value_up Kind.Seq f a low
unfolding value_up
seq_up-zero f a low e = ap (λ k. from_up Kind.Seq f a k) (sym e)

-- From a low of 1 or more on, the lower sequence is the lower product of the power low of a,
-- rounded down, and the lower value of 1 / (1 - a).
pub seq_down-later : (f a low p s : ℕ) → 1 ≤ low → p ≡ carried Side.Down Kind.Seq f a low → s ≡ seq_down f a → mul_down f p s ≡ value_down Kind.Seq f a low
unfolding value_down
seq_down-later f a low p s h p_is s_is = ap (λ q. mul_down f q s) p_is ∙ ap (λ q. mul_down f (carried Side.Down Kind.Seq f a low) q) s_is ∙ sym (seq_from_down-is f a low h)

-- From a low of 1 or more on, the upper sequence is the upper product of the power low of a,
-- rounded up, and the upper value of 1 / (1 - a), where that is there.
pub seq_up-later : (f a low p : ℕ) → 1 ≤ low → p ≡ carried Side.Up Kind.Seq f a low → option_and_then (mul_up f p) (seq_up f a) ≡ value_up Kind.Seq f a low
unfolding value_up
seq_up-later f a low p h p_is = ap (λ q. option_and_then (mul_up f q) (seq_up f a)) p_is ∙ sym (seq_from_up-is f a low h)

-- The next power.
pub power-next : (side : Side) (f a j p q : ℕ) → p ≡ carried side Kind.Seq f a j → q ≡ carried_on side Kind.Seq f a j p → q ≡ carried side Kind.Seq f a (j + 1)
power-next side f a j p q is on = let one : suc j ≡ j + 1 = omega arith in on ∙ ap (λ r. carried_on side Kind.Seq f a j r) is ∙ ap (λ i. carried side Kind.Seq f a i) one

-- The power after the last is at most 1.
pub next-below : (f a last c next : ℕ) → a ≤ 2 ^ f → c ≡ carried_up Kind.Cyc f a last → next ≡ carried_on Side.Up Kind.Cyc f a last c → next ≤ 2 ^ f
next-below f a last c next h is on =
    let power : next ≡ carried Side.Up Kind.Cyc f a (suc last) = on ∙ ap (λ q. carried_on Side.Up Kind.Cyc f a last q) (is ∙ carried_up-is Kind.Cyc f a last) in
    subst (λ n. n ≤ 2 ^ f) (sym power) (power-below f a (suc last) h)

-- A quotient rounded up is at most the number.
pub quotient_up-within : (n d : ℕ) → 0 < d → quotient_up n d ≤ n
quotient_up-within n d p = quotient_up-least n d n p (let m : n * 1 ≤ n * d = mul-le-mul_left n p in omega (arith, m))

-- An upper value from low on, where it is there, is above each finite sum.
pub above-value : {X : Type 0} (number : X → ℕ) (kind : Kind) (f a low : ℕ) → first_term kind ≤ low → (o : Option X) → option_map number o ≡ from_up kind f a low → IfSome o (λ x. IsAboveAll kind f a low (number x))
above-value number kind f a low h None e = tt
above-value number kind f a low h (Some x) e = record { above = from_up-above kind f a low (number x) h (sym e) }

-- The numbers of its rest fit.
pub rest-product : (f a last c next : ℕ) → f ≤ 56 → a < 2 ^ f → c ≡ carried_up Kind.Cyc f a last → next ≡ carried_on Side.Up Kind.Cyc f a last c → next * 2 ^ f ≤ 2 ^ 112
rest-product f a last c next few h is on =
    let unit : 2 ^ f ≤ 2 ^ 56 = one_bits f few in
    let below : next ≤ 2 ^ f = next-below f a last c next (omega arith) is on in
    let product : next * 2 ^ f ≤ 2 ^ 56 * 2 ^ 56 = mul-le next (2 ^ f) (2 ^ 56) (2 ^ 56) (omega arith) unit in
    omega (arith, product)

-- With at most 56 fraction bits and a last term of at most 4096, the divisor (last + 1) * (2^f - a)
-- of the rest is at most 2^112.
pub rest-divisor : (f a last : ℕ) → f ≤ 56 → last ≤ 4096 → (last + 1) * (2 ^ f - a) ≤ 2 ^ 112
rest-divisor f a last few within =
    let unit : 2 ^ f ≤ 2 ^ 56 = one_bits f few in
    let product : (last + 1) * (2 ^ f - a) ≤ 4097 * 2 ^ 56 = mul-le (last + 1) (2 ^ f - a) 4097 (2 ^ 56) (omega arith) (omega arith) in
    omega (arith, product)
