-- What the search among the candidates costs.
use Rattle.std.proofs.Common.{◌≡◌, ℕ, zero, suc, ◌+◌, ◌-◌, ◌*◌, ◌/◌, ◌^◌, ◌<◌, ◌≤◌, cond, List, length, replicate, Option, Some, None, refl, sym, ap, subst, ◌∙◌, arith, add-one, ⊎_elim}
use Rattle.std.specs.Prelude.{option_map, unwrap_or, is_some}
use Rattle.std.proofs.Math.Nat.{pow-suc, mul-le-mul_left}
use Rattle.std.proofs.lemmas.Bool.{cases_lt}
use Rattle.rounded_map.specs.RoundedMap.{Setting, repeated, sweep_down}
use Rattle.rounded_map.proofs.Bounding.{length-lower_sweeps}
use Rattle.newton_upper.specs.Below.{or_else, first_below}
use Rattle.newton_upper.specs.Candidates.{swept_down, candidate_count, sweeps_after, round_base, candidate_base}
use Rattle.newton_upper.specs.BaseRule.{last_round, round_ticks, newton_ticks, most_ticks}

-- Powers of 4 rise.
four-rises : (i j : ℕ) → i ≤ j → 4 ^ i ≤ 4 ^ j
four-rises i zero below = let same : i ≡ 0 = omega arith in let e : 4 ^ i ≡ 4 ^ 0 = ap (λ k. 4 ^ k) same in omega arith
four-rises i (suc j) below = ⊎_elim
    (λ less. let here : 4 ^ i ≤ 4 ^ j = four-rises i j (omega arith) in omega (arith, pow-suc 4 j))
    (λ least. let same : i ≡ suc j = omega arith in let e : 4 ^ i ≡ 4 ^ suc j = ap (λ k. 4 ^ k) same in omega arith)
    (cases_lt i (suc j))

-- The factors of a round have 49 bits.
pub factor-within : (f j : ℕ) → f ≤ 56 → j < (f - 8) / 2 + 1 → 4 ^ j ≤ 281474976710656
factor-within f j few below = four-rises j 24 (omega arith)

-- If a factor is 4 to the power j, then four times it is 4 to the power j + 1.
pub factor-more : (j factor : ℕ) → factor ≡ 4 ^ j → factor * 4 ≡ 4 ^ (j + 1)
factor-more j factor is = let e : 4 ^ (j + 1) ≡ 4 ^ suc j = ap (λ k. 4 ^ k) (add-one j) in omega (arith, pow-suc 4 j)

-- The sweeps of a round are more than twice those before.
sweeps-double-suc : (r : ℕ) → 2 * sweeps_after r + 1 ≤ sweeps_after (suc r)
sweeps-double-suc zero = omega arith
sweeps-double-suc (suc r) = let some : 4 ^ 0 ≤ 4 ^ suc r = four-rises 0 (suc r) (omega arith) in omega (arith, pow-suc 4 (suc r))

pub sweeps-double : (r : ℕ) → 2 * sweeps_after r + 1 ≤ sweeps_after (r + 1)
sweeps-double r = let e : sweeps_after (r + 1) ≡ sweeps_after (suc r) = ap sweeps_after (add-one r) in omega (arith, sweeps-double-suc r)

-- Lower sweeps that go on.
repeated-on : {V : Type 0} (f : V → V) (k n m : ℕ) (v : V) → m ≡ n + k → repeated f k (repeated f n v) ≡ repeated f m v
repeated-on f zero n m v same = let here : n ≡ m = omega arith in ap (λ (i : ℕ). repeated f i v) here
repeated-on f (suc k) n zero v same = absurd (omega arith)
repeated-on f (suc k) n (suc m) v same = ap f (repeated-on f k n m v (omega arith))

-- Going on from the lower sweeps of r rounds by the sweeps still missing gives the vector after the
-- sweeps of r + 1 rounds.
pub swept-on : (t : Setting) (r further sweeps before : ℕ) (start new : List ℕ) → start ≡ swept_down t (sweeps_after r) → new ≡ repeated (sweep_down t) further start → sweeps ≡ sweeps_after (r + 1) → before ≡ sweeps_after r → further ≡ sweeps - before → new ≡ swept_down t (sweeps_after (r + 1))
unfolding swept_down
swept-on t r further sweeps before start new start_is swept more less is =
    swept ∙ ap (repeated (sweep_down t) further) start_is ∙ repeated-on (sweep_down t) further (sweeps_after r) (sweeps_after (r + 1)) (replicate (length t.spec.bodies) 0) (omega (arith, sweeps-double r))

-- The vector after any number of lower sweeps from zero has one entry for each class.
pub length-swept : (t : Setting) (n : ℕ) → length (swept_down t n) ≡ length t.spec.bodies
unfolding swept_down
length-swept t n = length-lower_sweeps t n

-- What a round more costs.
pub round-spent : (c r start before middle after : ℕ) → before ≤ start + (3 * sweeps_after r + c * r) → middle ≡ before + (sweeps_after (r + 1) - sweeps_after r) → after ≤ middle + (sweeps_after (r + 1) + 1 + c) → after ≤ start + (3 * sweeps_after (r + 1) + c * (r + 1))
round-spent c r start before middle after spent swept tried = omega (arith, sweeps-double r)

-- The last round is after those in which no candidate is post-fixed.
module _ (t : Setting) where
  abbrev numbered : ℕ → Option ℕ
  numbered r = option_map (λ v. suc r) (round_base t r)

  -- Where no value comes first, neither of two is there.
  neither : {V : Type 0} (o later : Option V) → or_else o later ≡ None → (o ≡ None) × (later ≡ None)
  neither None later none = (refl, none)
  neither (Some v) later none = cc

  numbered-none : (n : ℕ) → first_below (round_base t) n ≡ None → first_below numbered n ≡ None
  numbered-none zero none = refl
  numbered-none (suc n) none =
      let both = neither (first_below (round_base t) n) (round_base t n) none in
      ap (λ (o : Option ℕ). or_else o (numbered n)) (numbered-none n both.0) ∙ ap (option_map (λ v. suc n)) both.1

  one-later : (r m : ℕ) (o : Option ℕ) (q : Option (List ℕ)) → suc r ≤ unwrap_or o 6 → r ≤ m → suc r ≤ 6 → suc r ≤ unwrap_or (or_else o (option_map (λ v. suc m) q)) 6
  one-later r m None None found later few = few
  one-later r m None (Some v) found later few = omega arith
  one-later r m (Some k) q found later few = found

  least : (r m : ℕ) → r ≤ m → suc r ≤ 6 → first_below numbered r ≡ None → suc r ≤ unwrap_or (first_below numbered m) 6
  least r zero later few none = few
  least r (suc m) later few none = ⊎_elim
      (λ below. let same : suc m ≡ r = omega arith in subst (λ (o : Option ℕ). suc r ≤ unwrap_or o 6) (sym (ap (first_below numbered) same ∙ none)) few)
      (λ within. one-later r m (first_below numbered m) (round_base t m) (least r m within few none) within few)
      (cases_lt m r)

  pub last_round-least : (r : ℕ) → first_below (round_base t) r ≡ None → r < 6 → suc r ≤ last_round t
  unfolding last_round
  last_round-least r none few = least r 6 (omega arith) few (numbered-none r none)

  pub last_round-none : (r : ℕ) → r ≡ 6 → first_below (round_base t) r ≡ None → 6 ≤ last_round t
  last_round-none r all none =
      let both = neither (first_below (round_base t) 5) (round_base t 5) (ap (first_below (round_base t)) (sym all) ∙ none) in
      last_round-least 5 both.0 (omega arith)

  ticks-rise : (f i j : ℕ) → i ≤ j → round_ticks f i ≤ round_ticks f j
  ticks-rise f i j below = omega (arith, four-rises i j below, mul-le-mul_left (candidate_count f) below)

  pub spent-within : (f r start after : ℕ) → after ≤ start + (3 * sweeps_after (r + 1) + candidate_count f * (r + 1)) → suc r ≤ last_round t → after ≤ start + round_ticks f (last_round t)
  spent-within f r start after spent later =
      let rise : round_ticks f (suc r) ≤ round_ticks f (last_round t) = ticks-rise f (suc r) (last_round t) later in
      let e : sweeps_after (r + 1) ≡ 4 ^ suc r = ap sweeps_after (add-one r) in
      omega arith

  pub spent-all : (f r start after : ℕ) → r ≡ 6 → after ≤ start + (3 * sweeps_after r + candidate_count f * r) → 6 ≤ last_round t → after ≤ start + round_ticks f (last_round t)
  spent-all f r start after all spent later =
      let rise : round_ticks f 6 ≤ round_ticks f (last_round t) = ticks-rise f 6 (last_round t) later in
      let sweeps : sweeps_after r ≡ 4 ^ 6 = ap sweeps_after all in
      let tries : candidate_count f * r ≡ candidate_count f * 6 = ap (λ k. candidate_count f * k) all in
      omega arith

  pub within-most : (start after : ℕ) → after ≤ start + round_ticks t.bits (last_round t) → after ≤ start + most_ticks t
  unfolding most_ticks
  within-most start after spent = omega arith

  pub most-none : (start middle after : ℕ) → candidate_base t ≡ None → middle ≤ start + round_ticks t.bits (last_round t) → after ≤ middle + 16 * (length t.spec.bodies + 3) → after ≤ start + most_ticks t
  unfolding most_ticks
  most-none start middle after none spent more =
      let e : newton_ticks t ≡ 16 * (length t.spec.bodies + 3) = ap (λ o. cond (is_some o) 0 (16 * (length t.spec.bodies + 3))) none in
      omega arith
