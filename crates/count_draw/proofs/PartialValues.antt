-- Values grow with the option, so an option that reaches a value is followed by options that do; what a search between two options finds; and which values a cell's tests ask for.
use Rattle.std.proofs.Common.{◌≡◌, ℕ, zero, suc, ◌+◌, ◌-◌, ◌*◌, ◌/◌, ◌^◌, ◌<◌, ◌≤◌, Bool, true, false, Some, None, cond, refl, sym, ◌∙◌, ap, arith, ⊎_elim, subst, pow_pos}
use Rattle.std.specs.Prelude.{nat_le}
use Rattle.std.proofs.Math.Nat.{le_refl, mul-le-mul_right, div-mul-le_self}
use Rattle.std.proofs.lemmas.Nat.{le-div}
use Rattle.std.proofs.lemmas.Bool.{cases_Bool, leb-true, leb-false, le-leb}
use Rattle.fixed_enclosure.specs.Rounded.{quotient_up}
use Rattle.fixed_enclosure.proofs.Quotients.{quotient_up-above, quotient_up-least}
use Rattle.bz_model.specs.declared.cell.Cell.{Cell}
use Rattle.series_bounds.specs.Series.{Kind, part_down}
use Rattle.series_bounds.proofs.PartsGrow.{part_down-grows}
use Rattle.choice_draw.proofs.LeastPassing.{least_passing-is, least_passing-is_none}
use Rattle.choice_draw.specs.Decision.{least_passing}
use Rattle.count_draw.specs.Table.{Filling, lower_at, upper_at, passes_at, passed_at, least_at, end_value, begin_value, reaches_at, least_reaching, IsBracket}
use Rattle.count_draw.proofs.NextValues.{part_up-later}

grows_by : (kind : Kind) (f a low i d : ℕ) → part_down kind f a low i ≤ part_down kind f a low (i + d)
grows_by kind f a low i zero = let same : i ≡ i + 0 = omega arith in subst (λ j. part_down kind f a low i ≤ part_down kind f a low j) same (le_refl (part_down kind f a low i))
grows_by kind f a low i (suc d) =
    let less = grows_by kind f a low i d in
    let next = part_down-grows kind f a low (i + d) in
    let same : suc (i + d) ≡ i + suc d = omega arith in
    subst (λ j. part_down kind f a low i ≤ part_down kind f a low j) same (omega arith)

-- the lower value up to a later option is at least as great
pub part_down-later : (kind : Kind) (f a low i j : ℕ) → i ≤ j → part_down kind f a low i ≤ part_down kind f a low j
part_down-later kind f a low i j h = let same : i + (j - i) ≡ j = omega arith in subst (λ k. part_down kind f a low i ≤ part_down kind f a low k) same (grows_by kind f a low i (j - i))

module _ (f : ℕ) (t : Filling) (v : ℕ) where
  -- an option after one that reaches v, reaches it
  pub reaches-later : (i j : ℕ) → i ≤ j → reaches_at f t v i ≡ true → reaches_at f t v j ≡ true
  reaches-later i j h reaching = le-leb _ _ (let least = leb-true _ _ reaching in let more = part_down-later t.kind f t.part.lo t.low i j h in omega arith)

  -- an option before one that doesn't, doesn't
  pub fails-earlier : (i j : ℕ) → i ≤ j → reaches_at f t v j ≡ false → reaches_at f t v i ≡ false
  fails-earlier i j h failing = ⊎_elim (λ yes. let later = reaches-later i j h yes in absurd (cc)) (λ no. no) (cases_Bool (reaches_at f t v i))

  -- all options before the one after a failing one fail
  pub fails-before : (i next j : ℕ) → next ≡ i + 1 → j < next → reaches_at f t v i ≡ false → reaches_at f t v j ≡ false
  fails-before i next j same less failing = fails-earlier j i (omega arith) failing

  -- where no option up to the room reaches it, none is found
  pub least-none_upto : ((j : ℕ) → t.low ≤ j → j ≤ t.room → reaches_at f t v j ≡ false) → least_reaching f t v ≡ None
  least-none_upto fails = least_passing-is_none (reaches_at f t v) (suc t.room - t.low) t.low (λ j from below. fails j from (omega arith))

  -- where the last option fails, none is found
  pub least-none : reaches_at f t v t.room ≡ false → least_reaching f t v ≡ None
  least-none failing = least-none_upto (λ j from upto. fails-earlier j t.room upto failing)

  -- where there is no option, none is found
  pub least-empty : t.room < t.low → least_reaching f t v ≡ None
  least-empty none = least-none_upto (λ j from upto. let never : ⊥ = omega arith in absurd never)

  -- where nothing lies between two options, the other is the least
  pub least-between : (from to : ℕ) → IsBracket f t v from to → to ≤ from → least_reaching f t v ≡ Some to
  least-between from to between closed = least_passing-is (reaches_at f t v) (suc t.room - t.low) t.low to (record {
    from = omega (arith, between.low, between.order);
    below = omega (arith, between.low, between.order, between.room);
    passing = between.reaching;
    none_before = λ j a b. between.before j a (omega arith);
  })

-- two tests agree where each number passes both or none
same_tests : (a b c d : ℕ) → (a ≤ b → c ≤ d) → (c ≤ d → a ≤ b) → nat_le a b ≡ nat_le c d
same_tests a b c d to from = ⊎_elim
    (λ yes. yes ∙ sym (le-leb c d (to (leb-true a b yes))))
    (λ no. no ∙ sym (⊎_elim (λ other. let within = from (leb-true c d other) in let past = leb-false a b no in let never : ⊥ = omega arith in absurd never) (λ fails. fails) (cases_Bool (nat_le c d))))
    (cases_Bool (nat_le a b))

-- tests that agree find the same option
least-same : (p q : ℕ → Bool) → ((i : ℕ) → p i ≡ q i) → (n i : ℕ) → least_passing p n i ≡ least_passing q n i
least-same p q same zero i = refl
least-same p q same (suc n) i =
    ap (λ b. cond b (Some i) (least_passing p n (suc i))) (same i)
    ∙ ap (λ later. cond (q i) (Some i) later) (least-same p q same n (suc i))

-- the lower value of an option passes the test of a cell exactly where it is at least the value at the cell's end
passes-is : (f : ℕ) (t : Filling) (cell : Cell) (i : ℕ) → passes_at f t cell i ≡ reaches_at f t (end_value cell t.whole.hi) i
passes-is f t cell i = same_test (2 ^ cell.b) (suc cell.k * t.whole.hi) (lower_at f t i) (pow_pos cell.b)
  where
    same_test : (w n v : ℕ) → 0 < w → nat_le n (w * v) ≡ nat_le (quotient_up n w) v
    same_test w n v pos = same_tests n (w * v) (quotient_up n w) v
        (λ h. quotient_up-least n w v pos (omega arith))
        (λ h. let above = quotient_up-above n w pos in let grows : quotient_up n w * w ≤ v * w = mul-le-mul_right w h in omega arith)

-- so the least that passes it is the least that reaches that value
pub least-by_value : (f : ℕ) (t : Filling) (cell : Cell) → least_reaching f t (end_value cell t.whole.hi) ≡ least_at f t cell
least-by_value f t cell = sym (least-same (passes_at f t cell) (reaches_at f t (end_value cell t.whole.hi)) (passes-is f t cell) (suc t.room - t.low) t.low)

-- the upper value of an option is passed exactly where it is at most the value at the cell's begin
pub passed-by_value : (f : ℕ) (t : Filling) (cell : Cell) (i : ℕ) → nat_le (upper_at f t i) (begin_value cell t.whole.lo) ≡ passed_at f t cell i
passed-by_value f t cell i = same_test (2 ^ cell.b) (cell.k * t.whole.lo) (upper_at f t i) (pow_pos cell.b)
  where
    same_test : (w n v : ℕ) → 0 < w → nat_le v (n / w) ≡ nat_le (w * v) n
    same_test w n v pos = same_tests v (n / w) (w * v) n
        (λ h. let below = div-mul-le_self n w in let grows : v * w ≤ n / w * w = mul-le-mul_right w h in omega arith)
        (λ h. le-div v n w pos (omega arith))

passed_nat : (w l m n : ℕ) → l ≤ m → w * m ≤ n → w * l ≤ n
passed_nat w l m n less h = let k : l * w ≤ m * w = mul-le-mul_right w less in omega arith

-- an option that isn't passed is followed by options that aren't
pub not_passed-later : (f : ℕ) (t : Filling) (cell : Cell) (i j : ℕ) → i ≤ j → passed_at f t cell i ≡ false → passed_at f t cell j ≡ false
not_passed-later f t cell i j h failing = ⊎_elim
    (λ yes. let earlier : passed_at f t cell i ≡ true = le-leb _ _ (passed_nat (2 ^ cell.b) (upper_at f t i) (upper_at f t j) (cell.k * t.whole.lo) (part_up-later t.kind f t.part.hi t.low i j t.whole.hi h) (leb-true _ _ yes)) in absurd (cc))
    (λ no. no)
    (cases_Bool (passed_at f t cell j))
