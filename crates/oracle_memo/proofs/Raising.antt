-- Levels that are raised one after another, and what that costs.
use Rattle.std.proofs.Common.{◌≡◌, ℕ, zero, suc, ◌+◌, ◌<◌, ◌≤◌, List, ◌++◌, length, map, take, Some, refl, sym, ap, subst, ◌∙◌, arith, add-one, ⊎_elim}
use Rattle.std.specs.Prelude.{slice_index}
use Rattle.std.proofs.Math.Nat.{pow-suc}
use Rattle.std.proofs.lemmas.Bool.{cases_lt}
use Rattle.std.proofs.lemmas.List.{length-map, take_all, take-append-le}
use Rattle.std.proofs.lemmas.Slice.Zip.{AllZip-long}
use Rattle.bz_model.specs.Spec.{Spec}
use Rattle.bz_model.specs.Oracle.{AreCosts, cost_between}
use Rattle.fixed_enclosure.specs.UpperValues.{IsNoGreater}
use Rattle.rounded_map.specs.RoundedMap.{Setting, setting, value_at, lesser, repeated, values_down, values_up, bodies_up, sweep_up, IsPostFixed}
use Rattle.rounded_map.proofs.Bounding.{length-at_each}
use Rattle.rounded_map.proofs.MapMonotone.{sweeps_up-post_fixed}
use Rattle.kleene_lower.specs.Lower.{Sweeps, AreSweepsFrom, swept_from}
use Rattle.kleene_lower.proofs.Advance.{length-swept}
use Rattle.oracle_memo.specs.Levels.{sweeps_at, level_down_from, level_up, cost_at, costs}

-- Steps that go on from steps.
repeated-on : {V : Type 0} (f : V → V) (k n m : ℕ) (v : V) → m ≡ n + k → repeated f k (repeated f n v) ≡ repeated f m v
repeated-on f zero n m v same = let here : n ≡ m = omega arith in ap (λ (i : ℕ). repeated f i v) here
repeated-on f (suc k) n zero v same = absurd (omega arith)
repeated-on f (suc k) n (suc m) v same = ap f (repeated-on f k n m v (omega arith))

-- A post-fixed vector has an entry for each class, and so has each level's upper vector.
pub length-base : (t : Setting) (base : List ℕ) → IsPostFixed t base → length base ≡ length t.spec.bodies
length-base t base fixed =
    sym (length-map base Some) ∙ AllZip-long IsNoGreater (bodies_up t (values_up t base)) (map Some base) fixed.each ∙ length-map t.spec.bodies (value_at (values_up t base))

length-upper_sweeps : (t : Setting) (base : List ℕ) (n : ℕ) → length base ≡ length t.spec.bodies → length (repeated (sweep_up t) n base) ≡ length t.spec.bodies
length-upper_sweeps t base zero same = same
length-upper_sweeps t base (suc n) same =
    let v = repeated (sweep_up t) n base in
    let before : length v ≡ length t.spec.bodies = length-upper_sweeps t base n same in
    length-at_each lesser v (bodies_up t (values_up t v)) (length-map t.spec.bodies (value_at (values_up t v)) ∙ sym before) ∙ before

-- If the base is post-fixed, the upper vector of every level has an entry for each class.
pub length-level_up : (t : Setting) (base : List ℕ) (level : ℕ) → IsPostFixed t base → length (level_up t base level) ≡ length t.spec.bodies
unfolding level_up
length-level_up t base level fixed = length-upper_sweeps t base (sweeps_at level) (length-base t base fixed)

-- If the start has an entry for each class, so has the lower vector of every level from it.
pub length-level_down : (t : Setting) (start : List ℕ) (level : ℕ) → length start ≡ length t.spec.bodies → length (level_down_from t start level) ≡ length t.spec.bodies
unfolding level_down_from
length-level_down t start level same = length-swept t start (sweeps_at level) same

-- The vectors of level 0, and of each level from those of the level before.
pub level_up-start : (t : Setting) (base : List ℕ) → base ≡ level_up t base 0
unfolding level_up
level_up-start t base = refl

pub level_up-on : (t : Setting) (base : List ℕ) (level more further : ℕ) → sweeps_at more ≡ sweeps_at level + further → repeated (sweep_up t) further (level_up t base level) ≡ level_up t base more
unfolding level_up
level_up-on t base level more further same = repeated-on (sweep_up t) further (sweeps_at level) (sweeps_at more) base same

pub level_up-fixed : (t : Setting) (base : List ℕ) (level : ℕ) → 0 < t.bits → IsPostFixed t base → IsPostFixed t (level_up t base level)
unfolding level_up
level_up-fixed t base level bits fixed = sweeps_up-post_fixed t (sweeps_at level) base bits fixed

-- Entries that are the result of as many lower sweeps from a start as a level demands are the
-- level's lower vector from that start.
pub level_down-is : (t : Setting) (start : List ℕ) (lower : Sweeps) (level : ℕ) → AreSweepsFrom t start lower → lower.done ≡ sweeps_at level → lower.entries ≡ level_down_from t start level
unfolding level_down_from
level_down-is t start lower level are done = are.entries ∙ ap (swept_from t start) done

-- Sweeps and costs rise with the levels.
sweeps-rise-suc : (level : ℕ) → sweeps_at level ≤ sweeps_at (suc level)
sweeps-rise-suc zero = omega arith
sweeps-rise-suc (suc level) = omega (arith, pow-suc 4 (suc level))

-- A level has at most as many sweeps as the level after it.
pub sweeps-rise : (level : ℕ) → sweeps_at level ≤ sweeps_at (level + 1)
sweeps-rise level = omega (arith, sweeps-rise-suc level, ap sweeps_at (add-one level))

cost-rise-suc : (level : ℕ) → cost_at level ≤ cost_at (suc level)
cost-rise-suc level = omega (arith, sweeps-rise-suc level)

cost-rises : (i j : ℕ) → i ≤ j → cost_at i ≤ cost_at j
cost-rises i zero below = let same : i ≡ 0 = omega arith in let e : cost_at i ≡ cost_at 0 = ap cost_at same in omega arith
cost-rises i (suc j) below = ⊎_elim
    (λ less. let here : cost_at i ≤ cost_at j = cost-rises i j (omega arith) in let next : cost_at j ≤ cost_at (suc j) = cost-rise-suc j in omega arith)
    (λ least. let same : i ≡ suc j = omega arith in let e : cost_at i ≡ cost_at (suc j) = ap cost_at same in omega arith)
    (cases_lt i (suc j))

-- For a level up to 6, the entry in the list of costs at the level's place is the cost of raising
-- from level 0 to it.
pub costs-at : (level : ℕ) → level ≤ 6 → slice_index costs level ≡ cost_at level
unfolding costs
costs-at zero few = refl
costs-at (suc zero) few = refl
costs-at (suc (suc zero)) few = refl
costs-at (suc (suc (suc zero))) few = refl
costs-at (suc (suc (suc (suc zero)))) few = refl
costs-at (suc (suc (suc (suc (suc zero))))) few = refl
costs-at (suc (suc (suc (suc (suc (suc zero)))))) few = refl
costs-at (suc (suc (suc (suc (suc (suc (suc level))))))) few = absurd (omega arith)

length-costs : length costs ≡ 7
unfolding costs
length-costs = refl

-- The costs of levels 0 to 6 begin with 0, are seven in number, and never fall.
pub are_costs : AreCosts costs
are_costs = record {
  count = length-costs;
  first = costs-at 0 (omega arith);
  rising = λ i j below few. let from : slice_index costs i ≡ cost_at i = costs-at i (omega arith) in let to : slice_index costs j ≡ cost_at j = costs-at j few in let rise : cost_at i ≤ cost_at j = cost-rises i j below in omega arith;
}

-- What raising from one level to another ticked.
pub ticked : (i j now before : ℕ) → i ≤ 6 → j ≤ 6 → now + cost_at i ≡ before + cost_at j → now ≤ before + cost_between costs i j
ticked i j now before few more ticks =
    let from : slice_index costs i ≡ cost_at i = costs-at i few in
    let to : slice_index costs j ≡ cost_at j = costs-at j more in
    omega arith

-- What was written over a whole list.
pub written-whole : {V : Type 0} (n : ℕ) (xs ys : List V) → length xs ≡ n → take n (xs ++ ys) ≡ xs
written-whole n xs ys same = take-append-le n xs ys (omega arith) ∙ take_all n xs (omega arith)

-- The vectors and values of the next level, where the code's system is the specification.
module _ (s founded : Spec) (num den F : ℕ) (same : s ≡ founded) where
  pub upper-next : (base items start swept whole : List ℕ) (level more further : ℕ) → items ≡ level_up (setting founded num den F) base level → start ≡ items → swept ≡ repeated (sweep_up (setting s num den F)) further start → whole ≡ swept → sweeps_at more ≡ sweeps_at level + further → whole ≡ level_up (setting founded num den F) base more
  upper-next base items start swept whole level more further items_are start_is swept_is whole_is sweeps =
      whole_is ∙ swept_is ∙ ap (repeated (sweep_up (setting s num den F)) further) (start_is ∙ items_are)
      ∙ ap (λ r. repeated (sweep_up (setting r num den F)) further (level_up (setting founded num den F) base level)) same
      ∙ level_up-on (setting founded num den F) base level more further sweeps

  pub fixed-next : (base whole : List ℕ) (more : ℕ) → 0 < F → IsPostFixed (setting founded num den F) base → whole ≡ level_up (setting founded num den F) base more → IsPostFixed (setting s num den F) whole
  fixed-next base whole more bits fixed is =
      subst (λ v. IsPostFixed (setting s num den F) v) (sym is)
      (subst (λ r. IsPostFixed (setting r num den F) (level_up (setting founded num den F) base more)) (sym same) (level_up-fixed (setting founded num den F) base more bits fixed))

  pub lower-before : (start : List ℕ) (lower : Sweeps) → AreSweepsFrom (setting founded num den F) start lower → AreSweepsFrom (setting s num den F) start lower
  lower-before start lower are = subst (λ r. AreSweepsFrom (setting r num den F) start lower) (sym same) are

  pub lower-next : (start : List ℕ) (lower : Sweeps) → AreSweepsFrom (setting s num den F) start lower → AreSweepsFrom (setting founded num den F) start lower
  lower-next start lower are = subst (λ r. AreSweepsFrom (setting r num den F) start lower) same are

  pub lows-next : (start : List ℕ) (lower : Sweeps) (entries values lows : List ℕ) (more : ℕ) → AreSweepsFrom (setting s num den F) start lower → lower.done ≡ sweeps_at more → entries ≡ lower.entries → values ≡ values_down (setting s num den F) entries → lows ≡ values → lows ≡ values_down (setting founded num den F) (level_down_from (setting founded num den F) start more)
  lows-next start lower entries values lows more are done entries_are values_are lows_are =
      lows_are ∙ values_are ∙ ap (values_down (setting s num den F)) (entries_are ∙ level_down-is (setting s num den F) start lower more are done)
      ∙ ap (λ r. values_down (setting r num den F) (level_down_from (setting r num den F) start more)) same

  pub highs-next : (base whole values highs : List ℕ) (more : ℕ) → whole ≡ level_up (setting founded num den F) base more → map Some values ≡ values_up (setting s num den F) whole → highs ≡ values → map Some highs ≡ values_up (setting founded num den F) (level_up (setting founded num den F) base more)
  highs-next base whole values highs more whole_is values_are highs_are =
      ap (map Some) highs_are ∙ values_are ∙ ap (values_up (setting s num den F)) whole_is ∙ ap (λ r. values_up (setting r num den F) (level_up (setting founded num den F) base more)) same
