-- The values from low on, as the rules give them, lie on their sides of the exact sums.
use Rattle.std.proofs.Common.{◌≡◌, ℕ, zero, suc, ◌+◌, ◌-◌, ◌*◌, ◌/◌, ◌^◌, ◌≤◌, min, Bool, true, false, nat_lt, nat_le, List, drop, take, sum, Option, Some, None, option_and_then, if◌then◌else◌, arith, refl, sym, subst, ltb-true, ltb-false, leb-true}
use native.Mathlib.Decide.{ℕ_discrete}
use Rattle.std.specs.List.{list_all}
use Rattle.bz_model.specs.Fraction.{AtMost, units, sum_from}
use Rattle.fixed_enclosure.specs.Rounded.{Side, greatest, fits, if_fits, quotient_up, mul_up, seq_down, seq_up}
use Rattle.series_bounds.specs.Series.{Kind, carried, terms, sum_down, sum_up, part_down, range_up, part_up, cyc_end, log_rest, cyc_up_to, from_down, from_up}
use Rattle.series_bounds.specs.ExactSums.{first_term, exact, IsReached}
use Rattle.fixed_enclosure.proofs.Quotients.{saturated-le, guarded, fitting}
use Rattle.series_bounds.proofs.Fractions.{AtMost-trans, zero-least, units-mono}
use Rattle.series_bounds.proofs.Tails.{seq-above, geometric_up}
use Rattle.series_bounds.proofs.Geometric.{seq-reached, geometric_down, enough_powers}
use Rattle.series_bounds.proofs.Values.{set-above, cyc-above, partial-above, partial-below, seq-above-low, seq-reached-low}
use Rattle.series_bounds.proofs.Growth.{seq-grows, cyc-grows, at-least-one, units-whole}

-- a choice by a test, by its two cases
by_test : (b : Bool) (P : ℕ → Type 0) {x y : ℕ} → (b ≡ true → P x) → (b ≡ false → P y) → P (if b then x else y)
by_test true P h k = h refl
by_test false P h k = k refl

pub sum_down-le : (low : ℕ) (ts : List ℕ) → sum_down low ts ≤ sum (drop low ts)
sum_down-le low ts = by_test (list_all fits (take low ts)) (λ v. v ≤ sum (drop low ts)) (λ e. saturated-le (sum (drop low ts))) (λ e. omega arith)

pub sum_up-is : (low : ℕ) (ts : List ℕ) (rest v : ℕ) → sum_up low ts rest ≡ Some v → sum (drop low ts) + rest ≡ v
sum_up-is low ts rest v e = let g = guarded (list_all fits ts) (if_fits (sum (drop low ts) + rest)) e in fitting (fits (sum (drop low ts) + rest)) (sum (drop low ts) + rest) g.1

-- the lower value from low to i is at most the exact sum from low to i
pub part_down-reached : (kind : Kind) (F a low i : ℕ) → AtMost (units F (part_down kind F a low i)) (sum_from (exact kind (units F a)) low (suc i - low))
part_down-reached kind F a low i = AtMost-trans (units-mono F (sum_down-le low (terms Side.Down kind F a (suc i)))) (partial-below kind F a low (suc i) (suc i - low) (omega arith))

-- the upper value from low to i is at least the exact sum from low to i
pub range_up-above : (kind : Kind) (F a low i v : ℕ) → first_term kind ≤ low → range_up kind F a low i ≡ Some v → AtMost (sum_from (exact kind (units F a)) low (suc i - low)) (units F v)
range_up-above kind F a low i v h e = go (nat_lt i low) refl e
  where
    go : (b : Bool) → nat_lt i low ≡ b → (if b then Some 0 else sum_up low (terms Side.Up kind F a (suc i)) 0) ≡ Some v → AtMost (sum_from (exact kind (units F a)) low (suc i - low)) (units F v)
    go true t e =
        let l = ltb-true i low t in
        let n : 0 ≡ suc i - low = omega arith in
        subst (λ m. AtMost (sum_from (exact kind (units F a)) low m) (units F v)) n (zero-least _)
    go false t e =
        let s = sum_up-is low (terms Side.Up kind F a (suc i)) 0 v e in
        AtMost-trans (partial-above kind F a low (suc i) (suc i - low) h (omega arith)) (units-mono F (omega arith))

-- with a cap, the upper value is a bound of the exact sum, or is the cap
pub part_up-cases : (kind : Kind) (F a low i most : ℕ) (P : ℕ → Type 0) → first_term kind ≤ low → ((v : ℕ) → AtMost (sum_from (exact kind (units F a)) low (suc i - low)) (units F v) → P v) → P most → P (part_up kind F a low i most)
part_up-cases kind F a low i most P h bound whole_bound =
    by_test (nat_lt i low) P (λ t. bound 0 (none_there t))
    (λ t. by_test (list_all fits (terms Side.Up kind F a (suc i))) P (λ f. lesser (sum (drop low (terms Side.Up kind F a (suc i)))) (partial-above kind F a low (suc i) (suc i - low) h (omega arith))) (λ f. whole_bound))
  where
    none_there : nat_lt i low ≡ true → AtMost (sum_from (exact kind (units F a)) low (suc i - low)) (units F 0)
    none_there t =
        let l = ltb-true i low t in
        let n : 0 ≡ suc i - low = omega arith in
        subst (λ m. AtMost (sum_from (exact kind (units F a)) low m) (units F 0)) n (zero-least _)

    lesser : (n : ℕ) → AtMost (sum_from (exact kind (units F a)) low (suc i - low)) (units F n) → P (min n most)
    lesser n k = go (ℕ_discrete (min n most) n)
      where
        go : Dec (min n most ≡ n) → P (min n most)
        go (yes e) = subst P (sym e) (bound n k)
        go (no ne) = let e : most ≡ min n most = omega arith in subst P e whole_bound

reached-less : {kind : Kind} {F a low v w : ℕ} → w ≤ v → IsReached kind F a low v → IsReached kind F a low w
reached-less {F = F} h r = record { terms = r.terms; reached = AtMost-trans (units-mono F h) r.reached }

seq_down-reached : (F a : ℕ) → IsReached Kind.Seq F a 0 (seq_down F a)
seq_down-reached F zero = record { terms = 1; reached = omega arith }
seq_down-reached F (suc a) =
    by_test (nat_lt (suc a) (2 ^ F)) (λ v. IsReached Kind.Seq F (suc a) 0 v)
    (λ t. reached-less (saturated-le (geometric_down F (suc a))) (record { terms = enough_powers F (suc a); reached = seq-reached F (suc a) (omega arith) (ltb-true (suc a) (2 ^ F) t) }))
    (λ t. record { terms = greatest; reached = AtMost-trans (units-whole F greatest) (seq-grows (units F (suc a)) (at-least-one F (suc a) (ltb-false (suc a) (2 ^ F) t)) greatest 0) })

-- the lower value from low on is reached
pub from_down-reached : (kind : Kind) (F a low : ℕ) → first_term kind ≤ low → IsReached kind F a low (from_down kind F a low)
from_down-reached Kind.Seq F a zero h = seq_down-reached F a
from_down-reached Kind.Seq F a (suc low) h = let r = seq_down-reached F a in reached-less (saturated-le (carried Side.Down Kind.Seq F a (suc low) * seq_down F a / 2 ^ F)) (record { terms = r.terms; reached = seq-reached-low F a (suc low) r.terms (seq_down F a) r.reached })
from_down-reached Kind.Set F a low h = record { terms = 128 - low; reached = part_down-reached Kind.Set F a low 127 }
from_down-reached Kind.Cyc F a low h =
    by_test (nat_lt a (2 ^ F)) (λ v. IsReached Kind.Cyc F a low v)
    (λ t. record { terms = suc (cyc_end Side.Down F a low) - low; reached = part_down-reached Kind.Cyc F a low (cyc_end Side.Down F a low) })
    (λ t. let r = cyc-grows (units F a) (at-least-one F a (ltb-false a (2 ^ F) t)) greatest low h in record { terms = r.0; reached = AtMost-trans (units-whole F greatest) r.1 })

-- the upper value from low on is at least every finite sum
pub from_up-above : (kind : Kind) (F a low v : ℕ) → first_term kind ≤ low → from_up kind F a low ≡ Some v → (n : ℕ) → AtMost (sum_from (exact kind (units F a)) low n) (units F v)
from_up-above Kind.Seq F a zero v h e n =
    let g = guarded (nat_lt a (2 ^ F)) (if_fits (geometric_up F a)) e in
    let s = fitting (fits (geometric_up F a)) (geometric_up F a) g.1 in
    AtMost-trans (seq-above F a (ltb-true a (2 ^ F) g.0) n) (units-mono F (omega arith))
from_up-above Kind.Seq F a (suc low) v h e n = go (seq_up F a) refl e
  where
    go : (o : Option ℕ) → seq_up F a ≡ o → option_and_then (mul_up F (carried Side.Up Kind.Seq F a (suc low))) o ≡ Some v → AtMost (sum_from (exact Kind.Seq (units F a)) (suc low) n) (units F v)
    go None s e = absurd (cc)
    go (Some z) s e =
        let g = guarded (nat_lt a (2 ^ F)) (if_fits (geometric_up F a)) s in
        let w = fitting (fits (geometric_up F a)) (geometric_up F a) g.1 in
        let p = fitting (fits (quotient_up (carried Side.Up Kind.Seq F a (suc low) * z) (2 ^ F))) (quotient_up (carried Side.Up Kind.Seq F a (suc low) * z) (2 ^ F)) e in
        subst (λ m. AtMost (sum_from (exact Kind.Seq (units F a)) (suc low) n) (units F m)) p (subst (λ m. AtMost (sum_from (exact Kind.Seq (units F a)) (suc low) n) (units F (quotient_up (carried Side.Up Kind.Seq F a (suc low) * m) (2 ^ F)))) w (seq-above-low F a (suc low) (ltb-true a (2 ^ F) g.0) n))
from_up-above Kind.Set F a low v h e n =
    let g = guarded (nat_le a (16 * 2 ^ F)) (sum_up low (terms Side.Up Kind.Set F a 128) (2 * carried Side.Up Kind.Set F a 128)) e in
    let s = sum_up-is low (terms Side.Up Kind.Set F a 128) (2 * carried Side.Up Kind.Set F a 128) v g.1 in
    subst (λ m. AtMost (sum_from (exact Kind.Set (units F a)) low n) (units F m)) s (set-above F a low (leb-true a (16 * 2 ^ F) g.0) n)
from_up-above Kind.Cyc F a low v h e n =
    let g = guarded (nat_lt a (2 ^ F)) (cyc_up_to F a low (cyc_end Side.Up F a low)) e in
    let s = sum_up-is low (terms Side.Up Kind.Cyc F a (suc (cyc_end Side.Up F a low))) (log_rest F a (cyc_end Side.Up F a low)) v g.1 in
    subst (λ m. AtMost (sum_from (exact Kind.Cyc (units F a)) low n) (units F m)) s (cyc-above F a low (cyc_end Side.Up F a low) (ltb-true a (2 ^ F) g.0) h n)
