-- Each rounded term is on its side of the exact one.
use Rattle.std.proofs.Common.{◌≡◌, ℕ, zero, suc, ◌+◌, ◌*◌, ◌/◌, ◌^◌, ◌≤◌, List, [], ◌∷◌, sum, arith, pow_pos, subst}
use Rattle.std.proofs.Math.Nat.{mul-le-mul_right, mul-pos, div-mul-le_self}
use Rattle.std.proofs.lemmas.List.Sums.{sum_by-cons}
use Rattle.bz_model.specs.Fraction.{Fraction, AtMost, times, whole, units, power, sum_from}
use Rattle.bz_model.specs.Measures.{factorial, set_share}
use Rattle.fixed_enclosure.specs.Rounded.{Side, quotient_up}
use Rattle.series_bounds.specs.Series.{Kind, carried, term, terms_from}
use Rattle.series_bounds.specs.ExactSums.{first_term, exact}
use Rattle.fixed_enclosure.proofs.Quotients.{quotient_up-above}
use Rattle.series_bounds.proofs.Fractions.{AtMost-trans, plus-mono, zero-least, units-plus, units-plus', units-mono}

-- From term j on each rounded term of the list is at least the exact one, and all sums of exact terms after them are at most the rest.
pub data Encloses (f : ℕ) (e : ℕ → Fraction) (rest : ℕ) : (j : ℕ) → List ℕ → Type 0 where
  end : {j : ℕ} → ((n : ℕ) → AtMost (sum_from e j n) (units f rest)) → Encloses f e rest j []
  next : {j t : ℕ} {ts : List ℕ} → AtMost (e j) (units f t) → Encloses f e rest (suc j) ts → Encloses f e rest j (t ∷ ts)

pub quotient_down-le : (n d : ℕ) → n / d * d ≤ n
quotient_down-le n d = div-mul-le_self n d

step_up : (v D t t' p q f s : ℕ) → (1 * p) * D ≤ t * (f * q) → t * v ≤ t' * (s * D) → (1 * (v * p)) * D ≤ t' * ((s * f) * (D * q))
step_up v D t t' p q f s h k = omega (arith, mul-le-mul_right v h, mul-le-mul_right (f * q) k)

step_down : (v D t t' p q f s : ℕ) → t * (f * q) ≤ (1 * p) * D → t' * (s * D) ≤ t * v → t' * ((s * f) * (D * q)) ≤ (1 * (v * p)) * D
step_down v D t t' p q f s h k = omega (arith, mul-le-mul_right v h, mul-le-mul_right (f * q) k)

-- the share in the number carried to term j
abbrev pub carried_share : Kind → ℕ → Fraction
carried_share Kind.Seq j = whole 1
carried_share Kind.Set j = set_share j
carried_share Kind.Cyc j = whole 1

-- The exact power j of a / 2^F, divided by j! for a set, is at most the number carried to term j,
-- rounded up, as a value.
pub carried-up : (kind : Kind) (F a j : ℕ) → AtMost (times (carried_share kind j) (power (units F a) j)) (units F (carried Side.Up kind F a j))
carried-up Kind.Seq F a zero = omega arith
carried-up Kind.Set F a zero = omega arith
carried-up Kind.Cyc F a zero = omega arith
carried-up Kind.Seq F a (suc j) =
    let c = carried Side.Up Kind.Seq F a j in
    record { cross = step_up a (2 ^ F) c (carried Side.Up Kind.Seq F a (suc j)) (power (units F a) j).num (power (units F a) j).den 1 1 (carried-up Kind.Seq F a j).cross (quotient_up-above (c * a) (1 * 2 ^ F) (mul-pos (omega arith) (pow_pos F))) }
carried-up Kind.Set F a (suc j) =
    let c = carried Side.Up Kind.Set F a j in
    record { cross = step_up a (2 ^ F) c (carried Side.Up Kind.Set F a (suc j)) (power (units F a) j).num (power (units F a) j).den (factorial j) (suc j) (carried-up Kind.Set F a j).cross (quotient_up-above (c * a) (suc j * 2 ^ F) (mul-pos (omega arith) (pow_pos F))) }
carried-up Kind.Cyc F a (suc j) =
    let c = carried Side.Up Kind.Cyc F a j in
    record { cross = step_up a (2 ^ F) c (carried Side.Up Kind.Cyc F a (suc j)) (power (units F a) j).num (power (units F a) j).den 1 1 (carried-up Kind.Cyc F a j).cross (quotient_up-above (c * a) (1 * 2 ^ F) (mul-pos (omega arith) (pow_pos F))) }

-- The number carried to term j, rounded down, is as a value at most the exact power j of a / 2^F,
-- divided by j! for a set.
pub carried-down : (kind : Kind) (F a j : ℕ) → AtMost (units F (carried Side.Down kind F a j)) (times (carried_share kind j) (power (units F a) j))
carried-down Kind.Seq F a zero = omega arith
carried-down Kind.Set F a zero = omega arith
carried-down Kind.Cyc F a zero = omega arith
carried-down Kind.Seq F a (suc j) =
    let c = carried Side.Down Kind.Seq F a j in
    record { cross = step_down a (2 ^ F) c (carried Side.Down Kind.Seq F a (suc j)) (power (units F a) j).num (power (units F a) j).den 1 1 (carried-down Kind.Seq F a j).cross (quotient_down-le (c * a) (1 * 2 ^ F)) }
carried-down Kind.Set F a (suc j) =
    let c = carried Side.Down Kind.Set F a j in
    record { cross = step_down a (2 ^ F) c (carried Side.Down Kind.Set F a (suc j)) (power (units F a) j).num (power (units F a) j).den (factorial j) (suc j) (carried-down Kind.Set F a j).cross (quotient_down-le (c * a) (suc j * 2 ^ F)) }
carried-down Kind.Cyc F a (suc j) =
    let c = carried Side.Down Kind.Cyc F a j in
    record { cross = step_down a (2 ^ F) c (carried Side.Down Kind.Cyc F a (suc j)) (power (units F a) j).num (power (units F a) j).den 1 1 (carried-down Kind.Cyc F a j).cross (quotient_down-le (c * a) (1 * 2 ^ F)) }

share_up : (s t t' p q D : ℕ) → (1 * p) * D ≤ t * (1 * q) → t ≤ t' * s → (1 * p) * D ≤ t' * (s * q)
share_up s t t' p q D h k = omega (arith, h, mul-le-mul_right q k)

share_down : (s t t' p q D : ℕ) → t * (1 * q) ≤ (1 * p) * D → t' * s ≤ t → t' * (s * q) ≤ (1 * p) * D
share_down s t t' p q D h k = omega (arith, h, mul-le-mul_right q k)

-- From the series' first term on, the exact term j at a / 2^F is at most the term that is rounded
-- up.
pub term-up : (kind : Kind) (F a j : ℕ) → first_term kind ≤ j → AtMost (exact kind (units F a) j) (units F (term Side.Up kind j (carried Side.Up kind F a j)))
term-up Kind.Seq F a j h = carried-up Kind.Seq F a j
term-up Kind.Set F a j h = carried-up Kind.Set F a j
term-up Kind.Cyc F a zero h = absurd (omega arith)
term-up Kind.Cyc F a (suc j) h =
    let c = carried Side.Up Kind.Cyc F a (suc j) in
    record { cross = share_up (suc j) c (quotient_up c (suc j)) (power (units F a) (suc j)).num (power (units F a) (suc j)).den (2 ^ F) (carried-up Kind.Cyc F a (suc j)).cross (quotient_up-above c (suc j) (omega arith)) }

pub term-down : (kind : Kind) (F a j : ℕ) → AtMost (units F (term Side.Down kind j (carried Side.Down kind F a j))) (exact kind (units F a) j)
term-down Kind.Seq F a j = carried-down Kind.Seq F a j
term-down Kind.Set F a j = carried-down Kind.Set F a j
term-down Kind.Cyc F a zero = omega arith
term-down Kind.Cyc F a (suc j) =
    let c = carried Side.Down Kind.Cyc F a (suc j) in
    record { cross = share_down (suc j) c (c / suc j) (power (units F a) (suc j)).num (power (units F a) (suc j)).den (2 ^ F) (carried-down Kind.Cyc F a (suc j)).cross (quotient_down-le c (suc j)) }

-- an enclosing list and its rest bound every finite sum
pub enclosed : (F : ℕ) {e : ℕ → Fraction} {rest j : ℕ} {ts : List ℕ} → Encloses F e rest j ts → (n : ℕ) → AtMost (sum_from e j n) (units F (sum ts + rest))
enclosed F {rest = rest} (end h) n = AtMost-trans (h n) (units-mono F (omega arith))
enclosed F (next h k) zero = zero-least _
enclosed F {rest = rest} (next {t = t} {ts = ts} h k) (suc n) =
    AtMost-trans (plus-mono h (enclosed F k n))
    (AtMost-trans (units-plus F t (sum ts + rest)) (units-mono F (omega (arith, sum_by-cons (λ x. x) t ts))))

-- the sum of rounded-down terms is at most the sum of as many exact ones
pub terms-down : (kind : Kind) (F a n j : ℕ) → AtMost (units F (sum (terms_from Side.Down kind F a n j (carried Side.Down kind F a j)))) (sum_from (exact kind (units F a)) j n)
terms-down kind F a zero j = omega arith
terms-down kind F a (suc n) j =
    let t = term Side.Down kind j (carried Side.Down kind F a j) in
    let ts = terms_from Side.Down kind F a n (suc j) (carried Side.Down kind F a (suc j)) in
    AtMost-trans (units-mono F (omega (arith, sum_by-cons (λ x. x) t ts)))
    (AtMost-trans (units-plus' F t (sum ts)) (plus-mono (term-down kind F a j) (terms-down kind F a n (suc j))))

-- rounded-up terms and a rest after them enclose the series
pub terms-up : (kind : Kind) (F a rest n j last : ℕ) → first_term kind ≤ j → last ≡ j + n → ((m : ℕ) → AtMost (sum_from (exact kind (units F a)) last m) (units F rest)) → Encloses F (exact kind (units F a)) rest j (terms_from Side.Up kind F a n j (carried Side.Up kind F a j))
terms-up kind F a rest zero j last h e r = end (subst (λ i. (m : ℕ) → AtMost (sum_from (exact kind (units F a)) i m) (units F rest)) same r)
  where
    same : last ≡ j
    same = omega arith
terms-up kind F a rest (suc n) j last h e r = next (term-up kind F a j h) (terms-up kind F a rest n (suc j) last (omega arith) (omega arith) r)
