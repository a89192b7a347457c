-- A sum that runs term by term is the sum that the rules define.
use Rattle.std.proofs.Common.{◌≡◌, ℕ, zero, suc, ◌+◌, ◌-◌, ◌*◌, ◌<◌, ◌≤◌, ◌&&◌, List, [], ◌∷◌, take, drop, replicate, sum, nat_lt, Some, None, cond, refl, sym, ◌∙◌, ap, subst, zero-add, arith, ⊎_elim}
use Rattle.std.specs.List.{list_all}
use Rattle.std.proofs.lemmas.Bool.{cases_lt, le-leb, lt-leb, lt-ltb, le-ltb}
use Rattle.std.proofs.lemmas.List.Sums.{sum_by-cons}
use Rattle.fixed_enclosure.specs.Rounded.{greatest, saturated, fits}
use Rattle.series_bounds.specs.Running.{kept, run_down, up_to, run_up}

-- A term before low adds nothing to the sum.
pub kept-before : (low j t : ℕ) → j < low → kept low j t ≡ 0
kept-before low j t h = ap (λ b. cond b 0 t) (lt-ltb j low h)

-- A term from low on adds itself to the sum.
pub kept-after : (low j t : ℕ) → low ≤ j → kept low j t ≡ t
kept-after low j t h = ap (λ b. cond b 0 t) (le-ltb j low h)

-- The next step of a lower sum, for a term that fits.
pub down-step : (low j s t : ℕ) (ts : List ℕ) → t ≤ greatest → run_down low j s (t ∷ ts) ≡ run_down low (suc j) (saturated (s + kept low j t)) ts
down-step low j s t ts h = ap (λ b. cond b (run_down low (suc j) (saturated (s + kept low j t)) ts) (cond (nat_lt j low) 0 greatest)) (le-leb t greatest h)

-- A term that doesn't fit ends it.
pub down-past-before : (low j s t : ℕ) (ts : List ℕ) → greatest < t → j < low → run_down low j s (t ∷ ts) ≡ 0
down-past-before low j s t ts h k = ap (λ b. cond b (run_down low (suc j) (saturated (s + kept low j t)) ts) (cond (nat_lt j low) 0 greatest)) (lt-leb t greatest h) ∙ ap (λ b. cond b 0 greatest) (lt-ltb j low k)

-- A term from low on that doesn't fit makes a running lower sum the greatest number.
pub down-past-after : (low j s t : ℕ) (ts : List ℕ) → greatest < t → low ≤ j → run_down low j s (t ∷ ts) ≡ greatest
down-past-after low j s t ts h k = ap (λ b. cond b (run_down low (suc j) (saturated (s + kept low j t)) ts) (cond (nat_lt j low) 0 greatest)) (lt-leb t greatest h) ∙ ap (λ b. cond b 0 greatest) (le-ltb j low k)

added : (s t r k : ℕ) → k ≡ t → saturated (saturated (s + k) + r) ≡ saturated (s + (t + r))
added s t r k e = omega arith

full : (s t r : ℕ) → greatest < t → greatest ≡ saturated (s + (t + r))
full s t r h = omega arith

stays : (s : ℕ) → s ≤ greatest → s ≡ saturated (s + 0)
stays s h = omega arith

within : (s : ℕ) → saturated s ≤ greatest
within s = omega arith

-- From low on it is the saturated sum.
pub down-sums : (low j s : ℕ) (ts : List ℕ) → low ≤ j → s ≤ greatest → run_down low j s ts ≡ saturated (s + sum ts)
down-sums low j s [] h k = stays s k
down-sums low j s (t ∷ ts) h k = ⊎_elim
    (λ past. down-past-after low j s t ts past h ∙ full s t (sum ts) past ∙ ap (λ r. saturated (s + r)) (sym (sum_by-cons (λ x. x) t ts)))
    (λ small. down-step low j s t ts small ∙ down-sums low (suc j) (saturated (s + kept low j t)) ts (omega arith) (within (s + kept low j t)) ∙ added s t (sum ts) (kept low j t) (kept-after low j t h) ∙ ap (λ r. saturated (s + r)) (sym (sum_by-cons (λ x. x) t ts)))
    (cases_lt greatest t)

-- Before low the terms must fit, and add nothing.
pub down-all : (d low j : ℕ) (ts : List ℕ) → low ≡ j + d → run_down low j 0 ts ≡ cond (list_all fits (take d ts)) (saturated (sum (drop d ts))) 0
down-all zero low j ts e = down-sums low j 0 ts (omega arith) (omega arith) ∙ ap saturated (zero-add (sum ts))
down-all (suc d) low j [] e = omega arith
down-all (suc d) low j (t ∷ ts) e = ⊎_elim
    (λ past. down-past-before low j 0 t ts past (omega arith) ∙ ap (λ b. cond (b && list_all fits (take d ts)) (saturated (sum (drop d ts))) 0) (sym (lt-leb t greatest past)))
    (λ small. down-step low j 0 t ts small ∙ ap (λ k. run_down low (suc j) (saturated (0 + k)) ts) (kept-before low j t (omega arith)) ∙ down-all d low (suc j) ts (omega arith) ∙ ap (λ b. cond (b && list_all fits (take d ts)) (saturated (sum (drop d ts))) 0) (sym (le-leb t greatest small)))
    (cases_lt greatest t)

-- A full sum from low on stays so.
pub down-full : (low j s : ℕ) (ts : List ℕ) → low ≤ j → s ≡ greatest → run_down low j s ts ≡ s
down-full low j s ts h e = down-sums low j s ts h (omega arith) ∙ more s (sum ts) e
  where
    more : (s r : ℕ) → s ≡ greatest → saturated (s + r) ≡ s
    more s r e = omega arith

none_added : (s k : ℕ) → s ≤ greatest → k ≡ 0 → saturated (s + k) ≡ s
none_added s k h e = omega arith

-- Terms of 0 add nothing.
pub down-zeros : (low j s n : ℕ) → s ≤ greatest → run_down low j s (replicate n 0) ≡ s
down-zeros low j s zero h = refl
down-zeros low j s (suc n) h = ap (λ k. run_down low (suc j) k (replicate n 0)) (none_added s (kept low j 0) h nothing) ∙ down-zeros low (suc j) s n h
  where
    nothing : kept low j 0 ≡ 0
    nothing = ⊎_elim (λ b. kept-before low j 0 b) (λ a. kept-after low j 0 a) (cases_lt j low)

-- The next step of an upper sum, for a term that fits.
pub up-step : (most low j s t : ℕ) (ts : List ℕ) → t ≤ greatest → run_up most low j s (t ∷ ts) ≡ run_up most low (suc j) (s + kept low j t) ts
up-step most low j s t ts h = ap (λ b. cond b (run_up most low (suc j) (s + kept low j t) ts) None) (le-leb t greatest h)

-- A term that doesn't fit ends it.
pub up-past : (most low j s t : ℕ) (ts : List ℕ) → greatest < t → run_up most low j s (t ∷ ts) ≡ None
up-past most low j s t ts h = ap (λ b. cond b (run_up most low (suc j) (s + kept low j t) ts) None) (lt-leb t greatest h)

-- A number that is at most the bound has a value up to the bound, which is the number itself.
pub up_to-within : (most n : ℕ) → n ≤ most → up_to most n ≡ Some n
up_to-within most n h = ap (λ b. cond b (Some n) None) (le-leb n most h)

pub up_to-past : (most n : ℕ) → most < n → up_to most n ≡ None
up_to-past most n h = ap (λ b. cond b (Some n) None) (lt-leb n most h)

-- So does a sum that passes the bound.
pub up-over : (most low j s : ℕ) (ts : List ℕ) → most < s → run_up most low j s ts ≡ None
up-over most low j s [] h = up_to-past most s h
up-over most low j s (t ∷ ts) h = ⊎_elim
    (λ past. up-past most low j s t ts past)
    (λ small. up-step most low j s t ts small ∙ up-over most low (suc j) (s + kept low j t) ts (omega arith))
    (cases_lt greatest t)

-- From low on it is the sum, where all terms fit.
pub up-sums : (most low j s : ℕ) (ts : List ℕ) → low ≤ j → run_up most low j s ts ≡ cond (list_all fits ts) (up_to most (s + sum ts)) None
up-sums most low j s [] h = ap (up_to most) (nothing s)
  where
    nothing : (s : ℕ) → s ≡ s + 0
    nothing s = omega arith
up-sums most low j s (t ∷ ts) h = ⊎_elim
    (λ past. up-past most low j s t ts past ∙ ap (λ b. cond (b && list_all fits ts) (up_to most (s + sum (t ∷ ts))) None) (sym (lt-leb t greatest past)))
    (λ small. up-step most low j s t ts small ∙ up-sums most low (suc j) (s + kept low j t) ts (omega arith) ∙ ap (λ r. cond (list_all fits ts) (up_to most r) None) (regroup (kept low j t) (kept-after low j t h)) ∙ ap (λ b. cond (b && list_all fits ts) (up_to most (s + sum (t ∷ ts))) None) (sym (le-leb t greatest small)))
    (cases_lt greatest t)
  where
    regroup : (k : ℕ) → k ≡ t → s + k + sum ts ≡ s + sum (t ∷ ts)
    regroup k e = omega (arith, sum_by-cons (λ x. x) t ts)

-- Before low the terms must fit, and add nothing.
pub up-all : (d most low j : ℕ) (ts : List ℕ) → low ≡ j + d → run_up most low j 0 ts ≡ cond (list_all fits ts) (up_to most (sum (drop d ts))) None
up-all zero most low j ts e = up-sums most low j 0 ts (omega arith) ∙ ap (λ r. cond (list_all fits ts) (up_to most r) None) (zero-add (sum ts))
up-all (suc d) most low j [] e = refl
up-all (suc d) most low j (t ∷ ts) e = ⊎_elim
    (λ past. up-past most low j 0 t ts past ∙ ap (λ b. cond (b && list_all fits ts) (up_to most (sum (drop d ts))) None) (sym (lt-leb t greatest past)))
    (λ small. up-step most low j 0 t ts small ∙ ap (λ k. run_up most low (suc j) (0 + k) ts) (kept-before low j t (omega arith)) ∙ up-all d most low (suc j) ts (omega arith) ∙ ap (λ b. cond (b && list_all fits ts) (up_to most (sum (drop d ts))) None) (sym (le-leb t greatest small)))
    (cases_lt greatest t)

-- Terms that are all the same number, which fits, are counted from low on.
pub up-same : (most low j s n t : ℕ) → t ≤ greatest → run_up most low j s (replicate n t) ≡ up_to most (s + t * (n - (low - j)))
up-same most low j s zero t h = ap (up_to most) (nothing s t (0 - (low - j)) (omega arith))
  where
    nothing : (s t k : ℕ) → k ≡ 0 → s ≡ s + t * k
    nothing s t k e = subst (λ m. s ≡ s + t * m) (sym e) (omega arith)
up-same most low j s (suc n) t h = up-step most low j s t (replicate n t) h ∙ up-same most low (suc j) (s + kept low j t) n t h ∙ ap (up_to most) (⊎_elim before after (cases_lt j low))
  where
    before : j < low → s + kept low j t + t * (n - (low - suc j)) ≡ s + t * (suc n - (low - j))
    before b = let e : n - (low - suc j) ≡ suc n - (low - j) = omega arith in subst (λ m. s + kept low j t + t * (n - (low - suc j)) ≡ s + t * m) e (omega (arith, kept-before low j t b))

    after : low ≤ j → s + kept low j t + t * (n - (low - suc j)) ≡ s + t * (suc n - (low - j))
    after a = let e : suc (n - (low - suc j)) ≡ suc n - (low - j) = omega arith in subst (λ m. s + kept low j t + t * (n - (low - suc j)) ≡ s + t * m) e (omega (arith, kept-after low j t a))
