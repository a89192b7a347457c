-- The partial value up to one part more, where the terms have 64 bits: one term is added.
use Rattle.std.proofs.Common.{◌≡◌, ℕ, zero, suc, ◌+◌, ◌-◌, ◌*◌, ◌/◌, ◌^◌, ◌≤◌, ◌&&◌, min, true, false, List, [], ◌∷◌, ◌++◌, length, drop, cond, arith, refl, sym, ◌∙◌, ap, subst, ⊎_elim}
use Rattle.std.specs.Prelude.{sum}
use Rattle.std.specs.List.{list_all}
use Rattle.std.proofs.Math.Nat.{zero-div, le_refl}
use Rattle.std.proofs.lemmas.Bool.{cases_lt, lt-ltb, le-ltb}
use Rattle.std.proofs.lemmas.List.{drop-append-le, length-append}
use Rattle.std.proofs.lemmas.List.Folds.{list_all-append}
use Rattle.std.proofs.lemmas.List.Sums.{sum_by-append, sum_by-cons}
use Rattle.fixed_enclosure.specs.Rounded.{saturated, fits, Side}
use Rattle.series_bounds.specs.Series.{Kind, divisor, carried_on, carried, term, terms, sum_capped, part_down, part_up}
use Rattle.series_bounds.specs.Running.{kept}
use Rattle.series_bounds.proofs.Running.{kept-before, kept-after}
use Rattle.series_bounds.proofs.PartsGrow.{OneMore, terms_from-more, drop-short}
use Rattle.series_bounds.proofs.Fitting.{part_down-fits}
use Rattle.count_draw.proofs.SmallTerms.{term-small, one-small, length-terms, terms-next, fits-take, AllFit, fitting-first, fitting-next}

sum-last : (ts : List ℕ) (t : ℕ) → sum (ts ++ t ∷ []) ≡ sum ts + t
sum-last ts t = sum_by-append (λ n. n) ts (t ∷ []) ∙ ap (λ n. sum ts + n) (sum_by-cons (λ n. n) t [] ∙ omega arith)

-- a list's last element adds to the sum from low on, where it isn't before low
dropped-next : (low n : ℕ) (ts : List ℕ) (t : ℕ) → length ts ≡ n → sum (drop low (ts ++ t ∷ [])) ≡ sum (drop low ts) + kept low n t
dropped-next low n ts t len = ⊎_elim
    (λ short.
    let longer : length (ts ++ t ∷ []) ≤ low = omega (arith, length-append ts (t ∷ [])) in
    let nothing : sum (drop low (ts ++ t ∷ [])) ≡ 0 = ap sum (drop-short low (ts ++ t ∷ []) longer) in
    let before : sum (drop low ts) ≡ 0 = ap sum (drop-short low ts (omega arith)) in
    omega (arith, nothing, before, kept-before low n t (omega arith)))
    (λ long.
    let whole : sum (drop low (ts ++ t ∷ [])) ≡ sum (drop low ts) + t = ap sum (drop-append-le low ts (t ∷ []) (omega arith)) ∙ sum-last (drop low ts) t in
    omega (arith, whole, kept-after low n t (omega arith)))
    (cases_lt n low)

module _ (kind : Kind) (f a low : ℕ) where
  -- the sum of the first terms from low on, and that of one term more
  abbrev pub summed : Side → ℕ → ℕ
  summed side n = sum (drop low (terms side kind f a n))

  summed-next : (side : Side) (n : ℕ) → summed side (suc n) ≡ summed side n + kept low n (term side kind n (carried side kind f a n))
  summed-next side n =
      ap (λ ts. sum (drop low ts)) (terms-next side kind f a n 0 n (omega arith))
      ∙ dropped-next low n (terms side kind f a n) (term side kind n (carried side kind f a n)) (length-terms side kind f a n 0 (2 ^ f))

  nothing_summed : (side : Side) → summed side 0 ≡ 0
  nothing_summed side = ap sum (drop-short low [] (omega arith))

  down-is : (i : ℕ) → AllFit Side.Down kind f a i → part_down kind f a low i ≡ saturated (summed Side.Down (suc i))
  down-is i fit = ap (λ b. cond b (saturated (summed Side.Down (suc i))) 0) (fits-take low (terms Side.Down kind f a (suc i)) fit)

  pub part_down-first : (t : ℕ) → t ≡ term Side.Down kind 0 (2 ^ f) → f ≤ 56 → part_down kind f a low 0 ≡ kept low 0 t
  part_down-first t is bits =
      let fit : t ≤ 2 ^ 63 = let h = term-small Side.Down kind 0 (2 ^ f) (2 ^ f) (omega arith) in omega (arith, is, h, one-small f bits) in
      let here : summed Side.Down 1 ≡ summed Side.Down 0 + kept low 0 t = summed-next Side.Down 0 ∙ ap (λ n. summed Side.Down 0 + kept low 0 n) (sym is) in
      let less : kept low 0 t ≤ t = kept-le low 0 t in
      omega (arith, down-is 0 (fitting-first Side.Down kind f a bits), here, nothing_summed Side.Down)
    where
      kept-le : (low j t : ℕ) → kept low j t ≤ t
      kept-le low j t = ⊎_elim (λ b. omega (arith, kept-before low j t b)) (λ a. omega (arith, kept-after low j t a)) (cases_lt j low)

  pub part_down-next : (i next t : ℕ) → next ≡ i + 1 → t ≡ term Side.Down kind next (carried Side.Down kind f a next) → AllFit Side.Down kind f a i → AllFit Side.Down kind f a next → part_down kind f a low next ≡ saturated (part_down kind f a low i + kept low next t)
  part_down-next i next t same is fit fit_next =
      let one_more : suc i ≡ next = omega arith in
      let step : summed Side.Down (suc next) ≡ summed Side.Down next + kept low next t = summed-next Side.Down next ∙ ap (λ n. summed Side.Down next + kept low next n) (sym is) in
      let before : part_down kind f a low i ≡ saturated (summed Side.Down next) = down-is i fit ∙ ap (λ n. saturated (summed Side.Down n)) one_more in
      omega (arith, down-is next fit_next, step, before)

  up-is : (i cap : ℕ) → AllFit Side.Up kind f a i → part_up kind f a low i cap ≡ min (summed Side.Up (suc i)) cap
  up-is i cap fit = ⊎_elim
      (λ less. let nothing : summed Side.Up (suc i) ≡ 0 = ap sum (drop-short low (terms Side.Up kind f a (suc i)) (omega (arith, length-terms Side.Up kind f a (suc i) 0 (2 ^ f)))) in
      ap (λ b. cond b 0 (sum_capped low (terms Side.Up kind f a (suc i)) cap)) (lt-ltb i low less) ∙ omega (arith, nothing))
      (λ later. ap (λ b. cond b 0 (sum_capped low (terms Side.Up kind f a (suc i)) cap)) (le-ltb i low later)
      ∙ ap (λ b. cond b (min (summed Side.Up (suc i)) cap) cap) fit)
      (cases_lt i low)

  pub part_up-first : (t cap : ℕ) → t ≡ term Side.Up kind 0 (2 ^ f) → f ≤ 56 → part_up kind f a low 0 cap ≡ min (kept low 0 t) cap
  part_up-first t cap is bits =
      let here : summed Side.Up 1 ≡ summed Side.Up 0 + kept low 0 t = summed-next Side.Up 0 ∙ ap (λ n. summed Side.Up 0 + kept low 0 n) (sym is) in
      omega (arith, up-is 0 cap (fitting-first Side.Up kind f a bits), here, nothing_summed Side.Up)

  pub part_up-next : (i next t cap : ℕ) → next ≡ i + 1 → t ≡ term Side.Up kind next (carried Side.Up kind f a next) → AllFit Side.Up kind f a i → AllFit Side.Up kind f a next → part_up kind f a low next cap ≡ min (part_up kind f a low i cap + kept low next t) cap
  part_up-next i next t cap same is fit fit_next =
      let one_more : suc i ≡ next = omega arith in
      let step : summed Side.Up (suc next) ≡ summed Side.Up next + kept low next t = summed-next Side.Up next ∙ ap (λ n. summed Side.Up next + kept low next n) (sym is) in
      let before : part_up kind f a low i cap ≡ min (summed Side.Up next) cap = up-is i cap fit ∙ ap (λ n. min (summed Side.Up n) cap) one_more in
      omega (arith, up-is next cap fit_next, step, before)

  zero_on : (i : ℕ) → carried_on Side.Down kind f a i 0 ≡ 0
  zero_on i = let none : 0 * a ≡ 0 = omega arith in ap (λ n. n / (divisor kind (suc i) * 2 ^ f)) none ∙ zero-div (divisor kind (suc i) * 2 ^ f)

  none_carried : (i : ℕ) → carried Side.Down kind f a i ≡ 0 → carried Side.Down kind f a (i + 1) ≡ 0
  none_carried i here = let same : suc i ≡ i + 1 = omega arith in subst (λ n. carried Side.Down kind f a n ≡ 0) same (ap (λ c. carried_on Side.Down kind f a i c) here ∙ zero_on i)

  -- at a place the terms up to it have 64 bits, and the number carried to it is 0
  record IsSpent (i : ℕ) : Type 0 where
    pub none : carried Side.Down kind f a i ≡ 0
    pub fit : AllFit Side.Down kind f a i

  spent-on : (i : ℕ) → IsSpent i → IsSpent (i + 1)
  spent-on i here = record { none = none_carried i here.none; fit = fitting-next Side.Down kind f a i (i + 1) 0 refl (sym (none_carried i here.none)) (omega arith) here.fit }

  none_added : (i : ℕ) → IsSpent i → part_down kind f a low (i + 1) ≡ part_down kind f a low i
  none_added i here =
      let after = spent-on i here in
      let term_is : 0 ≡ term Side.Down kind (i + 1) (carried Side.Down kind f a (i + 1)) = sym (ap (term Side.Down kind (i + 1)) after.none ∙ no_term kind (i + 1)) in
      let next = part_down-next i (i + 1) 0 refl term_is here.fit after.fit in
      let nothing : kept low (i + 1) 0 ≡ 0 = ⊎_elim (λ b. kept-before low (i + 1) 0 b) (λ l. kept-after low (i + 1) 0 l) (cases_lt (i + 1) low) in
      omega (arith, next, nothing, part_down-fits kind f a low i)
    where
      no_term : (k : Kind) (j : ℕ) → term Side.Down k j 0 ≡ 0
      no_term Kind.Seq j = refl
      no_term Kind.Set j = refl
      no_term Kind.Cyc zero = refl
      no_term Kind.Cyc (suc j) = zero-div (suc j)

  -- after a number carried of 0 the lower value stays
  record Stays (i j : ℕ) : Type 0 where
    pub spent : IsSpent j
    pub same : part_down kind f a low j ≡ part_down kind f a low i

  stays_by : (j d : ℕ) → IsSpent j → Stays j (j + d)
  stays_by j zero here = let same : j ≡ j + 0 = omega arith in subst (Stays j) same (record { spent = here; same = refl })
  stays_by j (suc d) here =
      let before = stays_by j d here in
      let same : j + d + 1 ≡ j + suc d = omega arith in
      subst (Stays j) same (record { spent = spent-on (j + d) before.spent; same = none_added (j + d) before.spent ∙ before.same })

  pub part_down-stays : (i j : ℕ) → i ≤ j → carried Side.Down kind f a i ≡ 0 → AllFit Side.Down kind f a i → part_down kind f a low j ≡ part_down kind f a low i
  part_down-stays i j h none fit = let same : i + (j - i) ≡ j = omega arith in subst (λ n. part_down kind f a low n ≡ part_down kind f a low i) same (stays_by i (j - i) (record { none = none; fit = fit })).same

-- the upper value up to a later option is at least as great, whatever the part's value
capped-grows : (low cap t : ℕ) (ts : List ℕ) → sum_capped low ts cap ≤ sum_capped low (ts ++ t ∷ []) cap
capped-grows low cap t ts =
    subst (λ b. sum_capped low ts cap ≤ cond b (min (sum (drop low (ts ++ t ∷ []))) cap) cap) (sym (list_all-append fits ts (t ∷ [])))
    (elim (list_all fits ts) as (λ b. cond b (min (sum (drop low ts)) cap) cap ≤ cond (b && list_all fits (t ∷ [])) (min (sum (drop low (ts ++ t ∷ []))) cap) cap) [
      | true ↦ elim (list_all fits (t ∷ [])) as (λ b. min (sum (drop low ts)) cap ≤ cond b (min (sum (drop low (ts ++ t ∷ []))) cap) cap) [
        | true ↦ omega (arith, dropped-next low (length ts) ts t refl)
        | false ↦ omega arith
      ]
      | false ↦ le_refl cap
    ])

part_up-grows : (kind : Kind) (f a low i cap : ℕ) → part_up kind f a low i cap ≤ part_up kind f a low (suc i) cap
part_up-grows kind f a low i cap = ⊎_elim
    (λ less. let none : part_up kind f a low i cap ≡ 0 = ap (λ b. cond b 0 (sum_capped low (terms Side.Up kind f a (suc i)) cap)) (lt-ltb i low less) in omega arith)
    (λ later.
    let more : OneMore (terms Side.Up kind f a (suc i)) (terms Side.Up kind f a (suc (suc i))) = terms_from-more Side.Up kind f a (suc i) 0 (2 ^ f) in
    let here : part_up kind f a low i cap ≡ sum_capped low (terms Side.Up kind f a (suc i)) cap = ap (λ b. cond b 0 (sum_capped low (terms Side.Up kind f a (suc i)) cap)) (le-ltb i low later) in
    let next : part_up kind f a low (suc i) cap ≡ sum_capped low (terms Side.Up kind f a (suc (suc i))) cap = ap (λ b. cond b 0 (sum_capped low (terms Side.Up kind f a (suc (suc i))) cap)) (le-ltb (suc i) low (omega arith)) in
    let grown : sum_capped low (terms Side.Up kind f a (suc i)) cap ≤ sum_capped low (terms Side.Up kind f a (suc (suc i))) cap = subst (λ ts. sum_capped low (terms Side.Up kind f a (suc i)) cap ≤ sum_capped low ts cap) (sym more.split) (capped-grows low cap more.last (terms Side.Up kind f a (suc i))) in
    omega arith)
    (cases_lt i low)

up_by : (kind : Kind) (f a low i cap d : ℕ) → part_up kind f a low i cap ≤ part_up kind f a low (i + d) cap
up_by kind f a low i cap zero = let same : i ≡ i + 0 = omega arith in subst (λ j. part_up kind f a low i cap ≤ part_up kind f a low j cap) same (le_refl (part_up kind f a low i cap))
up_by kind f a low i cap (suc d) =
    let less = up_by kind f a low i cap d in
    let next = part_up-grows kind f a low (i + d) cap in
    let same : suc (i + d) ≡ i + suc d = omega arith in
    subst (λ j. part_up kind f a low i cap ≤ part_up kind f a low j cap) same (omega arith)

-- The upper value from low parts to i parts, with a cap, doesn't decrease as i grows.
pub part_up-later : (kind : Kind) (f a low i j cap : ℕ) → i ≤ j → part_up kind f a low i cap ≤ part_up kind f a low j cap
part_up-later kind f a low i j cap h = let same : i + (j - i) ≡ j = omega arith in subst (λ k. part_up kind f a low i cap ≤ part_up kind f a low k cap) same (up_by kind f a low i cap (j - i))
