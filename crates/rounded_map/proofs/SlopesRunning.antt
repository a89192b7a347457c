-- The sum of a derivative's terms, as it runs.
use Rattle.std.proofs.Common.{◌≡◌, ℕ, zero, suc, ◌+◌, ◌-◌, ◌^◌, ◌<◌, Bool, true, false, ◌&&◌, List, [], ◌∷◌, drop, Option, Some, None, refl, sym, ap, ◌∙◌, arith, cond}
use Rattle.std.specs.Prelude.{sum, nat_lt}
use Rattle.std.specs.List.{list_all}
use Rattle.std.proofs.lemmas.List.Sums.{sum_by-cons}
use Rattle.std.proofs.lemmas.Bool.{ltb-true, ltb-false}
use Rattle.fixed_enclosure.specs.Rounded.{Side, fits, if_fits}
use Rattle.fixed_enclosure.proofs.Quotients.{fitting, guarded}
use Rattle.series_bounds.specs.Series.{Kind, carried_on, term, terms_from, terms}
use Rattle.rounded_map.specs.Derivative.{slope_kind, slope_term, slope_terms, slope_ranged}
use Rattle.rounded_map.specs.SlopeSums.{slope_kept, slope_run, slope_between}

zero_drop : (n : ℕ) → sum (drop n []) ≡ 0
zero_drop zero = refl
zero_drop (suc n) = refl

kept-sum : (kind : Kind) (low j s p : ℕ) (ps : List ℕ) → s + sum (drop (low - j) (slope_terms kind j (p ∷ ps))) ≡ (s + slope_kept kind low j p) + sum (drop (low - suc j) (slope_terms kind (suc j) ps))
kept-sum kind low j s p ps = go (nat_lt j low) refl
  where
    rest : List ℕ
    rest = slope_terms kind (suc j) ps

    go : (b : Bool) → nat_lt j low ≡ b → s + sum (drop (low - j) (slope_term kind j p ∷ slope_terms kind (suc j) ps)) ≡ (s + cond b 0 (slope_term kind j p)) + sum (drop (low - suc j) (slope_terms kind (suc j) ps))
    go true is =
        let more : low - j ≡ suc (low - suc j) = (let below : j < low = ltb-true j low is in omega arith) in
        ap (λ (n : ℕ). s + sum (drop n (slope_term kind j p ∷ slope_terms kind (suc j) ps))) more ∙ omega arith
    go false is =
        let none : low - j ≡ 0 = (let past = ltb-false j low is in omega arith) in
        let later : low - suc j ≡ 0 = (let past = ltb-false j low is in omega arith) in
        ap (λ (n : ℕ). s + sum (drop n (slope_term kind j p ∷ slope_terms kind (suc j) ps))) none
        ∙ omega (arith, sum_by-cons (λ x. x) (slope_term kind j p) (slope_terms kind (suc j) ps))
        ∙ sym (ap (λ (n : ℕ). (s + slope_term kind j p) + sum (drop n (slope_terms kind (suc j) ps))) later)

run-whole : (kind : Kind) (low j s : ℕ) (ps : List ℕ) → slope_run kind low j s ps ≡ cond (list_all fits ps) (if_fits (s + sum (drop (low - j) (slope_terms kind j ps)))) None
run-whole kind low j s [] = ap if_fits (sym (omega (arith, zero_drop (low - j))))
run-whole kind low j s (p ∷ ps) = go (fits p) (run-whole kind low (suc j) (s + slope_kept kind low j p) ps)
  where
    go : (b : Bool) → slope_run kind low (suc j) (s + slope_kept kind low j p) ps ≡ cond (list_all fits ps) (if_fits ((s + slope_kept kind low j p) + sum (drop (low - suc j) (slope_terms kind (suc j) ps)))) None → cond b (slope_run kind low (suc j) (s + slope_kept kind low j p) ps) None ≡ cond (b && list_all fits ps) (if_fits (s + sum (drop (low - j) (slope_terms kind j (p ∷ ps))))) None
    go true later = later ∙ ap (λ (n : ℕ). cond (list_all fits ps) (if_fits n) None) (sym (kept-sum kind low j s p ps))
    go false later = refl

-- The sum begins with the first term.
pub slope-begins : (kind : Kind) (f low high v : ℕ) → slope_run kind low 1 0 (terms_from Side.Up (slope_kind kind) f v high 0 (2 ^ f)) ≡ slope_between kind f low high v
unfolding slope_between
slope-begins kind f low high v =
    let ps = terms Side.Up (slope_kind kind) f v high in
    run-whole kind low 1 0 ps ∙ ap (λ (n : ℕ). cond (list_all fits ps) (if_fits n) None) (from_zero (sum (drop (low - 1) (slope_terms kind 1 ps))))
  where
    from_zero : (n : ℕ) → 0 + n ≡ n
    from_zero n = omega arith

-- The term of a derivative's series is the number carried to it.
is_carried : (kind : Kind) (j c : ℕ) → term Side.Up (slope_kind kind) j c ≡ c
is_carried Kind.Seq j c = refl
is_carried Kind.Set j c = refl
is_carried Kind.Cyc j c = refl

-- The rest of a sum with a term more.
opened : (kind : Kind) (low j s f v n m c : ℕ) → n ≡ suc m → slope_run kind low (suc j) s (terms_from Side.Up (slope_kind kind) f v n j c) ≡ cond (fits c) (slope_run kind low (suc (suc j)) (s + slope_kept kind low (suc j) c) (terms_from Side.Up (slope_kind kind) f v m (suc j) (carried_on Side.Up (slope_kind kind) f v j c))) None
opened kind low j s f v n m c count =
    ap (λ (k : ℕ). slope_run kind low (suc j) s (terms_from Side.Up (slope_kind kind) f v k j c)) count
    ∙ ap (λ (p : ℕ). slope_run kind low (suc j) s (p ∷ terms_from Side.Up (slope_kind kind) f v m (suc j) (carried_on Side.Up (slope_kind kind) f v j c))) (is_carried kind j c)

-- One term more, which fits.
pub slope-more : (kind : Kind) (low j s f v n m c p next added : ℕ) (whole : Option ℕ) → n ≡ suc m → if_fits c ≡ Some p → next ≡ carried_on Side.Up (slope_kind kind) f v j p → added ≡ slope_kept kind low (j + 1) p → slope_run kind low (suc j) s (terms_from Side.Up (slope_kind kind) f v n j c) ≡ whole → slope_run kind low (suc (j + 1)) (s + added) (terms_from Side.Up (slope_kind kind) f v m (j + 1) next) ≡ whole
slope-more kind low j s f v n m c p next added whole count fit next_is added_is so_far =
    let g = guarded (fits c) (Some c) fit in
    let same : c ≡ p = fitting (fits c) c fit in
    let one : j + 1 ≡ suc j = omega arith in
    let inner : slope_run kind low (suc (suc j)) (s + slope_kept kind low (suc j) c) (terms_from Side.Up (slope_kind kind) f v m (suc j) (carried_on Side.Up (slope_kind kind) f v j c)) ≡ whole =
    sym (ap (λ b. cond b (slope_run kind low (suc (suc j)) (s + slope_kept kind low (suc j) c) (terms_from Side.Up (slope_kind kind) f v m (suc j) (carried_on Side.Up (slope_kind kind) f v j c))) None) g.0) ∙ sym (opened kind low j s f v n m c count) ∙ so_far in
    let next_here : next ≡ carried_on Side.Up (slope_kind kind) f v j c = next_is ∙ ap (carried_on Side.Up (slope_kind kind) f v j) (sym same) in
    let added_here : added ≡ slope_kept kind low (suc j) c = added_is ∙ ap (λ (i : ℕ). slope_kept kind low i p) one ∙ ap (slope_kept kind low (suc j)) (sym same) in
    ap (λ (i : ℕ). slope_run kind low (suc i) (s + added) (terms_from Side.Up (slope_kind kind) f v m i next)) one
    ∙ ap (λ (q : ℕ). slope_run kind low (suc (suc j)) (s + added) (terms_from Side.Up (slope_kind kind) f v m (suc j) q)) next_here
    ∙ ap (λ (q : ℕ). slope_run kind low (suc (suc j)) (s + q) (terms_from Side.Up (slope_kind kind) f v m (suc j) (carried_on Side.Up (slope_kind kind) f v j c))) added_here
    ∙ inner

-- A term that doesn't fit.
pub slope-stops : (kind : Kind) (low j s f v n m c : ℕ) (whole : Option ℕ) → n ≡ suc m → if_fits c ≡ None → slope_run kind low (suc j) s (terms_from Side.Up (slope_kind kind) f v n j c) ≡ whole → None ≡ whole
slope-stops kind low j s f v n m c whole count fit so_far = go (fits c) fit (sym (opened kind low j s f v n m c count) ∙ so_far)
  where
    go : (b : Bool) → cond b (Some c) None ≡ None → cond b (slope_run kind low (suc (suc j)) (s + slope_kept kind low (suc j) c) (terms_from Side.Up (slope_kind kind) f v m (suc j) (carried_on Side.Up (slope_kind kind) f v j c))) None ≡ whole → None ≡ whole
    go true wrong rest = absurd (cc)
    go false none rest = rest

-- No term is left.
pub slope-ends : (kind : Kind) (low j s f v n c : ℕ) (whole : Option ℕ) → n ≡ 0 → slope_run kind low (suc j) s (terms_from Side.Up (slope_kind kind) f v n j c) ≡ whole → if_fits s ≡ whole
slope-ends kind low j s f v n c whole none so_far = sym (ap (λ (k : ℕ). slope_run kind low (suc j) s (terms_from Side.Up (slope_kind kind) f v k j c)) none) ∙ so_far

-- The first state of a sum.
pub slope-first : (kind : Kind) (f low high v n c : ℕ) → n ≡ high → c ≡ 2 ^ f → slope_run kind low 1 0 (terms_from Side.Up (slope_kind kind) f v n 0 c) ≡ slope_between kind f low high v
slope-first kind f low high v n c count first =
    ap (λ (k : ℕ). slope_run kind low 1 0 (terms_from Side.Up (slope_kind kind) f v k 0 c)) count
    ∙ ap (λ (d : ℕ). slope_run kind low 1 0 (terms_from Side.Up (slope_kind kind) f v high 0 d)) first
    ∙ slope-begins kind f low high v

-- The derivative of a range with a high and of one without.
pub slope-with_high : (kind : Kind) (f low high v : ℕ) (o : Option ℕ) → o ≡ Some high → slope_between kind f low high v ≡ slope_ranged kind f low o v
unfolding slope_between
slope-with_high kind f low high v o is = ap (λ (h : Option ℕ). slope_ranged kind f low h v) (sym is)
