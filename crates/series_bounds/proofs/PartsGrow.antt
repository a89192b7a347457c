-- The lower value up to an option grows with the option.
use Rattle.std.proofs.Common.{◌≡◌, ℕ, zero, suc, ◌+◌, ◌^◌, ◌≤◌, true, false, List, [], ◌∷◌, ◌++◌, length, take, drop, cond, refl, sym, ◌∙◌, subst, ap, arith, ⊎_elim}
use Rattle.std.specs.Prelude.{sum}
use Rattle.std.specs.List.{list_all}
use Rattle.std.proofs.Math.Nat.{le_refl}
use Rattle.std.proofs.lemmas.Bool.{cases_lt}
use Rattle.std.proofs.lemmas.List.{drop-append-le, take-append-le}
use Rattle.std.proofs.lemmas.List.Sums.{sum_by-append}
use Rattle.fixed_enclosure.specs.Rounded.{saturated, fits, Side}
use Rattle.series_bounds.specs.Series.{Kind, carried_on, term, terms_from, terms, sum_down, part_down}

-- One more term stands at the end.
pub record OneMore (shorter longer : List ℕ) : Type 0 where
  pub last : ℕ
  pub split : longer ≡ shorter ++ last ∷ []

-- The n + 1 terms from term j on are the n terms from term j on with one more at the end.
pub terms_from-more : (side : Side) (kind : Kind) (f a n j c : ℕ) → OneMore (terms_from side kind f a n j c) (terms_from side kind f a (suc n) j c)
terms_from-more side kind f a zero j c = record { last = term side kind j c; split = refl }
terms_from-more side kind f a (suc n) j c =
    let rest : OneMore (terms_from side kind f a n (suc j) (carried_on side kind f a j c)) (terms_from side kind f a (suc n) (suc j) (carried_on side kind f a j c)) = terms_from-more side kind f a n (suc j) (carried_on side kind f a j c) in
    record { last = rest.last; split = ap (λ ts. term side kind j c ∷ ts) rest.split }

-- Nothing is left of a list of at most n elements when n are dropped.
pub drop-short : (n : ℕ) (xs : List ℕ) → length xs ≤ n → drop n xs ≡ []
drop-short zero [] h = refl
drop-short zero (x ∷ xs) h = let none : ⊥ = omega arith in absurd none
drop-short (suc n) [] h = refl
drop-short (suc n) (x ∷ xs) h = drop-short n xs (omega arith)

saturated-grows : (a b : ℕ) → a ≤ b → saturated a ≤ saturated b
saturated-grows a b h = omega arith

pub sum_down-grows : (low : ℕ) (ts : List ℕ) (t : ℕ) → sum_down low ts ≤ sum_down low (ts ++ t ∷ [])
sum_down-grows low ts t = ⊎_elim
    (λ short. let none : drop low ts ≡ [] = drop-short low ts (omega arith) in
    subst (λ ds. cond (list_all fits (take low ts)) (saturated (sum ds)) 0 ≤ sum_down low (ts ++ t ∷ [])) (sym none)
    (elim (list_all fits (take low ts)) as (λ b. cond b (saturated (sum [])) 0 ≤ sum_down low (ts ++ t ∷ [])) [ true ↦ omega arith | false ↦ omega arith ]))
    (λ long. let front : take low (ts ++ t ∷ []) ≡ take low ts = take-append-le low ts (t ∷ []) long in
    let back : drop low (ts ++ t ∷ []) ≡ drop low ts ++ t ∷ [] = drop-append-le low ts (t ∷ []) long in
    let whole : sum (drop low (ts ++ t ∷ [])) ≡ sum (drop low ts) + sum (t ∷ []) = ap sum back ∙ sum_by-append (λ x. x) (drop low ts) (t ∷ []) in
    subst (λ xs. sum_down low ts ≤ cond (list_all fits xs) (saturated (sum (drop low (ts ++ t ∷ [])))) 0) (sym front)
    (elim (list_all fits (take low ts)) as (λ b. cond b (saturated (sum (drop low ts))) 0 ≤ cond b (saturated (sum (drop low (ts ++ t ∷ [])))) 0) [
      | true ↦ saturated-grows (sum (drop low ts)) (sum (drop low (ts ++ t ∷ []))) (omega arith)
      | false ↦ le_refl 0
    ]))
    (cases_lt (length ts) low)

-- The value up to one more part is at least as great.
pub part_down-grows : (kind : Kind) (f a low i : ℕ) → part_down kind f a low i ≤ part_down kind f a low (suc i)
part_down-grows kind f a low i =
    let more : OneMore (terms Side.Down kind f a (suc i)) (terms Side.Down kind f a (suc (suc i))) = terms_from-more Side.Down kind f a (suc i) 0 (2 ^ f) in
    subst (λ ts. part_down kind f a low i ≤ sum_down low ts) (sym more.split) (sum_down-grows low (terms Side.Down kind f a (suc i)) more.last)
