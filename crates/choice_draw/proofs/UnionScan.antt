-- What a pass over the parts of a union keeps, and the choice that it ends with.
use Rattle.std.proofs.Common.{◌≡◌, ℕ, suc, ◌+◌, ◌-◌, ◌*◌, ◌^◌, ◌<◌, ◌≤◌, ◌⊎◌, inl, inr, min, length, List, [], ◌∷◌, ◌++◌, map, take, sum, get_or, arith, refl, sym, ◌∙◌, ap, subst, Option, Some, None, Bool, true, false, cond, ◌||◌, ⊎_elim}
use Rattle.std.specs.Prelude.{nat_eq, nat_le}
use Rattle.std.specs.Bool.{then_some}
use Rattle.std.proofs.Math.Seq.{take-suc}
use Rattle.std.proofs.lemmas.Bool.{cases_lt, cases_Bool, eqb-true, eq-eqb, or_from}
use Rattle.std.proofs.lemmas.List.{map-append}
use Rattle.std.proofs.lemmas.List.Sums.{sum_by-append, sum_by-cons}
use Rattle.bz_model.specs.declared.cell.Cell.{Cell}
use Rattle.bz_model.specs.declared.cell.Bounds.{Bounds}
use Rattle.choice_draw.specs.Decision.{Choice, capped_lower_sum, union_options, is_last, ends_before, begins_after, is_reached, choice_of, taken}
use Rattle.choice_draw.proofs.LeastPassing.{IsLeastPassing}
use Rattle.choice_draw.proofs.Choices.{choice-is_taken, choice-unreached}

-- what a cell decides at a union, from the bounds of a level
abbrev pub union_choice_at : (table : (level node : ℕ) → Bounds) → (level e : ℕ) → (parts : List ℕ) → Cell → Option Choice
union_choice_at table level e parts cell = choice_of (union_options (table level) e parts) cell

-- An option that is kept only where a test holds is taken where it holds, and where it fails there
-- is no choice.
pub taken-then_some : (b : Bool) (i : ℕ) → taken (then_some b i) ≡ cond b (Some (Choice.Take i)) None
taken-then_some true i = refl
taken-then_some false i = refl

-- the part passes the first test, or is the last
abbrev pub passes_at : (node : ℕ → Bounds) → (e : ℕ) → (parts : List ℕ) → Cell → (i : ℕ) → Bool
passes_at node e parts cell i = is_last (Some (length parts - 1)) i || ends_before (union_options node e parts) cell i

-- the first i parts are passed: the sums of their bounds, and that none of them passes the first test
pub record IsScanned (node : ℕ → Bounds) (e : ℕ) (parts : List ℕ) (cell : Cell) (i lo before : ℕ) : Type 0 where
  pub lower : lo ≡ capped_lower_sum 0 (map (λ p. (node p).lo) (take i parts))
  pub upper : before ≡ min (sum (map (λ p. (node p).hi) (take i parts))) (2 ^ 64 - 1)
  pub none_passes : (j : ℕ) → j < i → passes_at node e parts cell j ≡ false

added_down-append : (v w : ℕ) (ws : List ℕ) → capped_lower_sum v (ws ++ w ∷ []) ≡ min (capped_lower_sum v ws + w) (2 ^ 64 - 1)
added_down-append v w [] = refl
added_down-append v w (u ∷ ws) = added_down-append (min (v + u) (2 ^ 64 - 1)) w ws

sum-append : (w : ℕ) (ws : List ℕ) → sum (ws ++ w ∷ []) ≡ sum ws + w
sum-append w ws = sum_by-append (λ n. n) ws (w ∷ []) ∙ ap (λ n. sum ws + n) (sum_by-cons (λ n. n) w [] ∙ omega arith)

or_right : (a b : Bool) → b ≡ true → (a || b) ≡ true
or_right true b h = refl
or_right false b h = h

not_equal : (a b : ℕ) → (a ≡ b → ⊥) → nat_eq a b ≡ false
not_equal a b ne = ⊎_elim (λ same. absurd (ne (eqb-true a b same))) (λ differ. differ) (cases_Bool (nat_eq a b))

-- one part more, of what is said of each
map_take-suc : (f : ℕ → ℕ) (parts : List ℕ) (i p : ℕ) → i < length parts → get_or parts i 0 ≡ p → map f (take (suc i) parts) ≡ map f (take i parts) ++ f p ∷ []
map_take-suc f parts i p inside at = ap (map f) (take-suc parts i 0 inside) ∙ map-append f (take i parts) (get_or parts i 0 ∷ []) ∙ ap (λ q. map f (take i parts) ++ f q ∷ []) at

module _ (node : ℕ → Bounds) (e : ℕ) (parts : List ℕ) (cell : Cell) (i lo before p next : ℕ) (scan : IsScanned node e parts cell i lo before) (inside : i < length parts) (at : get_or parts i 0 ≡ p) (next_is : next ≡ min (lo + (node p).lo) (2 ^ 64 - 1)) where
  lower_sum : capped_lower_sum 0 (map (λ q. (node q).lo) (take (suc i) parts)) ≡ next
  lower_sum =
      ap (capped_lower_sum 0) (map_take-suc (λ q. (node q).lo) parts i p inside at)
      ∙ added_down-append 0 (node p).lo (map (λ q. (node q).lo) (take i parts))
      ∙ ap (λ n. min (n + (node p).lo) (2 ^ 64 - 1)) (sym scan.lower)
      ∙ sym next_is

  upper_sum : sum (map (λ q. (node q).hi) (take (suc i) parts)) ≡ sum (map (λ q. (node q).hi) (take i parts)) + (node p).hi
  upper_sum = ap sum (map_take-suc (λ q. (node q).hi) parts i p inside at) ∙ sum-append (node p).hi (map (λ q. (node q).hi) (take i parts))

  ends : ends_before (union_options node e parts) cell i ≡ nat_le (suc cell.k * (node e).hi) (2 ^ cell.b * next)
  ends = ap (λ n. nat_le (suc cell.k * (node e).hi) (2 ^ cell.b * n)) lower_sum

  -- a part that fails the first test is passed
  pub scan-step : (next_before : ℕ) → next_before ≡ min (before + (node p).hi) (2 ^ 64 - 1) → (i + 1 ≡ length parts → ⊥) → nat_le (suc cell.k * (node e).hi) (2 ^ cell.b * next) ≡ false → IsScanned node e parts cell (i + 1) next next_before
  scan-step next_before before_is not_last fails = record {
    lower = subst (λ n. next ≡ capped_lower_sum 0 (map (λ q. (node q).lo) (take n parts))) one_more (sym lower_sum);
    upper = subst (λ n. next_before ≡ min (sum (map (λ q. (node q).hi) (take n parts))) (2 ^ 64 - 1)) one_more (omega (arith, scan.upper, upper_sum));
    none_passes = λ j less. ⊎_elim
        (λ earlier. scan.none_passes j earlier)
        (λ now. let same : i ≡ j = omega arith in subst (λ n. passes_at node e parts cell n ≡ false) same (or_from _ _ (not_equal i (length parts - 1) (λ last. not_last (omega arith))) (ends ∙ fails)))
        (cases_lt j i);
  }
    where
      one_more : suc i ≡ i + 1
      one_more = omega arith

  -- the part is the least that passes
  scan-least : (i + 1 ≡ length parts) ⊎ (nat_le (suc cell.k * (node e).hi) (2 ^ cell.b * next) ≡ true) → IsLeastPassing (λ j. passes_at node e parts cell j) (length parts) 0 i
  scan-least passing = record {
    from = omega arith;
    below = omega arith;
    passing = ⊎_elim (λ last. ap (λ b. b || ends_before (union_options node e parts) cell i) (eq-eqb i (length parts - 1) (omega arith))) (λ passed. or_right (nat_eq i (length parts - 1)) _ (ends ∙ passed)) passing;
    none_before = λ j from less. scan.none_passes j less;
  }

  begins : 0 < i → (node e).hi ≤ 2 ^ 64 - 1 → begins_after (union_options node e parts) cell (i - 1) ≡ nat_le (2 ^ cell.b * min before (node e).hi) (cell.k * (node e).lo)
  begins later fits = ap (λ n. nat_le (2 ^ cell.b * n) (cell.k * (node e).lo)) least
    where
      least : min (node e).hi (sum (map (λ q. (node q).hi) (take (suc (i - 1)) parts))) ≡ min before (node e).hi
      least = let back : suc (i - 1) ≡ i = omega arith in subst (λ n. min (node e).hi (sum (map (λ q. (node q).hi) (take n parts))) ≡ min before (node e).hi) (sym back) (omega (arith, scan.upper))

  -- whether the part is reached, as the code computes it
  reached_is : (reached : Bool) → (node e).hi ≤ 2 ^ 64 - 1 → ((i ≡ 0) × (reached ≡ true)) ⊎ ((i ≡ 0 → ⊥) × (reached ≡ nat_le (2 ^ cell.b * min before (node e).hi) (cell.k * (node e).lo))) → is_reached (union_options node e parts) cell i ≡ reached
  reached_is reached fits (inl first) = ap (λ b. b || begins_after (union_options node e parts) cell (i - 1)) (eq-eqb i 0 first.0) ∙ sym first.1
  reached_is reached fits (inr later) = ap (λ b. b || begins_after (union_options node e parts) cell (i - 1)) (not_equal i 0 later.0) ∙ begins (let ne = later.0 in omega (arith, ne)) fits ∙ sym later.1

  -- the least part that passes is taken where it is reached, and else nothing is decided
  pub scan-choice : (i + 1 ≡ length parts) ⊎ (nat_le (suc cell.k * (node e).hi) (2 ^ cell.b * next) ≡ true) → (reached : Bool) → (node e).hi ≤ 2 ^ 64 - 1 → ((i ≡ 0) × (reached ≡ true)) ⊎ ((i ≡ 0 → ⊥) × (reached ≡ nat_le (2 ^ cell.b * min before (node e).hi) (cell.k * (node e).lo))) → choice_of (union_options node e parts) cell ≡ cond reached (Some (Choice.Take i)) None
  scan-choice passing true fits how = choice-is_taken (union_options node e parts) cell i (record { least = scan-least passing; reached = reached_is true fits how })
  scan-choice passing false fits how = choice-unreached (union_options node e parts) cell i (scan-least passing) (reached_is false fits how)
