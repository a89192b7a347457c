-- What a cell of few bits decides by a table is what it decides by the bounds of its level.
use Rattle.std.proofs.Common.{◌≡◌, ℕ, zero, suc, ◌+◌, ◌-◌, ◌*◌, ◌/◌, ◌^◌, ◌<◌, ◌≤◌, ◌⊎◌, min, List, [], ◌∷◌, ◌++◌, length, map, take, sum, get_or, replicate, arith, refl, sym, ◌∙◌, ap, subst, Some, None, inl, inr, ⊎_elim}
use mathlib.Core.Path.{fun_ext}
use Rattle.std.proofs.Math.Nat.{mul-le-mul_right}
use Rattle.std.proofs.lemmas.Bool.{cases_lt}
use Rattle.std.proofs.lemmas.List.{length-map, length-replicate, take-append-le, take_all}
use Rattle.std.proofs.lemmas.Nat.{pow_pos, pow-add, div-mul-add, shr-shr}
use Rattle.bz_model.specs.declared.cell.Cell.{Cell}
use Rattle.bz_model.specs.declared.cell.Bounds.{Bounds}
use Rattle.class_system.specs.Views.{number}
use Rattle.class_system.specs.declared.ids.ExprId.{ExprId}
use Rattle.choice_draw.specs.declared.kept.FirstChoice.{FirstChoice}
use Rattle.choice_draw.specs.Decision.{Options, capped_lower_sum, choice_of, level_of, union_options, union_choice}
use Rattle.choice_draw.specs.LeastCell.{front_of}
use Rattle.choice_draw.specs.KeptChoices.{KeptBounds, bounds_at, options_by, choice_at, choice_by, TakesFirst, AreBoundsOf, AreFor, AreKept, first_of, kept_at}
use Rattle.choice_draw.proofs.WholeNumbers.{quotient_is}

map_take : (f : ℕ → Bounds) (g : Bounds → ℕ) (n : ℕ) (ps : List ℕ) → map g (take n (map f ps)) ≡ map (λ p. g (f p)) (take n ps)
map_take f g zero [] = refl
map_take f g zero (p ∷ ps) = refl
map_take f g (suc n) [] = refl
map_take f g (suc n) (p ∷ ps) = ap (λ xs. g (f p) ∷ xs) (map_take f g n ps)

-- the options of a union by their number and by the bounds of the objects up to one
abbrev options_from : Bounds → ℕ → (ℕ → ℕ) → (ℕ → ℕ) → Options
options_from whole n down up = record { whole = whole; first = 0; count = n; last = Some (n - 1); upto_down = down; upto_up = up; room = None }

options_same : (node : ℕ → Bounds) (e : ℕ) (parts : List ℕ) → options_by (node e) (map node parts) ≡ union_options node e parts
options_same node e parts =
    let down : ℕ → ℕ = λ i. capped_lower_sum 0 (map (λ b. b.lo) (take (suc i) (map node parts))) in
    let down_by : ℕ → ℕ = λ i. capped_lower_sum 0 (map (λ p. (node p).lo) (take (suc i) parts)) in
    let up : ℕ → ℕ = λ i. min (node e).hi (sum (map (λ b. b.hi) (take (suc i) (map node parts)))) in
    let up_by : ℕ → ℕ = λ i. min (node e).hi (sum (map (λ p. (node p).hi) (take (suc i) parts))) in
    let downs : down ≡ down_by = fun_ext (λ i. ap (capped_lower_sum 0) (map_take node (λ b. b.lo) (suc i) parts)) in
    let ups : up ≡ up_by = fun_ext (λ i. ap (λ xs. min (node e).hi (sum xs)) (map_take node (λ b. b.hi) (suc i) parts)) in
    ap (λ n. options_from (node e) n down up) (length-map parts node)
    ∙ ap (λ d. options_from (node e) (length parts) d up) downs
    ∙ ap (λ u. options_from (node e) (length parts) down_by u) ups

module _ (table : (level node : ℕ) → Bounds) (e : ℕ) (parts : List ℕ) (kept : KeptBounds) where
  choice_there : (cell : Cell) (level : ℕ) → level_of cell ≡ level → AreBoundsOf (table level) e parts (bounds_at kept level) → union_choice table e parts cell ≡ choice_by kept cell
  choice_there cell level is here =
      ap (λ l. choice_of (union_options (table l) e parts) cell) is
      ∙ ap (λ o. choice_of o cell) (sym (options_same (table level) e parts))
      ∙ ap (λ w. choice_of (options_by w (map (table level) parts)) cell) (sym here.whole)
      ∙ ap (λ ps. choice_of (options_by (bounds_at kept level).whole ps) cell) (sym here.parts)
      ∙ ap (λ l. choice_at (bounds_at kept l) cell) (sym is)

  module _ (bits : ℕ) (here : AreFor table e parts bits kept) where
    choice_same : (cell : Cell) → 1 ≤ cell.b → cell.b ≤ 11 → cell.b ≤ bits → union_choice table e parts cell ≡ choice_by kept cell
    choice_same cell some few within = ⊎_elim
        (λ less. choice_there cell 1 (omega arith) here.first)
        (λ more. choice_there cell 2 (omega arith) (here.second (omega arith)))
        (cases_lt cell.b 11)

    -- what the table takes first is what the bounds take first
    pub takes-by : (i : ℕ) (cell : Cell) → cell.b ≤ bits → TakesFirst (union_choice table e parts) i cell → TakesFirst (choice_by kept) i cell
    takes-by i cell within h = record {
      is_cell = h.is_cell;
      few = h.few;
      takes = let some = h.is_cell.some_bits in sym (choice_same cell some h.few within) ∙ h.takes;
      none_before = λ b from less. let few = h.few in sym (choice_same (front_of cell b) from (omega arith) (omega arith)) ∙ h.none_before b from less;
    }

    -- and the other way round
    pub takes-from : (i : ℕ) (cell : Cell) → cell.b ≤ bits → TakesFirst (choice_by kept) i cell → TakesFirst (union_choice table e parts) i cell
    takes-from i cell within h = record {
      is_cell = h.is_cell;
      few = h.few;
      takes = let some = h.is_cell.some_bits in choice_same cell some h.few within ∙ h.takes;
      none_before = λ b from less. let few = h.few in choice_same (front_of cell b) from (omega arith) (omega arith) ∙ h.none_before b from less;
    }

-- bounds that are those of each part are those of the parts
pub are_bounds : (node : ℕ → Bounds) (kept : List Bounds) (parts : List ExprId) → length kept ≡ length parts → ((k : ℕ) → k < length parts → get_or kept k (record { lo = 0; hi = 0 }) ≡ node (get_or parts k (record { 0 = 0 })).0) → kept ≡ map node (map number parts)
are_bounds node [] [] same at = refl
are_bounds node [] (p ∷ ps) same at = let none : ⊥ = cc in absurd none
are_bounds node (b ∷ bs) [] same at = let none : ⊥ = cc in absurd none
are_bounds node (b ∷ bs) (p ∷ ps) same at =
    ap (λ xs. b ∷ xs) (are_bounds node bs ps (omega arith) (λ k less. at (suc k) (omega arith)))
    ∙ ap (λ x. x ∷ map node (map number ps)) (at 0 (omega arith))

-- one more part whose bounds are those kept
pub one_more : (node : ℕ → Bounds) (kept : List Bounds) (parts : List ExprId) (i : ℕ) → ((k : ℕ) → k < i → get_or kept k (record { lo = 0; hi = 0 }) ≡ node (get_or parts k (record { 0 = 0 })).0) → get_or kept i (record { lo = 0; hi = 0 }) ≡ node (get_or parts i (record { 0 = 0 })).0 → (k : ℕ) → k < i + 1 → get_or kept k (record { lo = 0; hi = 0 }) ≡ node (get_or parts k (record { 0 = 0 })).0
one_more node kept parts i before here k less = ⊎_elim (λ earlier. before k earlier) (λ now. let same : i ≡ k = omega arith in subst (λ n. get_or kept n (record { lo = 0; hi = 0 }) ≡ node (get_or parts n (record { 0 = 0 })).0) same here) (cases_lt k i)

-- how many lists of eleven bits begin with one cell of b bits
width : (b : ℕ) → b ≤ 11 → 2048 / 2 ^ b ≡ 2 ^ (11 - b)
width b few =
    let split : 11 ≡ 11 - b + b = omega arith in
    let whole : 2048 ≡ 2 ^ (11 - b + b) = ap (λ n. 2 ^ n) split in
    let product : 2048 ≡ 2 ^ (11 - b) * 2 ^ b = whole ∙ pow-add 2 (11 - b) b in
    let with_none : 2048 ≡ 2 ^ (11 - b) * 2 ^ b + 0 = omega arith in
    ap (λ n. n / 2 ^ b) with_none ∙ div-mul-add (2 ^ (11 - b)) (2 ^ b) 0 (pow_pos b)

-- they are no more than there are
pub block-inside : (k b : ℕ) → b ≤ 11 → k < 2 ^ b → k * (2048 / 2 ^ b) + 2048 / 2 ^ b ≤ 2048
block-inside k b few below =
    let w : ℕ = 2048 / 2 ^ b in
    let whole : 2 ^ b * (2048 / 2 ^ b) ≡ 2048 = ap (λ n. 2 ^ b * n) (width b few) ∙ sym (pow-add 2 b (11 - b)) ∙ ap (λ n. 2 ^ n) (let e : b + (11 - b) ≡ 11 = omega arith in e) in
    let most : suc k * (2048 / 2 ^ b) ≤ 2 ^ b * (2048 / 2 ^ b) = mul-le-mul_right (2048 / 2 ^ b) below in
    omega arith

-- each of them begins with the cell
pub block-of : (k b eleven : ℕ) → b ≤ 11 → k * (2048 / 2 ^ b) ≤ eleven → eleven < k * (2048 / 2 ^ b) + 2048 / 2 ^ b → first_of eleven b ≡ record { k = k; b = b }
block-of k b eleven few from to =
    let begin : k * 2 ^ (11 - b) ≤ eleven = subst (λ w. k * w ≤ eleven) (width b few) from in
    let end : eleven < k * 2 ^ (11 - b) + 2 ^ (11 - b) = subst (λ w. eleven < k * w + w) (width b few) to in
    ap (λ n. record { k = n; b = b }) (quotient_is eleven (2 ^ (11 - b)) k (pow_pos (11 - b)) begin (omega arith))

-- The cell of the first b bits of sixteen is that of the first eleven.
pub first_of-sixteen : (word eleven b : ℕ) → b ≤ 11 → eleven ≡ word / 2 ^ 5 → eleven / 2 ^ (11 - b) ≡ word / 2 ^ (16 - b)
first_of-sixteen word eleven b few is =
    ap (λ n. n / 2 ^ (11 - b)) is ∙ shr-shr word 5 (11 - b) ∙ ap (λ n. word / 2 ^ n) (let e : 5 + (11 - b) ≡ 16 - b = omega arith in e)

-- what is kept for eleven bits is right
abbrev is_kept : KeptBounds → ℕ → FirstChoice → Type 0
is_kept kept eleven choice = 0 < choice.bits → TakesFirst (choice_by kept) choice.option (first_of eleven choice.bits)

-- what is kept stays right where an option is put for all bits that begin with a cell
pub kept-more : (kept : KeptBounds) (old new : List FirstChoice) (option : ℕ) (cell : Cell) → length new ≡ length old → AreKept kept old → TakesFirst (choice_by kept) option cell → ((i : ℕ) → cell.k * (2048 / 2 ^ cell.b) ≤ i → i < cell.k * (2048 / 2 ^ cell.b) + 2048 / 2 ^ cell.b → kept_at new i ≡ record { option = option; bits = cell.b }) → ((i : ℕ) → (i < cell.k * (2048 / 2 ^ cell.b)) ⊎ (cell.k * (2048 / 2 ^ cell.b) + 2048 / 2 ^ cell.b ≤ i) → kept_at new i ≡ kept_at old i) → AreKept kept new
kept-more kept old new option cell same before takes inside outside = record {
  many = same ∙ before.many;
  at = λ eleven. ⊎_elim
      (λ earlier. subst (is_kept kept eleven) (sym (outside eleven (inl earlier))) (before.at eleven))
      (λ from. ⊎_elim
      (λ within. subst (is_kept kept eleven) (sym (inside eleven from within)) (λ some. subst (TakesFirst (choice_by kept) option) (sym (block-of cell.k cell.b eleven takes.few from within)) takes))
      (λ later. subst (is_kept kept eleven) (sym (outside eleven (inr later))) (before.at eleven))
      (cases_lt eleven (cell.k * (2048 / 2 ^ cell.b) + 2048 / 2 ^ cell.b)))
      (cases_lt eleven (cell.k * (2048 / 2 ^ cell.b)));
}

-- A list that repeats one item has it at each place, and past its end where it stands for none.
pub nothing_at : {A : Type 0} (a : A) (n i : ℕ) → get_or (replicate n a) i a ≡ a
nothing_at a zero zero = refl
nothing_at a zero (suc i) = refl
nothing_at a (suc n) zero = refl
nothing_at a (suc n) (suc i) = nothing_at a n i

-- what is written over a whole list stands alone
pub written-whole : (n : ℕ) (new rest : List FirstChoice) → length new ≡ n → take n (new ++ rest) ≡ new
written-whole n new rest same = take-append-le n new rest (omega arith) ∙ take_all n new (omega arith)

-- where nothing is kept, it is right
pub nothing-kept : (kept : KeptBounds) (choices : List FirstChoice) → choices ≡ replicate 2048 (record { option = 0; bits = 0 }) → AreKept kept choices
nothing-kept kept choices none =
    let nothing : FirstChoice = record { option = 0; bits = 0 } in
    subst (AreKept kept) (sym none) (record {
      many = length-replicate 2048 nothing;
      at = λ eleven. subst (is_kept kept eleven) (sym (nothing_at nothing 2048 eleven)) (λ some. let none : ⊥ = omega arith in absurd none);
    })
