-- What is kept for first bits stays right where more is kept.
use Rattle.std.proofs.Common.{◌≡◌, ℕ, zero, suc, ◌+◌, ◌*◌, ◌/◌, ◌^◌, ◌<◌, ◌≤◌, ◌⊎◌, List, ◌++◌, length, take, get_or, replicate, arith, refl, sym, ◌∙◌, subst, inl, inr, ⊎_elim}
use Rattle.std.proofs.lemmas.Bool.{cases_lt}
use Rattle.std.proofs.lemmas.List.{length-replicate, take-append-le, take_all}
use Rattle.bz_model.specs.declared.cell.Cell.{Cell}
use Rattle.choice_draw.specs.KeptChoices.{first_of}
use Rattle.choice_draw.proofs.KeptBounds.{block-of}
use Rattle.count_draw.specs.declared.first_counts.FirstCount.{FirstCount}
use Rattle.count_draw.specs.FirstCounts.{CountBounds, TakesAtRoom, AreKept, choice_by, kept_at}

-- what is kept for eleven bits is right
abbrev is_kept : CountBounds → ℕ → FirstCount → Type 0
is_kept by eleven first = 0 < first.bits → TakesAtRoom (choice_by by) first.count (first_of eleven first.bits)

-- what is kept stays right where a number is put for all bits that begin with a cell
pub kept-more : (by : CountBounds) (old new : List FirstCount) (count : ℕ) (cell : Cell) → length new ≡ length old → AreKept by old → TakesAtRoom (choice_by by) count cell → ((i : ℕ) → cell.k * (2048 / 2 ^ cell.b) ≤ i → i < cell.k * (2048 / 2 ^ cell.b) + 2048 / 2 ^ cell.b → kept_at new i ≡ record { count = count; bits = cell.b }) → ((i : ℕ) → (i < cell.k * (2048 / 2 ^ cell.b)) ⊎ (cell.k * (2048 / 2 ^ cell.b) + 2048 / 2 ^ cell.b ≤ i) → kept_at new i ≡ kept_at old i) → AreKept by new
kept-more by old new count cell same before takes inside outside = record {
  many = same ∙ before.many;
  at = λ eleven. ⊎_elim
      (λ earlier. subst (is_kept by eleven) (sym (outside eleven (inl earlier))) (before.at eleven))
      (λ from. ⊎_elim
      (λ within. subst (is_kept by eleven) (sym (inside eleven from within)) (λ some. subst (TakesAtRoom (choice_by by) count) (sym (block-of cell.k cell.b eleven takes.takes.few from within)) takes))
      (λ later. subst (is_kept by eleven) (sym (outside eleven (inr later))) (before.at eleven))
      (cases_lt eleven (cell.k * (2048 / 2 ^ cell.b) + 2048 / 2 ^ cell.b)))
      (cases_lt eleven (cell.k * (2048 / 2 ^ cell.b)));
}

nothing_at : {A : Type 0} (a : A) (n i : ℕ) → get_or (replicate n a) i a ≡ a
nothing_at a zero zero = refl
nothing_at a zero (suc i) = refl
nothing_at a (suc n) zero = refl
nothing_at a (suc n) (suc i) = nothing_at a n i

-- what is written over a whole list stands alone
pub written-whole : (n : ℕ) (new rest : List FirstCount) → length new ≡ n → take n (new ++ rest) ≡ new
written-whole n new rest same = take-append-le n new rest (omega arith) ∙ take_all n new (omega arith)

-- where nothing is kept, it is right
pub nothing-kept : (by : CountBounds) (counts : List FirstCount) → counts ≡ replicate 2048 (record { count = 0; bits = 0 }) → AreKept by counts
nothing-kept by counts none =
    let nothing : FirstCount = record { count = 0; bits = 0 } in
    subst (AreKept by) (sym none) (record {
      many = length-replicate 2048 nothing;
      at = λ eleven. subst (is_kept by eleven) (sym (nothing_at nothing 2048 eleven)) (λ some. let none : ⊥ = omega arith in absurd none);
    })
