-- What a choice means: which options pass, and which tests hold, where one is taken or Over is decided; and the choice that tests make.
use Rattle.std.proofs.Common.{◌≡◌, ℕ, ◌+◌, ◌<◌, ◌≤◌, refl, sym, ◌∙◌, ap, subst, true, false, cond, ◌||◌, Option, Some, None, inl, inr}
use Rattle.std.proofs.lemmas.Bool.{cases_Bool}
use Rattle.bz_model.specs.declared.cell.Cell.{Cell}
use Rattle.choice_draw.specs.Decision.{Options, Choice, is_last, ends_before, begins_after, least_option, is_reached, over_from, over_of, choice_from, choice_of}
use Rattle.choice_draw.proofs.LeastPassing.{IsLeastPassing, least_passing-found, least_passing-is, least_passing-is_none}

-- what is known where an option is taken: it is the least that passes the first test or is the last, and it is reached
pub record IsTaken (o : Options) (cell : Cell) (i : ℕ) : Type 0 where
  pub least : IsLeastPassing (λ j. is_last o.last j || ends_before o cell j) o.count o.first i
  pub reached : is_reached o cell i ≡ true

over-taken : (o : Options) (cell : Cell) (room : Option ℕ) (i : ℕ) → over_from o cell room ≡ Some (Choice.Take i) → ⊥
over-taken o cell None i e = cc
over-taken o cell (Some r) i e = elim (cases_Bool (begins_after o cell r)) [
  | inl holds ↦ let over : Some Choice.Over ≡ Some (Choice.Take i) = sym (ap (λ b. cond b (Some Choice.Over) None) holds) ∙ e in cc
  | inr fails ↦ let over : None ≡ Some (Choice.Take i) = sym (ap (λ b. cond b (Some Choice.Over) None) fails) ∙ e in cc
]

from-taken : (o : Options) (cell : Cell) (least : Option ℕ) (i : ℕ) → choice_from o cell least ≡ Some (Choice.Take i) → (least ≡ Some i) × (is_reached o cell i ≡ true)
from-taken o cell None i e = absurd (over-taken o cell o.room i e)
from-taken o cell (Some j) i e = elim (cases_Bool (is_reached o cell j)) [
  | inl holds ↦
      let taken : Some (Choice.Take j) ≡ Some (Choice.Take i) = sym (ap (λ b. cond b (Some (Choice.Take j)) (over_from o cell o.room)) holds) ∙ e in
      let same : j ≡ i = cc in
      (ap Some same, subst (λ n. is_reached o cell n ≡ true) same holds)
  | inr fails ↦ absurd (over-taken o cell o.room i (sym (ap (λ b. cond b (Some (Choice.Take j)) (over_from o cell o.room)) fails) ∙ e))
]

-- a taken option is the least that passes, and is reached
pub choice-taken : (o : Options) (cell : Cell) (i : ℕ) → choice_of o cell ≡ Some (Choice.Take i) → IsTaken o cell i
choice-taken o cell i e =
    let r = from-taken o cell (least_option o cell) i e in
    record { least = least_passing-found (λ j. is_last o.last j || ends_before o cell j) o.count o.first i r.0; reached = r.1 }

-- over the room is decided only where there is a room that no number of the cell lies before
pub record IsOverRoom (o : Options) (cell : Cell) : Type 0 where
  pub room : ℕ
  pub here : o.room ≡ Some room
  pub after : begins_after o cell room ≡ true

over-over : (o : Options) (cell : Cell) (room : Option ℕ) → o.room ≡ room → over_from o cell room ≡ Some Choice.Over → IsOverRoom o cell
over-over o cell None here e = let none : ⊥ = cc in absurd none
over-over o cell (Some r) here e = elim (cases_Bool (begins_after o cell r)) [
  | inl holds ↦ record { room = r; here = here; after = holds }
  | inr fails ↦ let over : None ≡ Some Choice.Over = sym (ap (λ b. cond b (Some Choice.Over) None) fails) ∙ e in let none : ⊥ = cc in absurd none
]

from-over : (o : Options) (cell : Cell) (least : Option ℕ) → choice_from o cell least ≡ Some Choice.Over → IsOverRoom o cell
from-over o cell None e = over-over o cell o.room refl e
from-over o cell (Some j) e = elim (cases_Bool (is_reached o cell j)) [
  | inl holds ↦ let taken : Some (Choice.Take j) ≡ Some Choice.Over = sym (ap (λ b. cond b (Some (Choice.Take j)) (over_from o cell o.room)) holds) ∙ e in let none : ⊥ = cc in absurd none
  | inr fails ↦ over-over o cell o.room refl (sym (ap (λ b. cond b (Some (Choice.Take j)) (over_from o cell o.room)) fails) ∙ e)
]

-- A cell decides that every option is above the room only where there is a room and no number of
-- the cell lies before its end.
pub choice-over : (o : Options) (cell : Cell) → choice_of o cell ≡ Some Choice.Over → IsOverRoom o cell
choice-over o cell e = from-over o cell (least_option o cell) e

-- an option that is the least that passes, and is reached, is taken
pub choice-is_taken : (o : Options) (cell : Cell) (i : ℕ) → IsTaken o cell i → choice_of o cell ≡ Some (Choice.Take i)
choice-is_taken o cell i taken =
    ap (λ least. choice_from o cell least) (least_passing-is (λ j. is_last o.last j || ends_before o cell j) o.count o.first i taken.least)
    ∙ ap (λ b. cond b (Some (Choice.Take i)) (over_of o cell)) taken.reached

-- where the least option that passes isn't reached, only Over may be decided
pub choice-unreached : (o : Options) (cell : Cell) (i : ℕ) → IsLeastPassing (λ j. is_last o.last j || ends_before o cell j) o.count o.first i → is_reached o cell i ≡ false → choice_of o cell ≡ over_of o cell
choice-unreached o cell i least unreached =
    ap (λ l. choice_from o cell l) (least_passing-is (λ j. is_last o.last j || ends_before o cell j) o.count o.first i least)
    ∙ ap (λ b. cond b (Some (Choice.Take i)) (over_of o cell)) unreached

-- where no option passes, only Over may be decided
pub choice-none_passes : (o : Options) (cell : Cell) → ((j : ℕ) → o.first ≤ j → j < o.first + o.count → (is_last o.last j || ends_before o cell j) ≡ false) → choice_of o cell ≡ over_of o cell
choice-none_passes o cell none = ap (λ l. choice_from o cell l) (least_passing-is_none (λ j. is_last o.last j || ends_before o cell j) o.count o.first none)
