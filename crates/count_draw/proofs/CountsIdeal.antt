-- What a cell decides at a counted node: the ideal option of each number of the cell, or that none up to the room is ideal.
use Rattle.std.proofs.Common.{◌≡◌, ℕ, ◌<◌, ◌≤◌, length, arith, sym, ◌∙◌, ap, subst, cond, inl, inr, Option, Some, None}
use Rattle.std.specs.Prelude.{nat_lt}
use Rattle.std.proofs.lemmas.Bool.{cases_Bool}
use Rattle.bz_model.specs.declared.cell.Cell.{Cell}
use Rattle.bz_model.specs.declared.cell.Bounds.{Bounds}
use Rattle.bz_model.specs.Fraction.{Fraction}
use Rattle.bz_model.specs.Spec.{Spec, Range, range_at, IsInRange}
use Rattle.bz_model.specs.Cell.{IsCell}
use Rattle.bz_model.specs.Oracle.{IsSoundTable}
use Rattle.series_bounds.specs.Series.{Kind}
use Rattle.choice_draw.specs.Decision.{Choice, level_of}
use Rattle.choice_draw.specs.IdealOfCell.{IsIdealOfCell, IsOverOfCell}
use Rattle.choice_draw.proofs.Choices.{choice-taken, choice-over}
use Rattle.choice_draw.proofs.SoundOptions.{AreSound, taken-ideal, over-not_ideal}
use Rattle.count_draw.specs.declared.kind.CountChoice.{CountChoice}
use Rattle.count_draw.specs.declared.kind.CountChoice.TheVariants.{Take, Over}
use Rattle.count_draw.specs.Decision.{room_below, counted_options, count_choice, count_decision, chosen_if, OnTake}
use Rattle.count_draw.specs.Decision as decision
use Rattle.count_draw.specs.Answer.{answer_of, OnCount}
use Rattle.count_draw.specs.Answer as answers
use Rattle.count_draw.proofs.CountedNodes.{IsCountedAs, decision-is}
use Rattle.count_draw.proofs.CountsSound.{within-top, up_to_room, counts-sound}

-- a room below which options are counted is the room itself
room_is : (high : Option ℕ) (room r : ℕ) → room_below high room ≡ Some r → r ≡ room
room_is None room r e = cc
room_is (Some h) room r e = elim (cases_Bool (nat_lt room h)) [
  | inl less ↦ let here : Some room ≡ Some r = sym (ap (λ b. cond b (Some room) None) less) ∙ e in cc
  | inr not_less ↦ let here : None ≡ Some r = sym (ap (λ b. cond b (Some room) None) not_less) ∙ e in let never : ⊥ = cc in absurd never
]

module _ (s : Spec) (x : Fraction) (F e part : ℕ) (kind : Kind) (r : Range) (table : (level node : ℕ) → Bounds) (at : IsCountedAs s e part kind r) (sound : IsSoundTable s x F table) (part_in : part < length s.nodes) (room : ℕ) (cell : Cell) (is_cell : IsCell cell.k cell.b) where
  are_sound : AreSound s x F e (counted_options kind F r (table (level_of cell) part) (table (level_of cell) e) room)
  are_sound =
      let some = is_cell.some_bits in
      let few = is_cell.few_bits in
      counts-sound s x F e part kind r table at sound part_in (level_of cell) (omega arith) (omega arith) room

  take-ideal : (i : ℕ) → Some (Choice.Take i) ≡ count_choice kind F r (table (level_of cell) part) (table (level_of cell) e) room cell → IsIdealOfCell s x e cell i
  take-ideal i decided = λ u inside. taken-ideal s x u F e (counted_options kind F r (table (level_of cell) part) (table (level_of cell) e) room) are_sound cell inside i (sym decided)

  take-ranged : (i : ℕ) → Some (Choice.Take i) ≡ count_choice kind F r (table (level_of cell) part) (table (level_of cell) e) room cell → IsInRange i (range_at s e) × (i ≤ room)
  take-ranged i decided =
      let taken = choice-taken (counted_options kind F r (table (level_of cell) part) (table (level_of cell) e) room) cell i (sym decided) in
      (subst (IsInRange i) (sym at.range) (taken.least.from, within-top r.high r.low room i taken.least.from taken.least.below), up_to_room r.high r.low room i taken.least.from taken.least.below)

  over-none_ideal : Some Choice.Over ≡ count_choice kind F r (table (level_of cell) part) (table (level_of cell) e) room cell → IsOverOfCell s x e cell room
  over-none_ideal decided = λ u inside.
      let over = choice-over (counted_options kind F r (table (level_of cell) part) (table (level_of cell) e) room) cell (sym decided) in
      let same : over.room ≡ room = room_is r.high room over.room over.here in
      over-not_ideal s x u F e (counted_options kind F r (table (level_of cell) part) (table (level_of cell) e) room) are_sound cell inside room (subst (λ q. room_below r.high room ≡ Some q) same over.here) is_cell.below (sym decided)

  by_options : (c : Option CountChoice) → count_decision s F table e room cell ≡ chosen_if c → chosen_if c ≡ count_choice kind F r (table (level_of cell) part) (table (level_of cell) e) room cell
  by_options c decided = sym decided ∙ decision-is s F e part room kind r table cell at

  -- the same of what the code chooses
  pub choice-ideal : (c : Option CountChoice) → count_decision s F table e room cell ≡ chosen_if c → OnTake c (IsIdealOfCell s x e cell)
  choice-ideal None decided = tt
  choice-ideal (Some (Take i)) decided = take-ideal i (by_options (Some (Take i)) decided)
  choice-ideal (Some Over) decided = tt

  pub choice-ranged : (c : Option CountChoice) → count_decision s F table e room cell ≡ chosen_if c → OnTake c (λ i. IsInRange i (range_at s e) × (i ≤ room))
  choice-ranged None decided = tt
  choice-ranged (Some (Take i)) decided = take-ranged i (by_options (Some (Take i)) decided)
  choice-ranged (Some Over) decided = tt

  pub choice-over_none : (c : Option CountChoice) → count_decision s F table e room cell ≡ chosen_if c → decision.IfPassedOver c (IsOverOfCell s x e cell room)
  choice-over_none None decided = tt
  choice-over_none (Some (Take i)) decided = tt
  choice-over_none (Some Over) decided = over-none_ideal (by_options (Some Over) decided)

-- what is said of a choice's number holds of its answer's
pub answer-take : (P : ℕ → Cell → Type 0) (c : CountChoice) (cell : Cell) → OnTake (Some c) (λ i. P i cell) → OnCount (answer_of c cell) P
answer-take P (Take i) cell h = h
answer-take P Over cell h = tt

-- Where a fact of the cell holds if the choice passes over every number up to the room, it holds if
-- the choice's answer does.
pub answer-over : (P : Cell → Type 0) (c : CountChoice) (cell : Cell) → decision.IfPassedOver (Some c) (P cell) → answers.OnOver (answer_of c cell) P
answer-over P (Take i) cell h = tt
answer-over P Over cell h = h
