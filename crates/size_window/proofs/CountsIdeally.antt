-- What a sound table decides at sequences, sets and cycles is ideal.
use Rattle.std.proofs.Common.{◌≡◌, ℕ, ◌<◌, ◌≤◌, arith, sym, ◌∙◌, ap, subst, cond, inl, inr, Some, None}
use Rattle.std.specs.Prelude.{nat_lt}
use Rattle.std.proofs.lemmas.Bool.{cases_Bool, ltb-true}
use Rattle.bz_model.specs.declared.cell.Cell.{Cell}
use Rattle.bz_model.specs.declared.cell.Bounds.{Bounds}
use Rattle.bz_model.specs.Fraction.{Fraction}
use Rattle.bz_model.specs.Spec.{Spec, Range, node_at}
use Rattle.bz_model.specs.Measures.{HasZero}
use Rattle.bz_model.specs.Cell.{IsCell}
use Rattle.bz_model.specs.Oracle as oracle
use Rattle.class_system.specs.Sound.{IsSound}
use Rattle.class_system.proofs.Soundness.{has_range}
use Rattle.series_bounds.specs.Series.{Kind}
use Rattle.choice_draw.specs.Decision.{Choice, level_of}
use Rattle.choice_draw.specs.IdealOfCell.{IsIdealOfCell, IsOverOfCell}
use Rattle.choice_draw.proofs.Choices.{choice-taken, choice-over}
use Rattle.count_draw.specs.declared.kind.CountChoice.TheVariants.{Take, Over}
use Rattle.count_draw.specs.Kinds.{counted_node}
use Rattle.count_draw.specs.Decision.{room_below, counted_options, count_choice, count_decision}
use Rattle.count_draw.proofs.CountedNodes.{IsCountedAs, suits, part_inside, decision-is}
use Rattle.count_draw.proofs.CountsIdeal.{choice-ideal, choice-over_none}
use Rattle.count_draw.proofs.CountsSound.{up_to_room}
use Rattle.shape_sampler.proofs.FreeParts.{free-high}

-- no room of 64 is below a high of at most 64
no-room_below : (high : ℕ) → high ≤ 64 → (room : ℕ) → ¬ (room_below (Some high) 64 ≡ Some room)
no-room_below high few room here = elim (cases_Bool (nat_lt 64 high)) [
  | inl less ↦ let above : 64 < high = ltb-true 64 high less in omega arith
  | inr not_less ↦ let none : None ≡ Some room = sym (ap (λ b. cond b (Some 64) None) not_less) ∙ here in cc
]

module _ (s : Spec) (x : Fraction) (F : ℕ) (table : (level node : ℕ) → Bounds) (sound : IsSound s) (bounded : oracle.IsSoundTable s x F table) (e part : ℕ) (kind : Kind) (at : node_at s e ≡ Some (counted_node kind part)) where
  -- the node's range
  ranged : (r : Range) × IsCountedAs s e part kind r
  ranged = let r = has_range s sound e (counted_node kind part) at in (r.0, record { node = at; range = r.1; suits = suits s e part kind r.0 sound at r.1 })

  by_choice : (room : ℕ) (cell : Cell) (choice : Choice) → count_decision s F table e room cell ≡ Some choice → count_choice kind F ranged.0 (table (level_of cell) part) (table (level_of cell) e) room cell ≡ Some choice
  by_choice room cell choice decided = sym (decision-is s F e part room kind ranged.0 table cell ranged.1) ∙ decided

  -- a number of parts that is decided is the ideal one
  pub count-takes : (room i : ℕ) (cell : Cell) → IsCell cell.k cell.b → count_decision s F table e room cell ≡ Some (Choice.Take i) → IsIdealOfCell s x e cell i
  count-takes room i cell is_cell decided = choice-ideal s x F e part kind ranged.0 table ranged.1 bounded (part_inside s e part kind sound at) room cell is_cell (Some (Take i)) decided

  -- it is within the room
  pub count-within : (room i : ℕ) (cell : Cell) → count_decision s F table e room cell ≡ Some (Choice.Take i) → i ≤ room
  count-within room i cell decided =
      let taken = choice-taken (counted_options kind F ranged.0 (table (level_of cell) part) (table (level_of cell) e) room) cell i (by_choice room cell (Choice.Take i) decided) in
      up_to_room ranged.0.high ranged.0.low room i taken.least.from taken.least.below

  -- where every number up to the room is passed over, none of them is ideal
  pub count-over : (room : ℕ) (cell : Cell) → IsCell cell.k cell.b → count_decision s F table e room cell ≡ Some Choice.Over → IsOverOfCell s x e cell room
  count-over room cell is_cell decided = choice-over_none s x F e part kind ranged.0 table ranged.1 bounded (part_inside s e part kind sound at) room cell is_cell (Some Over) decided

  -- not every number up to 64 is passed over where the part has an object of size 0
  pub free-never_over : HasZero s part → (cell : Cell) → ¬ (count_decision s F table e 64 cell ≡ Some Choice.Over)
  free-never_over zero_part cell decided =
      let h = free-high s sound bounded.founded e part kind at zero_part in
      let over = choice-over (counted_options kind F ranged.0 (table (level_of cell) part) (table (level_of cell) e) 64) cell (by_choice 64 cell Choice.Over decided) in
      let same : ranged.0.high ≡ Some h.high = let a = ranged.1.range in let b = h.range in cc in
      no-room_below h.high h.few over.room (subst (λ high. room_below high 64 ≡ Some over.room) same over.here)
