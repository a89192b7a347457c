-- What a cell of few bits decides by a table is what it decides by the bounds that are kept of it, and what a draw decides may be kept.
use Rattle.std.proofs.Common.{◌≡◌, ℕ, ◌≤◌, Bool, Option, arith, sym, ◌∙◌, ap, ⊎_elim}
use Rattle.std.proofs.lemmas.Bool.{cases_lt}
use Rattle.bz_model.specs.declared.cell.Cell.{Cell}
use Rattle.bz_model.specs.declared.cell.Bounds.{Bounds}
use Rattle.bz_model.specs.Spec.{Spec, Range}
use Rattle.series_bounds.specs.Series.{Kind}
use Rattle.choice_draw.specs.Decision.{level_of}
use Rattle.choice_draw.specs.LeastCell.{front_of}
use Rattle.choice_draw.specs.Answer.{IsDraw}
use Rattle.choice_draw.specs.KeptChoices.{TakesFirst}
use Rattle.choice_draw.specs.declared.drawn.Drawn.TheVariants.{Value}
use Rattle.choice_draw.proofs.KeptDraws.{draw-kept}
use Rattle.count_draw.specs.declared.drawn_count.CountDrawn.{CountDrawn}
use Rattle.count_draw.specs.declared.drawn_count.CountDrawn.TheVariants.{Count, Over, Straddles, Ended, ReadFault}
use Rattle.count_draw.specs.Answer.{OnCount, told_count}
use Rattle.count_draw.specs.Decision.{count_choice, count_decision}
use Rattle.count_draw.specs.FirstCounts.{CountBounds, AreBoundsOf, AreCountsFor, TakesAtRoom, bounds_at, choice_at, choice_by, counted_choice}
use Rattle.count_draw.proofs.CountedNodes.{IsCountedAs, decision-is}

module _ (kind : Kind) (f : ℕ) (range : Range) (table : (level node : ℕ) → Bounds) (part e : ℕ) (by : CountBounds) where
  choice_there : (bits : by.bits ≡ f) (kinds : by.kind ≡ kind) (ranges : by.range ≡ range) (room : ℕ) (cell : Cell) (level : ℕ) → level_of cell ≡ level → AreBoundsOf (table level) part e (bounds_at by level) → counted_choice kind f range table part e room cell ≡ choice_by by room cell
  choice_there bits kinds ranges room cell level is here =
      ap (λ l. count_choice kind f range (table l part) (table l e) room cell) is
      ∙ ap (λ b. count_choice kind f range b (table level e) room cell) (sym here.part)
      ∙ ap (λ w. count_choice kind f range (bounds_at by level).part w room cell) (sym here.whole)
      ∙ ap (λ l. choice_at kind f range (bounds_at by l) room cell) (sym is)
      ∙ ap (λ k. choice_at k f range (bounds_at by (level_of cell)) room cell) (sym kinds)
      ∙ ap (λ n. choice_at by.kind n range (bounds_at by (level_of cell)) room cell) (sym bits)
      ∙ ap (λ r. choice_at by.kind by.bits r (bounds_at by (level_of cell)) room cell) (sym ranges)

  module _ (bits : ℕ) (here : AreCountsFor kind f range table part e bits by) where
    choice_same : (room : ℕ) (cell : Cell) → 1 ≤ cell.b → cell.b ≤ 11 → cell.b ≤ bits → counted_choice kind f range table part e room cell ≡ choice_by by room cell
    choice_same room cell some few within = ⊎_elim
        (λ less. choice_there here.bits here.kind here.range room cell 1 (omega arith) here.first)
        (λ more. choice_there here.bits here.kind here.range room cell 2 (omega arith) (here.second (omega arith)))
        (cases_lt cell.b 11)

    -- what is taken by the table is taken by the bounds
    pub takes-by : (i : ℕ) (cell : Cell) → cell.b ≤ bits → TakesAtRoom (counted_choice kind f range table part e) i cell → TakesAtRoom (choice_by by) i cell
    takes-by i cell within known = let h = known.takes in let some = h.is_cell.some_bits in let few = h.few in record {
      room = known.room;
      takes = record {
        is_cell = h.is_cell;
        few = h.few;
        takes = sym (choice_same known.room cell some few within) ∙ h.takes;
        none_before = λ b from less. sym (choice_same known.room (front_of cell b) from (omega arith) (omega arith)) ∙ h.none_before b from less;
      };
    }

    -- and the other way round
    pub takes-from : (i : ℕ) (cell : Cell) → cell.b ≤ bits → TakesAtRoom (choice_by by) i cell → TakesAtRoom (counted_choice kind f range table part e) i cell
    takes-from i cell within known = let h = known.takes in let some = h.is_cell.some_bits in let few = h.few in record {
      room = known.room;
      takes = record {
        is_cell = h.is_cell;
        few = h.few;
        takes = choice_same known.room cell some few within ∙ h.takes;
        none_before = λ b from less. choice_same known.room (front_of cell b) from (omega arith) (omega arith) ∙ h.none_before b from less;
      };
    }

module _ (s : Spec) (f e part : ℕ) (kind : Kind) (r : Range) (table : (level node : ℕ) → Bounds) (at : IsCountedAs s e part kind r) where
  -- what is taken at a construction is taken at its node
  pub takes-decision : (count : ℕ) (cell : Cell) → TakesAtRoom (counted_choice kind f r table part e) count cell → TakesAtRoom (count_decision s f table e) count cell
  takes-decision count cell known = let h = known.takes in record {
    room = known.room;
    takes = record {
      is_cell = h.is_cell;
      few = h.few;
      takes = decision-is s f e part known.room kind r table cell at ∙ h.takes;
      none_before = λ b from less. decision-is s f e part known.room kind r table (front_of cell b) at ∙ h.none_before b from less;
    };
  }

  first-taken : (room count : ℕ) (cell : Cell) → TakesFirst (count_decision s f table e room) count cell → TakesAtRoom (counted_choice kind f r table part e) count cell
  first-taken room count cell h = record {
    room = room;
    takes = record {
      is_cell = h.is_cell;
      few = h.few;
      takes = sym (decision-is s f e part room kind r table cell at) ∙ h.takes;
      none_before = λ b from less. sym (decision-is s f e part room kind r table (front_of cell b) at) ∙ h.none_before b from less;
    };
  }

  -- what a draw takes by few bits may be kept
  pub count-kept : (room : ℕ) (told : Option (ℕ → Option Bool)) (start used : ℕ) (drawn : CountDrawn) → IsDraw (count_decision s f table e room) told start used (told_count drawn used) → OnCount drawn (λ i cell. cell.b ≤ 11 → TakesAtRoom (counted_choice kind f r table part e) i cell)
  count-kept room told start used (Count i cell) draw = λ few. first-taken room i cell (draw-kept (count_decision s f table e room) told start used (Value i cell) draw few)
  count-kept room told start used (Over cell) draw = tt
  count-kept room told start used (Straddles cell) draw = tt
  count-kept room told start used Ended draw = tt
  count-kept room told start used ReadFault draw = tt
