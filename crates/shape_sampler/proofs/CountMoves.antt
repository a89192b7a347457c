-- The visit of a sequence, set or cycle that moved on by bits that were read ahead.
use Rattle.std.proofs.Common.{◌≡◌, ◌⊎◌, ℕ, zero, suc, ◌-◌, ◌<◌, ◌≤◌, arith, List, [], ◌∷◌, ◌++◌, length, replicate, refl, sym, ◌∙◌, ap, subst, Option, Some, None, slice_get}
use Rattle.bz_model.specs.declared.cell.Cell.{Cell}
use Rattle.bz_model.specs.declared.cell.Bounds.{Bounds}
use Rattle.bz_model.specs.Fraction.{Fraction}
use Rattle.bz_model.specs.Spec.{Spec, range_at, IsInRange}
use Rattle.bz_model.specs.Cell.{IsCell}
use Rattle.bz_model.specs.Measures.{HasZero}
use Rattle.bz_model.specs.WellFounded.{IsWellFounded}
use Rattle.bit_tape.specs.Tape.{TapeState, BelongsToShelf, SkipsBits, bits_of_source}
use Rattle.class_system.specs.Sound.{IsSound}
use Rattle.class_system.specs.declared.ids.ExprId.{ExprId}
use Rattle.choice_draw.specs.Decision.{Choice, level_for}
use Rattle.choice_draw.specs.Draw.{Draw}
use Rattle.choice_draw.specs.Answer.{IsDraw}
use Rattle.choice_draw.specs.IdealOfCell.{IsIdealOfCell}
use Rattle.count_draw.specs.declared.drawn_count.CountDrawn.TheVariants as counted
use Rattle.count_draw.specs.Decision.{count_decision}
use Rattle.shape_sampler.specs.declared.stepped.Stepped.TheVariants.{Moved}
use Rattle.shape_sampler.specs.State.{SessionState, SessionBelongs, HasCountedPart, PutsParts, answer_for, count_answer}
use Rattle.shape_sampler.specs.Ahead.{MovesOn}
use Rattle.shape_sampler.proofs.CountVisits.{CountSettled, IsRoomFor, counted-leaves, counted-draws, counted-by-bits, counted-session}
use Rattle.shape_sampler.proofs.Plain.{Front, front}
use Rattle.shape_sampler.proofs.Moves.{some-pending, one-move}

-- nodes that wait are pending still, however many parts are put before them
waiting-moved : (n part : ℕ) (rest : List ℕ) → 0 < length rest → Moved ≡ answer_for (replicate n part ++ rest)
waiting-moved zero part [] some = absurd (omega arith)
waiting-moved zero part (e ∷ es) some = refl
waiting-moved (suc n) part rest some = refl

-- A number of parts that is put where more than one node is pending moves on.
pub counted-moved : (node : ExprId) (part value : ℕ) (cell : Cell) (before now : List ℕ) → slice_get before 0 ≡ Some node.0 → 1 < length before → PutsParts part (counted.Count value cell) before now → Moved ≡ count_answer node (counted.Count value cell) now
counted-moved node part value cell before now first many puts =
    let f : Front before node.0 = front before node.0 first in
    let all : 1 < suc (length f.rest) = subst (λ es. 1 < length es) f.whole many in
    let some : 0 < length f.rest = omega arith in
    waiting-moved value part f.rest some ∙ ap answer_for (sym (puts node.0 f.rest f.whole))

module _ (s : Spec) (x : Fraction) (F : ℕ) (table : (level e : ℕ) → Bounds) (raised : ℕ) where
  -- the visit of a sequence, set or cycle is a move where its number of parts was drawn so
  pub counted-moves : (node : ExprId) (part value : ℕ) (cell : Cell) (before now : SessionState) (tape tape_now : TapeState) → before.stopped ≡ None → slice_get before.pending 0 ≡ Some node.0 → Moved ≡ count_answer node (counted.Count value cell) now.pending → CountSettled node part (counted.Count value cell) before now → HasCountedPart s node.0 part → (room : ℕ) → IsRoomFor s part before.room room → IsSound s → IsWellFounded s → HasZero s part ⊎ (¬ (HasZero s part)) → SessionBelongs s x before → IsCell cell.k cell.b → IsIdealOfCell s x node.0 cell value → IsInRange value (range_at s node.0) × (value ≤ room) → SkipsBits tape cell.b tape_now → level_for (tape_now.used - tape.used) ≤ raised → ((contents : List ℕ → Option (List ℕ)) → BelongsToShelf contents tape → IsDraw (count_decision s F table node.0 room) (bits_of_source tape.source contents) tape.used tape_now.used (Draw.Decided (Choice.Take value) cell)) → MovesOn s x F table raised 1 before tape now tape_now
  counted-moves node part value cell before now tape tape_now running first answered settled at room room_at sound founded decided b is_cell ideal within skips level draws =
      let d = counted.Count value cell in
      let leaves = counted-leaves node part before now first d Moved answered settled in
      let session = (counted-session node part before now first d Moved answered settled s at room room_at x sound founded decided is_cell tt ideal tt within b).0 in
      let uses = skips.used in
      let few = is_cell.few_bits in
      one-move s x F table raised before tape now tape_now leaves session skips.source (omega arith) skips.belongs (λ contents h. record {
        going = running;
        pending = some-pending before.pending node.0 first;
        leaves = leaves;
        draws = counted-draws node part before now first d Moved answered settled tape.used tape_now.used skips.used is_cell;
        exact = counted-by-bits node part before now first d Moved answered settled s at room room_at F table (bits_of_source tape.source contents) tape.used tape_now.used (draws contents h);
        session = session;
        from = omega arith;
        few = omega arith;
        level = level;
      })
