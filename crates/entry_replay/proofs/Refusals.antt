-- When cells make no object, and that they make one at most.
use Rattle.std.proofs.Common.{◌≡◌, ◌≢◌, ℕ, ◌+◌, Bool, List, [], ◌++◌, length, refl, sym, ◌∙◌, ap, subst}
use Rattle.std.specs.Prelude.{Option, None, slice_get}
use Rattle.bz_model.specs.declared.cell.Bounds.{Bounds}
use Rattle.bz_model.specs.declared.cell.Cell.{Cell}
use Rattle.bz_model.specs.Cell.{spelled}
use Rattle.bz_model.specs.Spec.{Spec}
use Rattle.bit_tape.specs.Given.{HasBits}
use Rattle.class_system.specs.Sound.{IsSound}
use Rattle.object_store.specs.declared.token.Token.{Token}
use Rattle.object_store.specs.Tokens.{size_of}
use Rattle.shape_sampler.specs.Answer.{ChoosesBy}
use Rattle.shape_sampler.specs.Visit.{Chooser, Attempt}
use Rattle.size_window.specs.Ideally.{chooser_of}
use Rattle.size_window.proofs.TablesIdeally.{chooses-by}
use Rattle.well_founded.specs.EmptyObjects.{has_empty}
use Rattle.well_founded.proofs.Orderly.{orderly}
use Rattle.well_founded.proofs.Stages.{marked-zero, zero-marked}
use Rattle.entry_replay.specs.Replay.{entry_with, AreMadeOf, IsMadeByTable, IsNeverMade, IsNotLabelled, GetLabels}
use Rattle.entry_replay.proofs.Resting.{made-one}
use Rattle.entry_replay.proofs.Moving.{SameLabels, get-one, IsReplayed, redrawn-replayed, replayed-moves}

module _ (s : Spec) (sound : IsSound s) (F : ℕ) (table : (level node : ℕ) → Bounds) (greatest : ℕ) where
  -- a chooser by the table
  chooser : Chooser
  chooser = chooser_of s F table (has_empty s)

  by-table : ChoosesBy s F table chooser
  unfolding chooser
  by-table = chooses-by s F table (has_empty s) (λ part. (marked-zero s (orderly s sound) part, zero-marked s (orderly s sound) part))

  -- what is made of the cells is replayed over every tape with their bits
  replayed : (cells : List Cell) (tokens : List Token) (labels : List ℕ) → AreMadeOf s F table greatest cells tokens labels → (bits : ℕ → Option Bool) → HasBits bits 0 (spelled cells) → IsReplayed chooser greatest bits 0 (entry_with tokens labels cells)
  replayed cells tokens labels h bits have =
      replayed-moves chooser greatest (slice_get (spelled cells)) 0 (entry_with tokens labels cells)
      (redrawn-replayed chooser greatest (slice_get (spelled cells)) 0 (entry_with tokens labels cells) (h.redrawn chooser by-table))
      bits 0 have

  module _ (bits : ℕ → Option Bool) (cells : List Cell) (have : HasBits bits 0 (spelled cells)) (tokens : List Token) (labels : List ℕ) (h : AreMadeOf s F table greatest cells tokens labels) where
    -- no attempt is made
    pub never-none : IsNeverMade s F table greatest bits 0 → ⊥
    never-none never = let r = replayed cells tokens labels h bits have in never.never chooser by-table r.made r.from

    module _ (made : Attempt) (attempt : IsMadeByTable s F table greatest bits 0 made) where
      -- the attempt is the one that was made
      record Same : Type 0 where
        pub more : List Cell
        pub cells_are : cells ≡ made.cells ++ more
        pub end : ℕ
        pub labelled : GetLabels s.mode bits (size_of made.tokens) made.used labels more end

      same : Same
      same =
          let r = replayed cells tokens labels h bits have in
          let one : r.made ≡ made = made-one chooser greatest bits 0 r.made made r.from (attempt.made_so chooser by-table) in
          record {
            more = r.more;
            cells_are = r.cells ∙ ap (λ (a : Attempt). a.cells ++ r.more) one;
            end = 0 + length (spelled cells);
            labelled = subst (λ (a : Attempt). GetLabels s.mode bits (size_of a.tokens) a.used labels r.more (0 + length (spelled cells))) one (moded r);
          }
        where
          moded : (r : IsReplayed chooser greatest bits 0 (entry_with tokens labels cells)) → GetLabels s.mode bits (size_of r.made.tokens) r.made.used labels r.more (0 + length (spelled cells))
          moded r = subst (λ (t : Spec). GetLabels t.mode bits (size_of r.made.tokens) r.made.used labels r.more (0 + length (spelled cells))) by-table.same_spec r.labels

      -- it isn't labelled with these cells
      pub not-labelled : IsNotLabelled s.mode bits (size_of made.tokens) made.used made.cells cells → ⊥
      not-labelled n = let e = same in n.none labels e.more e.end e.labelled e.cells_are

  -- two objects made of the same cells are one
  pub made-of-one : (cells : List Cell) (tokens others : List Token) (labels told : List ℕ) → AreMadeOf s F table greatest cells tokens labels → AreMadeOf s F table greatest cells others told → (tokens ≡ others) × (labels ≡ told)
  made-of-one cells tokens others labels told h i =
      let r = redrawn-replayed chooser greatest (slice_get (spelled cells)) 0 (entry_with tokens labels cells) (h.redrawn chooser by-table) in
      let q = redrawn-replayed chooser greatest (slice_get (spelled cells)) 0 (entry_with others told cells) (i.redrawn chooser by-table) in
      let one : r.made ≡ q.made = made-one chooser greatest (slice_get (spelled cells)) 0 r.made q.made r.from q.from in
      let here : GetLabels chooser.spec.mode (slice_get (spelled cells)) (size_of q.made.tokens) q.made.used labels r.more (0 + length (spelled cells)) = subst (λ (a : Attempt). GetLabels chooser.spec.mode (slice_get (spelled cells)) (size_of a.tokens) a.used labels r.more (0 + length (spelled cells))) one r.labels in
      let same = get-one chooser.spec.mode (slice_get (spelled cells)) (size_of q.made.tokens) q.made.used labels told r.more q.more (0 + length (spelled cells)) (0 + length (spelled cells)) here q.labels in
      (sym r.tokens ∙ ap (λ (a : Attempt). a.tokens) one ∙ q.tokens, same.labels_are)
