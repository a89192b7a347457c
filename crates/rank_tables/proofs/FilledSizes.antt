-- Size after size: what is filled below the next size.
use Rattle.std.proofs.Common.{◌≡◌, ◌≢◌, ℕ, suc, ◌^◌, ◌<◌, ◌≤◌, ◌⊎◌, inl, inr, length, Option, Some, None, arith, sym, subst}
use Rattle.std.proofs.lemmas.Bool.{cases_lt}
use Rattle.std.proofs.lemmas.Option.{slice_get_within}
use Rattle.bz_model.specs.Spec.{Spec, Mode}
use Rattle.bz_laws.specs.Sound.{IsLaidOut}
use Rattle.rank_tables.specs.Capped.{IsSettled}
use Rattle.rank_tables.specs.Filling.{HasTails, ChangesSize, IsFilledBelow}
use Rattle.rank_tables.specs.Grids.{Cells, cell, number_of, number_at}
use Rattle.rank_tables.specs.Refusals.{HasPlainRanges, HasSmallCounts, IsTooMany}
use Rattle.rank_tables.specs.TableRule.{rule, entries, IsRankable}
use Rattle.rank_tables.specs.Tables.{AreKnown, AreCounts}
use Rattle.rank_tables.proofs.Passed.{lesser-kept}
use Rattle.rank_tables.proofs.Settled.{settled-counts, settled-small, settled-too_many}
use Rattle.rank_tables.proofs.Settling.{below-kept}

-- Both grids are filled below a size.
pub record AreFilled (s : Spec) (rows tails : Cells) (sizes n : ℕ) : Type 0 where
  pub row_nodes : rows.nodes ≡ length s.nodes
  pub tail_nodes : tails.nodes ≡ length s.nodes
  pub row_sizes : rows.sizes ≡ sizes
  pub tail_sizes : tails.sizes ≡ sizes
  pub filled : IsFilledBelow s rows tails n

-- Nothing is filled below size 0.
pub filled-none : (s : Spec) (rows tails : Cells) (sizes : ℕ) → rows.nodes ≡ length s.nodes → tails.nodes ≡ length s.nodes → rows.sizes ≡ sizes → tails.sizes ≡ sizes → AreFilled s rows tails sizes 0
filled-none s rows tails sizes a b c d = record {
  row_nodes = a;
  tail_nodes = b;
  row_sizes = c;
  tail_sizes = d;
  filled = record { settled = λ m lt. absurd (omega arith); small = λ e m inside lt. absurd (omega arith); each_tail = λ m lt. absurd (omega arith) };
}

module _ (s : Spec) (laid_out : IsLaidOut s) (rows tails new_rows new_tails : Cells) (sizes n : ℕ) (below : n < sizes) (from : AreFilled s rows tails sizes n)
    (settled : IsSettled s (2 ^ 128) n (number_at new_rows)) (has_tails : HasTails s new_rows new_tails n) (in_rows : ChangesSize n rows new_rows) (in_tails : ChangesSize n tails new_tails) where
  lesser-small : (e m : ℕ) → e < length s.nodes → m < n → number_at new_rows e m < 2 ^ 128
  lesser-small e m inside lt = subst (λ v. number_of v < 2 ^ 128) (sym (in_rows.others e m (let q : rows.sizes ≡ sizes = from.row_sizes in omega arith) (λ same. let z : m ≡ n = same in omega arith))) (from.filled.small e m inside lt)

  -- one size more
  pub filled-more : ((d : ℕ) → d < length s.nodes → number_at new_rows d n < 2 ^ 128) → AreFilled s new_rows new_tails sizes (suc n)
  filled-more here = record {
    row_nodes = let a : new_rows.nodes ≡ rows.nodes = in_rows.nodes in let b : rows.nodes ≡ length s.nodes = from.row_nodes in omega arith;
    tail_nodes = let a : new_tails.nodes ≡ tails.nodes = in_tails.nodes in let b : tails.nodes ≡ length s.nodes = from.tail_nodes in omega arith;
    row_sizes = let a : new_rows.sizes ≡ rows.sizes = in_rows.sizes in let b : rows.sizes ≡ sizes = from.row_sizes in omega arith;
    tail_sizes = let a : new_tails.sizes ≡ tails.sizes = in_tails.sizes in let b : tails.sizes ≡ sizes = from.tail_sizes in omega arith;
    filled = record {
      settled = λ m lt. elim (cases_lt m n) [
        | inl less ↦ below-kept s laid_out n rows new_rows fits in_rows from.filled.settled m less
        | inr ge ↦ (let q : n ≡ m = omega arith in subst (λ z. IsSettled s (2 ^ 128) z (number_at new_rows)) q settled)
      ];
      small = λ e m inside lt. elim (cases_lt m n) [
        | inl less ↦ lesser-small e m inside less
        | inr ge ↦ (let q : n ≡ m = omega arith in subst (λ z. number_at new_rows e z < 2 ^ 128) q (here e inside))
      ];
      each_tail = λ m lt. elim (cases_lt m n) [
        | inl less ↦ lesser-kept s rows tails new_rows new_tails n m in_rows in_tails fits (let q : tails.sizes ≡ sizes = from.tail_sizes in omega arith) less (from.filled.each_tail m less)
        | inr ge ↦ (let q : n ≡ m = omega arith in subst (λ z. HasTails s new_rows new_tails z) q has_tails)
      ];
    };
  }
    where
      fits : n < rows.sizes
      fits = let q : rows.sizes ≡ sizes = from.row_sizes in omega arith

  -- the first node that passes is the one to be told
  pub passing-told : (most e : ℕ) → IsRankable s → n ≤ most → e < length s.nodes → ((d : ℕ) → d < e → number_at new_rows d n < 2 ^ 128) → 2 ^ 128 ≤ number_at new_rows e n → IsTooMany s most e n
  passing-told most e rankable le inside lesser many = settled-too_many s most e n (number_at new_rows) laid_out rankable settled inside le (λ d m there lt. lesser-small d m there lt) lesser many

-- All sizes are filled.
pub all-counts : (s : Spec) → s.mode ≡ Mode.Unlabelled → HasPlainRanges s → IsLaidOut s → IsRankable s → (rows tails : Cells) (most sizes : ℕ) → sizes ≡ suc most → AreFilled s rows tails sizes sizes → AreCounts s most (record { counts = rows; tails = tails })
all-counts s unlabelled plain laid_out rankable rows tails most sizes is h = record {
  unlabelled = unlabelled;
  plain = plain;
  each_node = h.row_nodes;
  each_size = let a : rows.sizes ≡ sizes = h.row_sizes in omega arith;
  counts = λ e n inside le. (settled-counts s (2 ^ 128) most (number_at rows) laid_out rankable (h.filled.settled most (omega arith)) e n inside le).0 (h.filled.small e n inside (omega arith));
  each_row = record { rows = λ e n node le at. exact-row (rule (entries s (number_at rows)) (number_at rows) e node n) (number_at rows e n) ((h.filled.settled most (omega arith)).rows.rows e n node le at).same (h.filled.small e n (slice_get_within s.nodes e node at) (omega arith)) };
  each_tail = λ n le. h.filled.each_tail n (omega arith);
}
  where
    exact-row : (a b : ℕ) → (a ≡ b) ⊎ ((2 ^ 128 ≤ a) × (2 ^ 128 ≤ b)) → b < 2 ^ 128 → b ≡ a
    exact-row a b (inl e) lt = sym e
    exact-row a b (inr k) lt = absurd (let l = k.1 in omega arith)

-- Where the grids of a laid out, rankable specification are filled for all sizes up to most, each
-- count up to there is below 2^128.
pub all-small : (s : Spec) → IsLaidOut s → IsRankable s → (rows tails : Cells) (most sizes : ℕ) → sizes ≡ suc most → AreFilled s rows tails sizes sizes → HasSmallCounts s most
all-small s laid_out rankable rows tails most sizes is h = settled-small s most (number_at rows) laid_out rankable (h.filled.settled most (omega arith)) (λ e n inside le. h.filled.small e n inside (omega arith))

none-large : (v : Option ℕ) → number_of v < 2 ^ 128 → v ≢ None
none-large None lt is = omega arith
none-large (Some k) lt is = absurd (cc)

pub all-known : (s : Spec) (rows tails : Cells) (sizes : ℕ) → sizes ≤ 501 → AreFilled s rows tails sizes sizes → AreKnown rows
all-known s rows tails sizes few h = record {
  few = let b : rows.sizes ≡ sizes = h.row_sizes in omega arith;
  known = λ e n inside lt. none-large (cell rows e n) (h.filled.small e n (let a : rows.nodes ≡ length s.nodes = h.row_nodes in omega arith) (let b : rows.sizes ≡ sizes = h.row_sizes in omega arith));
}
