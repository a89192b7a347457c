use Rattle.std.proofs.Common.{◌≡◌, ℕ, ◌+◌, ◌<◌, length}
use Rattle.std.specs.Prelude.{slice_index}
use Rattle.oracle_memo.specs.Memos.{bounds_at, bounds_before, drawn_in}
use Rattle.oracle_memo.proofs.rows.write_row.Given as goal

-- the places so far are written, and those before the row stay
abbrev pub invariant-loop-e : goal.invariant-loop-e
invariant-loop-e l = record {
  written : (k : ℕ) → k < l.e → bounds_at l.table (l.start + k) ≡ drawn_in (bounds_before l.initial.table (length l.low) l.start k) (slice_index l.low k) (slice_index l.high k);
  others : (i : ℕ) → i < l.start → bounds_at l.table i ≡ bounds_at l.initial.table i;
}
