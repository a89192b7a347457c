use Rattle.std.proofs.Common.{◌≡◌, ℕ, ◌<◌, ◌≤◌, ◌⊎◌, length}
use Rattle.count_draw.specs.FirstCounts.{kept_at}
use Rattle.count_draw.proofs.first_counts.put_all.Given as goal

-- what is put stands from the start on, and every other place is as it was
abbrev pub invariant-loop-i : goal.invariant-loop-i
invariant-loop-i l = record {
  same : length l.counts ≡ length l.fn.counts;
  inside : (k : ℕ) → l.start ≤ k → k < l.i → kept_at l.counts k ≡ l.first;
  outside : (k : ℕ) → (k < l.start) ⊎ (l.i ≤ k) → kept_at l.counts k ≡ kept_at l.fn.counts k;
}
