use Rattle.std.proofs.Common.{◌≡◌, ℕ, ◌<◌, ◌≤◌, ◌⊎◌, length}
use Rattle.choice_draw.specs.KeptChoices.{kept_at}
use Rattle.choice_draw.proofs.kept.put_all.Given as goal

-- the choice stands from the start on, and every other place is as it was
abbrev pub invariant-loop-i : goal.invariant-loop-i
invariant-loop-i l = record {
  same : length l.choices ≡ length l.fn.choices;
  inside : (k : ℕ) → l.start ≤ k → k < l.i → kept_at l.choices k ≡ l.choice;
  outside : (k : ℕ) → (k < l.start) ⊎ (l.i ≤ k) → kept_at l.choices k ≡ kept_at l.fn.choices k;
}
