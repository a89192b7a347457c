use Rattle.std.proofs.Common.{◌≡◌, ℕ, ◌-◌, ◌≤◌, None}
use Rattle.choice_draw.specs.Decision.{whole_decision}
use Rattle.choice_draw.specs.Whole.{peeked_cell}
use Rattle.choice_draw.proofs.whole.look_ahead.Given as goal

-- no fewer of the bits decide, nor do these
abbrev pub invariant-bits : goal.invariant-bits
invariant-bits l = record {
  held : l.b ≤ l.ahead.count;
  undecided : (j : ℕ) → j ≤ l.b → whole_decision l.m (peeked_cell l.ahead.word j) ≡ None;
}

abbrev pub decreases-bits : goal.decreases-bits
decreases-bits l = l.ahead.count - l.b
