use Rattle.std.proofs.Common.{◌≡◌, ℕ, ◌<◌, get_or}
use Rattle.choice_draw.proofs.level_bounds.LevelBounds.is_for.Given as goal

-- the bounds of the parts so far are the oracle's
abbrev pub invariant-loop-i : goal.invariant-loop-i
invariant-loop-i g l = (k : ℕ) → k < l.i → get_or l.self-inside.parts.items k (record { lo = 0; hi = 0 }) ≡ g.O.Oracle.table l.oracle l.level (get_or l.parts k (record { 0 = 0 })).0
