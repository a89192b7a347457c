-- The command `oracle`: what its levels cost, and what follows a base.
use Rattle.std.proofs.Common.{◌≡◌, ℕ, ◌+◌, ◌≤◌, max, List, arith, ap, sym, refl, ◌∙◌}
use Rattle.std.specs.Prelude.{Option, Some, slice_index}
use Rattle.oracle_memo.specs.Levels.{cost_at, costs}
use Rattle.oracle_memo.proofs.Raising.{costs-at, are_costs}

-- no level costs more than the last
pub costs_no_more : (level : ℕ) → level ≤ 6 → cost_at level ≤ cost_at 6
costs_no_more level few =
    let rising = are_costs.rising level 6 few (omega arith) in
    let here = costs-at level few in
    let last = costs-at 6 (omega arith) in
    omega (arith, rising, here, last)

-- a memo that is raised from one level to the next
pub level_ticks : (start now next raised before : ℕ) → now ≤ start + cost_at before → raised ≡ before → next + cost_at raised ≡ now + cost_at (max raised (before + 1)) → next ≤ start + cost_at (before + 1)
level_ticks start now next raised before few is ticks =
    let old : cost_at raised ≡ cost_at before = ap cost_at is in
    let top : max raised (before + 1) ≡ before + 1 = omega arith in
    let new : cost_at (max raised (before + 1)) ≡ cost_at (before + 1) = ap cost_at top in
    omega (arith, few, ticks, old, new)
