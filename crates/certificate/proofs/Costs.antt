-- What raising levels costs at most.
use Rattle.std.proofs.Common.{◌≡◌, ℕ, ◌+◌, ◌≤◌, arith, refl}
use Rattle.std.specs.Prelude.{slice_index}
use Rattle.bz_model.specs.Oracle.{AreCosts, cost_between}
use Rattle.oracle_memo.specs.Levels.{costs}

-- If costs never fall, raising to a level of at most 6 takes at most 8204 ticks, the cost of level
-- 6.
pub ticks-bound : (before now from to : ℕ) → AreCosts costs → to ≤ 6 → now ≤ before + cost_between costs from to → now ≤ before + 8204
unfolding costs
ticks-bound before now from to are le h =
    let six : slice_index costs 6 ≡ 8204 = refl in
    let up = are.rising to 6 le (omega arith) in
    omega (arith, six, up, h)
