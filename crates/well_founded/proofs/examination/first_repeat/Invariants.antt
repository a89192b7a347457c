use Rattle.std.proofs.Common.{ℕ, ◌<◌}
use Rattle.well_founded.specs.Foundedness.{RepeatsZero}
use Rattle.well_founded.proofs.examination.first_repeat.Given as goal

abbrev pub invariant-loop-e : goal.invariant-loop-e
invariant-loop-e l = (k : ℕ) → k < l.e → ¬ (RepeatsZero l.system k)
