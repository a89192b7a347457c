-- The words of a seed that are still to come.
use Rattle.std.specs.Prelude.{ℕ}

-- A seed, and the place of its next word.
pub record SeedWords : Type 0 where
  pub seed : ℕ
  pub place : ℕ
