-- That the vectors of a Newton step have an entry for each class.
use Rattle.std.specs.Prelude.{◌≡◌, ℕ, length}
use Rattle.newton_upper.specs.Newton.{IsSquare}
use Rattle.newton_upper.specs.declared.neumann_series.Sums.{Sums}
use Rattle.newton_upper.specs.declared.newton.Newton.{Newton}

-- The matrix is square, and it and both vectors are of n classes.
pub record AreSums (n : ℕ) (s : Sums) : Type 0 where
  pub matrix : IsSquare n s.matrix
  pub gap : length s.gap ≡ n
  pub margin : length s.margin ≡ n

-- The next vector and the proposal are of n classes.
pub record AreSteps (n : ℕ) (s : Newton) : Type 0 where
  pub next : length s.next ≡ n
  pub proposal : length s.proposal ≡ n
