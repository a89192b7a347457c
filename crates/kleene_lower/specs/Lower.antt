-- Vectors of class values after some number of lower sweeps from a start, which is zero or another
-- vector.
use Rattle.std.specs.Prelude.{◌≡◌, ℕ, List, length, replicate}
use Rattle.rounded_map.specs.RoundedMap.{Setting, repeated, sweep_down}

-- The entries, how many node values there is room for, and the number of sweeps done.
pub record Sweeps : Type 0 where
  pub entries : List ℕ
  pub room : ℕ
  pub done : ℕ

-- The vector after n lower sweeps from a start.
abbrev pub swept_from : Setting → (start : List ℕ) → ℕ → List ℕ
swept_from t start n = repeated (sweep_down t) n start

-- Zero for each class.
abbrev pub zeros : Setting → List ℕ
zeros t = replicate (length t.spec.bodies) 0

-- The vector after n lower sweeps from zero.
abbrev pub swept_from_zero : Setting → ℕ → List ℕ
swept_from_zero t n = swept_from t (zeros t) n

-- The start has an entry for each class, the entries are those after the sweeps done from it, and
-- there is room for the values of all nodes.
pub record AreSweepsFrom (t : Setting) (start : List ℕ) (s : Sweeps) : Type 0 where
  pub one_per_class : length start ≡ length t.spec.bodies
  pub entries : s.entries ≡ swept_from t start s.done
  pub room : s.room ≡ length t.spec.nodes
