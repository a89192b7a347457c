-- The orders of an object's sets and cycles.
use Rattle.std.specs.Prelude.{ℕ, zero, suc, ◌*◌}
use Rattle.bz_model.specs.Object.{Object, Objects, none, more, count}
use Rattle.bz_model.specs.Measures.{factorial}

-- The orders of a cycle of k parts are k; a cycle of no part counts as one.
abbrev pub cycle_orders : ℕ → ℕ
cycle_orders zero = 1
cycle_orders (suc k) = suc k

-- The orders of an object are k! for each set of k parts, times k for each cycle of k parts.
abbrev mutual
  pub orders : Object → ℕ
  orders Object.Unit_ = 1
  orders Object.Dot = 1
  orders (Object.Pick i o) = orders o
  orders (Object.Tuple os) = all_orders os
  orders (Object.SeqOf os) = all_orders os
  orders (Object.SetOf os) = factorial (count os) * all_orders os
  orders (Object.CycOf os) = cycle_orders (count os) * all_orders os

  -- The orders of all objects of a list, multiplied.
  pub all_orders : Objects → ℕ
  all_orders none = 1
  all_orders (more o os) = orders o * all_orders os
