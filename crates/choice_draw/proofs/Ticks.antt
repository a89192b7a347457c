-- What an oracle is left with after one raise and another.
use Rattle.std.proofs.Common.{◌≡◌, ℕ, ◌+◌, ◌≤◌, List, arith, refl, subst, ◌∙◌}
use Rattle.bz_model.specs.declared.cell.Bounds.{Bounds}
use Rattle.bz_model.specs.Fraction.{Fraction}
use Rattle.bz_model.specs.Spec.{Spec}
use Rattle.bz_model.specs.Oracle.{AreCosts, cost_between, LeavesOracle}

-- what raising costs, step by step, is what it costs at once
pub ticks-add : (costs other : List ℕ) (first second third from middle to : ℕ) → AreCosts costs → other ≡ costs → from ≤ middle → middle ≤ to → to ≤ 6 → second ≤ first + cost_between costs from middle → third ≤ second + cost_between other middle to → third ≤ first + cost_between costs from to
ticks-add costs other first second third from middle to are same up more six one two =
    let again : third ≤ second + cost_between costs middle to = subst (λ c. third ≤ second + cost_between c middle to) same two in
    omega (arith, are.rising from middle up (omega arith), are.rising middle to more six)

module _ {O : Type 0} (spec_of : O → Spec) (x_of : O → Fraction) (table_of : O → (level node : ℕ) → Bounds) (cost_of : O → List ℕ) (raised_of : O → ℕ) where
  -- nothing was raised yet
  pub oracle-none : (o : O) (ticks : ℕ) → LeavesOracle spec_of x_of table_of cost_of raised_of o o ticks ticks
  oracle-none o ticks = record { spec = refl; x = refl; table = refl; cost = refl; rises = omega arith; ticks = omega arith }

  -- a call after others
  pub oracle-more : (first middle last : O) (before between after : ℕ) → AreCosts (cost_of first) → raised_of last ≤ 6 → LeavesOracle spec_of x_of table_of cost_of raised_of first middle before between → LeavesOracle spec_of x_of table_of cost_of raised_of middle last between after → LeavesOracle spec_of x_of table_of cost_of raised_of first last before after
  oracle-more first middle last before between after are six one two = record {
    spec = two.spec ∙ one.spec;
    x = two.x ∙ one.x;
    table = two.table ∙ one.table;
    cost = two.cost ∙ one.cost;
    rises = let up = one.rises in let more = two.rises in omega arith;
    ticks = ticks-add (cost_of first) (cost_of middle) before between after (raised_of first) (raised_of middle) (raised_of last) are one.cost one.rises two.rises six one.ticks two.ticks;
  }
