use Rattle.bz_laws.proofs.Fractions.{plus-mono, times-mono}
use Rattle.bz_laws.proofs.Samples.{scaled_le, scaled_ge}
use Rattle.bz_model.specs.Measures.{weight}
use Rattle.bz_laws.proofs.order.sums_and_products_grow.Goals as goal

pub returns-clause-sum : goal.returns-clause-sum
returns-clause-sum c = λ a b d e h k. plus-mono h k

pub returns-clause-product : goal.returns-clause-product
returns-clause-product c = λ a b d e h k. times-mono h k

pub returns-clause-distributes : goal.returns-clause-distributes
returns-clause-distributes c = λ x a os. record { at_most = scaled_ge (weight x) a os; at_least = scaled_le (weight x) a os }
