use Rattle.bz_laws.proofs.WeightForm.{weight-form}
use Rattle.bz_laws.proofs.objects.a_weight_is_a_power_over_the_orders.Goals as goal

pub returns-clause-num : goal.returns-clause-num
returns-clause-num c = λ x o. (weight-form x o).0

pub returns-clause-den : goal.returns-clause-den
returns-clause-den c = λ x o. (weight-form x o).1
