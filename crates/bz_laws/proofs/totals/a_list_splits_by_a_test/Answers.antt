use Rattle.bz_laws.proofs.Lists.{filter-distinct, filter-total}
use Rattle.bz_model.specs.Measures.{weight}
use Rattle.bz_laws.proofs.totals.a_list_splits_by_a_test.Goals as goal

pub returns-clause-distinct : goal.returns-clause-distinct
returns-clause-distinct c = λ test os d. filter-distinct test os d

pub returns-clause-total : goal.returns-clause-total
returns-clause-total c = λ x test os. filter-total (weight x) test os
