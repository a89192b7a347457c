use Rattle.bz_laws.proofs.Lists.{join-distinct, join-total}
use Rattle.bz_model.specs.Measures.{weight}
use Rattle.bz_laws.proofs.totals.lists_without_a_common_object_join.Goals as goal

pub returns-clause-distinct : goal.returns-clause-distinct
returns-clause-distinct c = λ os ps d e h. join-distinct os ps d e h

pub returns-clause-total : goal.returns-clause-total
returns-clause-total c = λ x os ps. join-total (weight x) os ps
