use Rattle.bz_laws.proofs.Lists.{pairs-distinct, pairs-total}
use Rattle.bz_model.specs.Measures.{weight}
use Rattle.bz_laws.proofs.totals.all_pairs_total_the_product.Goals as goal

pub returns-clause-distinct : goal.returns-clause-distinct
returns-clause-distinct c = λ os ps d e. pairs-distinct os ps d e

pub returns-clause-total : goal.returns-clause-total
returns-clause-total c = λ x os ps. pairs-total (weight x) (weight x) os ps
