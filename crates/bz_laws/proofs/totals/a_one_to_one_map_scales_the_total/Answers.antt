use Rattle.bz_laws.proofs.Lists.{image-distinct, image-total}
use Rattle.bz_model.specs.Measures.{weight}
use Rattle.bz_laws.proofs.totals.a_one_to_one_map_scales_the_total.Goals as goal

pub returns-clause-distinct : goal.returns-clause-distinct
returns-clause-distinct c = λ g os same d. image-distinct g os same d

pub returns-clause-total : goal.returns-clause-total
returns-clause-total c = λ x factor g os scaled. image-total g (weight x) (weight x) factor os scaled
