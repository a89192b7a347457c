use Rattle.bz_laws.proofs.Lists.{sub_list-at_most}
use Rattle.bz_model.specs.Measures.{weight}
use Rattle.bz_laws.proofs.totals.a_sub_list_totals_no_more.Goals as goal

pub returns : goal.returns
returns c = λ x some all d h. sub_list-at_most (weight x) some all d h
