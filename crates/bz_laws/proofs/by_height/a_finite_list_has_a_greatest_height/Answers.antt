use Rattle.bz_laws.proofs.Tallest.{tallest}
use Rattle.bz_laws.proofs.by_height.a_finite_list_has_a_greatest_height.Goals as goal

pub returns : goal.returns
returns c = λ s e os b. tallest s e os b
