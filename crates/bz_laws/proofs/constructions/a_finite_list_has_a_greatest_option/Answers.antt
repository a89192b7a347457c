use Rattle.bz_laws.proofs.Numbered.{greatest}
use Rattle.bz_model.specs.Ideal.{option_of}
use Rattle.bz_laws.proofs.constructions.a_finite_list_has_a_greatest_option.Goals as goal

pub returns : goal.returns
returns c = λ os. greatest option_of os
