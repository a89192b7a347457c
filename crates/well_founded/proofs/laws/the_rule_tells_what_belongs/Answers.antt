use Rattle.well_founded.proofs.Orderly.{orderly}
use Rattle.well_founded.proofs.Least.{some-belongs, belongs-some, empty-belongs, belongs-empty}
use Rattle.well_founded.proofs.laws.the_rule_tells_what_belongs.Goals as goal

pub returns-clause-any_size : goal.returns-clause-any_size
returns-clause-any_size c = λ s e sound. (some-belongs s (orderly s sound) e, λ h. belongs-some s e h.0 h.1)

pub returns-clause-size_0 : goal.returns-clause-size_0
returns-clause-size_0 c = λ s e sound. (empty-belongs s (orderly s sound) e, belongs-empty s e)
