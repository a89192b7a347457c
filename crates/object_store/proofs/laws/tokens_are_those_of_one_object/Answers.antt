use Rattle.std.proofs.Common.{◌++◌, [], List, refl, ap}
use Rattle.object_store.specs.declared.token.Token.{Token}
use Rattle.object_store.proofs.OneToOne.{one-object, one-of-class}
use Rattle.object_store.proofs.laws.tokens_are_those_of_one_object.Goals as goal

pub returns-clause-there : goal.returns-clause-there
returns-clause-there c = λ s k body o is_body belongs. (record { body = body; is_body = is_body; object = o; belongs = belongs; spelled = refl }, refl)

pub returns-clause-one : goal.returns-clause-one
returns-clause-one c = λ s k tokens of other. one-of-class s k tokens of other

pub returns-clause-at_node : goal.returns-clause-at_node
returns-clause-at_node c = λ s e o p a b same. (one-object s e o p a b [] [] (ap (λ (ts : List Token). ts ++ []) same)).0
