use Rattle.object_text.proofs.Agreeing.{one-object-read, no-fault-read, one-fault-told}
use Rattle.object_text.proofs.laws.a_text_has_one_answer.Goals as goal

pub returns-clause-one_object : goal.returns-clause-one_object
returns-clause-one_object c = λ s sound limits c text tokens others labels told a b. one-object-read s sound limits c text tokens others labels told a b

pub returns-clause-no_fault : goal.returns-clause-no_fault
returns-clause-no_fault c = λ s sound limits c text tokens labels fault a t. no-fault-read s sound limits c text tokens labels fault a t

pub returns-clause-one_fault : goal.returns-clause-one_fault
returns-clause-one_fault c = λ s sound limits c text fault other a b x y. one-fault-told s sound limits c text fault other a b x y
