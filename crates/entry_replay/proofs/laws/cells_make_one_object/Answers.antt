use Rattle.entry_replay.proofs.Refusals.{made-of-one}
use Rattle.entry_replay.proofs.laws.cells_make_one_object.Goals as goal

pub returns : goal.returns
returns c = λ s F table greatest cells sound tokens others labels told h i. made-of-one s sound F table greatest cells tokens others labels told h i
