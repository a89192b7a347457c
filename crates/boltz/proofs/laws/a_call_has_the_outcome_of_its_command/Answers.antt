use Rattle.boltz.proofs.Complete.{outcome-of}
use Rattle.boltz.proofs.laws.a_call_has_the_outcome_of_its_command.Goals as goal

pub returns : goal.returns
returns c = record { outcome = λ w asked status text ticks named memory h. outcome-of w asked named status text ticks memory h }
