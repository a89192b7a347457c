use Rattle.boltz.proofs.Complete.{draws}
use Rattle.boltz.proofs.laws.what_can_be_drawn_is_drawn.Goals as goal

pub returns : goal.returns
returns c = record { drawn = λ w s x F fast turns limits base start bits ending status text ticks p memory h. draws w s x F fast turns limits base start bits ending status text ticks p memory h }
