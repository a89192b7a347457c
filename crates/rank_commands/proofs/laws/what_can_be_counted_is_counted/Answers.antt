use Rattle.rank_commands.proofs.Complete.{counted}
use Rattle.rank_commands.proofs.laws.what_can_be_counted_is_counted.Goals as goal

pub returns : goal.returns
returns c = record { counted = λ f file s most count status text ticks fit can are memory h. counted f file s most count status text ticks fit can are memory h }
