use Rattle.rank_commands.proofs.Complete.{printed, beyond}
use Rattle.rank_commands.proofs.laws.what_has_a_rank_is_printed.Goals as goal

pub returns : goal.returns
returns c = record {
  printed = λ f file s n r body o belongs status text ticks fit can is ranked memory h. printed f file s n r status text ticks fit can memory h body o belongs is ranked;
  beyond = λ f file s n r body count status text ticks fit can is counted le memory h. beyond f file s n r status text ticks fit can memory h body count is counted le;
}
