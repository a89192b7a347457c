use Rattle.boltz.proofs.Complete.{no_command, words_only}
use Rattle.boltz.proofs.laws.words_are_refused_by_their_line.Goals as goal

pub returns : goal.returns
returns c = record { no_command = λ w fault status text ticks refuses m memory h. no_command w fault status text ticks refuses m memory h; only = words_only }
