use Rattle.bz_laws.proofs.Counted.{high-greatest}
use Rattle.bz_laws.proofs.decisions.a_high_is_the_greatest_option.Goals as goal

pub returns : goal.returns
returns c = λ s e part low high node form o at kind range le b. high-greatest s e part low high node form at kind range le o b
