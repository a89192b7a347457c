use Rattle.bz_laws.proofs.Unions.{last-greatest}
use Rattle.bz_laws.proofs.decisions.the_last_part_is_the_greatest_option.Goals as goal

pub returns : goal.returns
returns c = λ s e i part parts o node len at b. last-greatest s e parts node i part o len at b
