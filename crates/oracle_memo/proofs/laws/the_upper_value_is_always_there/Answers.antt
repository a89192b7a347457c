use Rattle.oracle_memo.proofs.Enclosing.{upper-there}
use Rattle.oracle_memo.proofs.laws.the_upper_value_is_always_there.Goals as goal

pub returns : goal.returns
returns c = λ s x F base start level e sound bits fixed some within. upper-there s x F sound bits base fixed start level e some within
