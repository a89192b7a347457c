use Rattle.command_words.proofs.Excluded.{one_bad_value}
use Rattle.command_words.proofs.laws.words_are_refused_in_one_way.Goals as goal

pub returns-clause-value : goal.returns-clause-value
returns-clause-value c = one_bad_value
