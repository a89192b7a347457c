use Rattle.command_words.proofs.Excluded.{no_bad_value}
use Rattle.command_words.proofs.laws.a_command_is_not_refused.Goals as goal

pub returns-clause-value : goal.returns-clause-value
returns-clause-value c = no_bad_value
