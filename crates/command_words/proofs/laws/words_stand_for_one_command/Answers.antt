use Rattle.command_words.proofs.Unique.{one_command}
use Rattle.command_words.proofs.laws.words_stand_for_one_command.Goals as goal

pub returns : goal.returns
returns c = one_command
