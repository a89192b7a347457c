use Rattle.boltz.specs.Answers.{Answers}
use Rattle.call_stages.proofs.Endings.{ended_whole}
use Rattle.boltz.proofs.laws.without_a_failed_write_the_answer_is_whole.Goals as goal

pub returns : goal.returns
returns c = record { whole = λ w o result h fine. ended_whole (Answers w) o result h fine }
