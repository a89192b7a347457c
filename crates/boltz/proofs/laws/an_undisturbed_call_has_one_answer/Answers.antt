use Rattle.boltz.proofs.Calls.{OutcomeLaw, one_answer}
use Rattle.boltz.proofs.laws.an_undisturbed_call_has_one_answer.Goals as goal

pub returns : goal.returns
returns c =
    let law : OutcomeLaw = record { one = c.each_command_has_one_outcome.ensures.one } in
    record { one = one_answer law }
