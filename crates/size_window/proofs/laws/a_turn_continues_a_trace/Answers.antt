use Rattle.size_window.proofs.Tracing.{turns_continue}
use Rattle.size_window.proofs.laws.a_turn_continues_a_trace.Goals as goal

pub returns : goal.returns
returns c = turns_continue
