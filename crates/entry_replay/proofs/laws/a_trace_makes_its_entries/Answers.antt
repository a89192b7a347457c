use Rattle.entry_replay.proofs.Traces.{trace-makes}
use Rattle.entry_replay.proofs.laws.a_trace_makes_its_entries.Goals as goal

pub returns : goal.returns
returns c = λ s x F table limits told turns most k t. trace-makes s x F table limits told turns most k t
