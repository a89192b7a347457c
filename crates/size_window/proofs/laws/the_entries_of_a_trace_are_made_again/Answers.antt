use Rattle.size_window.proofs.TraceEntries.{trace-entries}
use Rattle.size_window.proofs.laws.the_entries_of_a_trace_are_made_again.Goals as goal

pub returns : goal.returns
returns c = λ s x F table limits told turns most k sound p. trace-entries s x F table limits told turns most k p sound
