use Rattle.size_window.proofs.Tracing.{traces_start}
use Rattle.size_window.proofs.laws.a_trace_starts_with_its_drawing.Goals as goal

pub returns : goal.returns
returns c = traces_start
