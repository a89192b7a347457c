use Rattle.size_window.proofs.Going.{goes-start}
use Rattle.size_window.proofs.laws.a_course_goes_from_its_start.Goals as goal

pub returns : goal.returns
returns c = λ s x limits. goes-start s x limits
