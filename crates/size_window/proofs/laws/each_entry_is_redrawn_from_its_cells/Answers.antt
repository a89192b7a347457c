use Rattle.size_window.proofs.Redrawing.{course-redrawn}
use Rattle.size_window.proofs.laws.each_entry_is_redrawn_from_its_cells.Goals as goal

pub returns : goal.returns
returns c = λ s faults n. course-redrawn s faults n
