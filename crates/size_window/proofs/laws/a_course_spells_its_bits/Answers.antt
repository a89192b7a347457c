use Rattle.size_window.proofs.SpelledTurns.{course-spells}
use Rattle.size_window.proofs.laws.a_course_spells_its_bits.Goals as goal

pub returns : goal.returns
returns c = λ s faults n. course-spells s faults n
