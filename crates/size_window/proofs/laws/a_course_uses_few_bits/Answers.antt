use Rattle.size_window.proofs.FewBits.{course-few}
use Rattle.size_window.proofs.laws.a_course_uses_few_bits.Goals as goal

pub returns : goal.returns
returns c = λ s faults n. course-few s faults n
