use Rattle.size_window.proofs.Ordering.{course-in-order}
use Rattle.size_window.proofs.laws.the_entries_of_a_course_are_in_order.Goals as goal

pub returns : goal.returns
returns c = λ s faults n. course-in-order s faults n
