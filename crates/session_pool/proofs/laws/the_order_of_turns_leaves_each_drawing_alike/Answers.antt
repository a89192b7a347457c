use Rattle.session_pool.proofs.Alike.{alike-named, alike-ended}
use Rattle.session_pool.proofs.laws.the_order_of_turns_leaves_each_drawing_alike.Goals as goal

pub returns-clause-named : goal.returns-clause-named
returns-clause-named c = alike-named c.a_told_trace_is_the_course_of_its_tape.ensures.courses

pub returns-clause-ended : goal.returns-clause-ended
returns-clause-ended c = alike-ended c.a_told_trace_is_the_course_of_its_tape.ensures.ended
