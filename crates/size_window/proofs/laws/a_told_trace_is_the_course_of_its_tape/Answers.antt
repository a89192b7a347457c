use Rattle.size_window.proofs.ToldTraces.{told_traces_are_courses, ended_traces_are_one}
use Rattle.size_window.proofs.laws.a_told_trace_is_the_course_of_its_tape.Goals as goal

pub returns-clause-courses : goal.returns-clause-courses
returns-clause-courses c = told_traces_are_courses

pub returns-clause-ended : goal.returns-clause-ended
returns-clause-ended c = ended_traces_are_one
