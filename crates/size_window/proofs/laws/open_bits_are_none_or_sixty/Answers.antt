use Rattle.std.proofs.Common.{Some}
use Rattle.size_window.specs.RunByBits.{Ending, after}
use Rattle.size_window.proofs.SpelledTurns.{course-spells}
use Rattle.size_window.proofs.OpenBits.{none-left, sixty-left}
use Rattle.size_window.proofs.laws.open_bits_are_none_or_sixty.Goals as goal

pub returns-clause-done : goal.returns-clause-done
returns-clause-done c = λ s faults n is. none-left (after s faults n) s.tape (course-spells s faults n) (Some Ending.Done) is (λ bits h. h)

pub returns-clause-turn_limit : goal.returns-clause-turn_limit
returns-clause-turn_limit c = λ s faults n is. none-left (after s faults n) s.tape (course-spells s faults n) (Some Ending.TurnLimit) is (λ bits h. h)

pub returns-clause-undecided : goal.returns-clause-undecided
returns-clause-undecided c = λ s faults n number is. sixty-left (after s faults n) s.tape (course-spells s faults n) number is
