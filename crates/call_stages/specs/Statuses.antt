-- The numbers of the program's answers.
use Rattle.std.specs.Prelude.{ℕ}
use Rattle.call_stages.specs.declared.status.Status.{Status}

abbrev pub status_number : Status → ℕ
status_number Status.Done = 0
status_number Status.WordsRefused = 2
status_number Status.SpecRefused = 3
status_number Status.NoUpper = 4
status_number Status.TapeEnded = 5
status_number Status.Undecided = 6
status_number Status.TurnLimit = 7
status_number Status.ReadFault = 8
status_number Status.WriteFault = 9
status_number Status.OutOfMemory = 10
status_number Status.CertRefused = 11
status_number Status.NoFast = 12
status_number Status.PointRefused = 13
status_number Status.ObjectRefused = 14
status_number Status.RankRefused = 15
