use Rattle.std.proofs.Common.{◌≡◌, true, drop}
use Rattle.spec_reader.specs.Faults.{first_fault}
use Rattle.spec_reader.proofs.names.fault_behind.Given as goal

abbrev pub invariant-loop-placed : goal.invariant-loop-placed
invariant-loop-placed l = first_fault l.draft.mode l.draft.names l.seen l.starts (drop l.placed-index l.tokens) ≡ first_fault l.draft.mode l.draft.names l.initial.seen true l.tokens
