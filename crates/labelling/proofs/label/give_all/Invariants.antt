use Rattle.std.proofs.Common.{◌≡◌, ◌+◌, ◌-◌, ◌≤◌, false, length}
use Rattle.std.specs.List.{AllByRecursion}
use Rattle.bz_model.specs.Cell.{IsCell}
use Rattle.bit_tape.specs.Tape.{LeavesTape, bits_of_source}
use Rattle.labelling.specs.LabelsByBits.{bits_in}
use Rattle.labelling.proofs.GivenLabels.{IsGivenSoFar}
use Rattle.labelling.proofs.Naming.{NamesIdeally}
use Rattle.labelling.proofs.label.give_all.Given as goal

-- m labels remain, and the labelling goes on with them
abbrev pub invariant-atoms : goal.invariant-atoms
invariant-atoms g l = record {
  few : l.m ≤ l.fn.n;
  some : 1 ≤ l.fn.n → 1 ≤ l.m;
  remaining : length l.progress.remaining ≡ l.m;
  cells : length l.progress.cells ≡ l.fn.n - l.m;
  each : AllByRecursion (λ c. IsCell c.k c.b) l.progress.cells;
  used : l.tape.used ≡ l.fn.tape.used + bits_in l.progress.cells;
  names : NamesIdeally l.fn.n l.progress;
  goes : IsGivenSoFar (bits_of_source l.fn.tape.source (g.S.Shelf.content l.fn.shelf)) l.fn.n l.fn.tape.used l.m l.progress l.tape.used;
  tape : LeavesTape g.S.Shelf.content g.S.Shelf.faults false l.fn.shelf l.shelf l.fn.tape l.tape;
}

abbrev pub decreases-atoms : goal.decreases-atoms
decreases-atoms g l = l.m
