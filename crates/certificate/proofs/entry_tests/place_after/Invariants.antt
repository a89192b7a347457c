use Rattle.std.proofs.Common.{◌≡◌, ◌+◌, ◌*◌, ◌≤◌, take}
use Rattle.labelling.specs.LabelsByBits.{bits_in}
use Rattle.certificate.proofs.entry_tests.place_after.Given as goal

-- the bits of the cells so far are added
abbrev pub invariant-loop-cell : goal.invariant-loop-cell
invariant-loop-cell l = record {
  end_is : l.end ≡ l.place + bits_in (take l.cell-index l.cells);
  within : l.end ≤ l.place + 60 * l.cell-index;
}
