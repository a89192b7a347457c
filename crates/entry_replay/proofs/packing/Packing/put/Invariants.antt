use Rattle.std.proofs.Common.{◌≡◌, ◌++◌, ◌≤◌}
use Rattle.bz_model.specs.Cell.{bits_of}
use Rattle.entry_replay.proofs.packing.Packing.put.Given as goal

-- so many bits of the cell are left
abbrev pub invariant-bits : goal.invariant-bits
invariant-bits l = record {
  within : l.left ≤ l.cell.b;
  put_so_far : l.self ++ bits_of l.left l.cell.k ≡ l.initial.self ++ bits_of l.cell.b l.cell.k;
}

abbrev pub decreases-bits : goal.decreases-bits
decreases-bits l = l.left
