-- So many first numbers are put, and there is room for the others.
use Rattle.std.proofs.Common.{◌≡◌, ◌≤◌, vec_len, vec_capacity}
use Rattle.bz_model.specs.Labels.{numbers_from}
use Rattle.labelling.proofs.remaining.first_numbers.Given as goal

abbrev pub invariant-loop-before : goal.invariant-loop-before
invariant-loop-before l = record {
  numbers : l.list.items ≡ numbers_from 1 l.before;
  many : vec_len l.list ≡ l.before;
  room : l.n ≤ vec_capacity l.list;
}
