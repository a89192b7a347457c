use Rattle.std.proofs.Common.{◌≡◌, ◌≤◌, ◌+◌, true, length, drop}
use Rattle.spec_reader.specs.Reading.{plain_tokens}
use Rattle.spec_reader.specs.Faults.{line_names, with_names}
use Rattle.spec_reader.proofs.names.add_names.Given as goal

abbrev pub invariant-loop-placed : goal.invariant-loop-placed
invariant-loop-placed l = record {
  so_far : with_names l.draft.names (line_names l.starts (plain_tokens (drop l.placed-index l.tokens))) ≡ with_names l.fn.draft.names (line_names true (plain_tokens l.tokens));
  others : l.draft ≡ record l.fn.draft { names = l.draft.names };
  few : length l.draft.names ≤ length l.fn.draft.names + l.placed-index;
}
