use Rattle.std.proofs.Common.{◌≡◌, ◌≤◌, ◌+◌, ◌*◌, ℕ, List, length, take}
use Rattle.spec_reader.specs.Machine.{ReaderState, run}
use Rattle.spec_reader.specs.Reading.{plain_tokens}
use Rattle.spec_reader.specs.Building.{kept_in_sums, Represents}
use Rattle.spec_reader.proofs.parser.Reader.take_all.Given as goal

abbrev pub invariant-loop-i : goal.invariant-loop-i
invariant-loop-i l = record {
  few : length l.self.sums.draft.nodes ≤ length l.fn.self.sums.draft.nodes + 3 * l.i;
  same_names : l.self.sums.draft.names ≡ l.fn.self.sums.draft.names;
  so_far : (names : List (List ℕ)) → (s : ReaderState) → Represents names s l.fn.self.expects (kept_in_sums l.fn.self.sums) → Represents names (run s (plain_tokens (take l.i l.tokens))) l.self.expects (kept_in_sums l.self.sums);
}
