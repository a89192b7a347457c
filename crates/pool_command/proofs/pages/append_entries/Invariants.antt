use Rattle.std.proofs.Common.{◌≡◌, ℕ, ◌++◌, List, map, take}
use Rattle.size_window.specs.Turn.{entry_of}
use Rattle.sample_command.specs.Drawn.{Lists}
use Rattle.pool_command.proofs.pages.append_entries.Given as goal

-- the lines of the entries so far are appended
abbrev pub invariant-loop-entry : goal.invariant-loop-entry
invariant-loop-entry l = (lines : List ℕ) × Lists l.founded (map entry_of (take l.entry-index l.entries)) lines × (l.text.items ≡ l.initial.text.items ++ lines)
