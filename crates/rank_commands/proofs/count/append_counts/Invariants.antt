use Rattle.std.proofs.Common.{◌≡◌, ◌++◌}
use Rattle.call_stages.specs.Lines.{lines_below}
use Rattle.rank_tables.specs.Tables.{count_told}
use Rattle.rank_commands.specs.CountCommand.{size_line}
use Rattle.rank_commands.proofs.count.append_counts.Given as goal

-- the lines of the sizes so far are appended
abbrev pub invariant-loop-size : goal.invariant-loop-size
invariant-loop-size l = l.text.items ≡ l.initial.text.items ++ lines_below (size_line (count_told l.tables l.node.0)) l.size
