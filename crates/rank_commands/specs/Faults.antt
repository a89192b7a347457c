-- The lines of the causes for which no table is made.
use Rattle.std.specs.Prelude.{ℕ, List, []}
use Rattle.rank_tables.specs.declared.rank_tables.RankFault.{RankFault}
use Rattle.rank_tables.specs.declared.rank_tables.RankFault.TheVariants.{Labelled, Ranged, TooMany}
use Rattle.rank_tables.specs.declared.rank_tables.RankFault.TheVariants.{OutOfMemory}
use Rattle.rank_commands.specs.RankStages.{labelled_line, range_line, too_many_line}

-- The line of a cause; nothing is reported of out of memory.
abbrev pub fault_line : RankFault → List ℕ
fault_line Labelled = labelled_line
fault_line (Ranged e) = range_line e.0
fault_line (TooMany e n) = too_many_line e.0 n
fault_line OutOfMemory = []
