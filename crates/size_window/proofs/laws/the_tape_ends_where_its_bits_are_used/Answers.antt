use Rattle.size_window.proofs.TapeEnds.{files_end_rightly, seeds_never_end}
use Rattle.size_window.proofs.laws.the_tape_ends_where_its_bits_are_used.Goals as goal

pub returns-clause-files : goal.returns-clause-files
returns-clause-files c = files_end_rightly

pub returns-clause-seeds : goal.returns-clause-seeds
returns-clause-seeds c = seeds_never_end
