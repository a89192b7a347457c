use Rattle.well_founded.proofs.Orderly.{orderly}
use Rattle.well_founded.proofs.Stages.{marked-zero, zero-marked}
use Rattle.size_window.proofs.TablesIdeally.{chooses-by}
use Rattle.size_window.proofs.laws.a_table_has_its_chooser.Goals as goal

pub returns-clause-chooses : goal.returns-clause-chooses
returns-clause-chooses c = λ s F table is_free frees. chooses-by s F table is_free frees

pub returns-clause-computed : goal.returns-clause-computed
returns-clause-computed c = λ s part sound. (marked-zero s (orderly s sound) part, zero-marked s (orderly s sound) part)
