use Rattle.size_window.proofs.TablesIdeally.{table-ideally}
use Rattle.size_window.proofs.laws.a_sound_table_decides_ideally.Goals as goal

pub returns : goal.returns
returns c = λ s x F table is_free sound bounded frees. table-ideally s x F table is_free sound bounded frees
