use Rattle.oracle_memo.proofs.Enclosing.{enclosed-from, narrower-from}
use Rattle.oracle_memo.proofs.laws.levels_from_a_start_only_narrow.Goals as goal

pub returns-clause-enclose : goal.returns-clause-enclose
returns-clause-enclose c = λ s x F base start level e sound bits fixed lengths reached some within. enclosed-from s x F sound bits base fixed start lengths reached level e some within

pub returns-clause-narrow : goal.returns-clause-narrow
returns-clause-narrow c = λ s x F base start level e sound bits fixed lengths reached some within. narrower-from s x F sound bits base fixed start lengths reached level e some within
