use Rattle.oracle_memo.proofs.Enclosing.{enclosed, narrower}
use Rattle.oracle_memo.proofs.laws.levels_only_narrow.Goals as goal

pub returns-clause-enclose : goal.returns-clause-enclose
returns-clause-enclose c = λ s x F base level e sound bits fixed some within. enclosed s x F sound bits base fixed level e some within

pub returns-clause-narrow : goal.returns-clause-narrow
returns-clause-narrow c = λ s x F base level e sound bits fixed some within. narrower s x F sound bits base fixed level e some within
