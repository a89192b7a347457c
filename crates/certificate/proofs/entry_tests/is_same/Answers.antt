use Rattle.std.proofs.Common.{sym, ◌∙◌}
use Rattle.std.specs.Cmp.Lexicographic.{same_text, other_text}
use Rattle.certificate.proofs.entry_tests.is_same.Goals as goal

pub returns-clause-same : goal.returns-clause-same
returns-clause-same c = λ is. same_text c.args.these.now c.args.those.now (sym is ∙ c.eq.ensures)

pub returns-clause-other : goal.returns-clause-other
returns-clause-other c = λ is. other_text c.args.these.now c.args.those.now (sym is ∙ c.eq.ensures)
