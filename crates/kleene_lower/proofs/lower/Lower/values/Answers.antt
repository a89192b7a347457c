use Rattle.std.proofs.Common.{◌∙◌, ap}
use Rattle.kleene_lower.specs.Lower.{Sweeps}
use Rattle.kleene_lower.proofs.Advance.{reached}
use Rattle.kleene_lower.proofs.lower.Lower.values.Goals as goal

pub returns-clause-reached : goal.returns-clause-reached
returns-clause-reached g c = λ s num den start sound positive below are. reached s num den g.row.F start c.args.self.now c.as_slice.result.now sound positive below are (c.as_slice.ensures.value ∙ ap (λ (v : Sweeps). v.entries) c.self.view_is)
