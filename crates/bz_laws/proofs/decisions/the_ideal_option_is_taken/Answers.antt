use Rattle.bz_laws.proofs.Makings.{ideal-taken}
use Rattle.bz_laws.proofs.decisions.the_ideal_option_is_taken.Goals as goal

pub returns : goal.returns
returns c = λ s x u e i h. let t = ideal-taken s x u e i h in (t.object, t.belongs, t.option)
