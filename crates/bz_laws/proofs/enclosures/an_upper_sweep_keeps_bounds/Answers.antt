use Rattle.bz_laws.proofs.Sweeps.{upper-swept}
use Rattle.bz_laws.proofs.enclosures.an_upper_sweep_keeps_bounds.Goals as goal

pub returns : goal.returns
returns c = λ s x F told entry value sound cover up k body at t. upper-swept s sound x F told entry value cover up k body at t
