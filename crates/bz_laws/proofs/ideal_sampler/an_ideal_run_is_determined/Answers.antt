use Rattle.bz_laws.proofs.Runs.{one_run}
use Rattle.std.proofs.Common.{arith}
use Rattle.bz_laws.proofs.ideal_sampler.an_ideal_run_is_determined.Goals as goal

pub returns : goal.returns
returns c = λ s x w us left after kept others thrown h k n. let r = one_run s x w us h k (omega arith) in (r.0, r.2)
