use Rattle.bz_laws.proofs.Decide.{uniform}
use Rattle.bz_laws.proofs.decisions.cells_have_uniform_numbers.Goals as goal

pub returns : goal.returns
returns c = uniform
