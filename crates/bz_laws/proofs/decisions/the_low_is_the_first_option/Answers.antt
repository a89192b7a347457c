use Rattle.bz_laws.proofs.First.{low-decided, low-only, none-ideal-below}
use Rattle.std.proofs.Common.{arith}
use Rattle.bz_laws.proofs.decisions.the_low_is_the_first_option.Goals as goal

pub returns-clause-decided : goal.returns-clause-decided
returns-clause-decided c = λ s x u k b F e part low lo hi high node form o p belongs at kind ranged up down h cell. low-decided s e part low high node form at kind ranged x u k b F lo hi p o belongs up down h cell

pub returns-clause-only : goal.returns-clause-only
returns-clause-only c = λ s x u e part low node form o at kind ranged b. low-only s x u e part low node form at kind ranged o b

pub returns-clause-over : goal.returns-clause-over
returns-clause-over c = λ s x u e part low room i high node form at kind ranged lt le. none-ideal-below s e part low high node form at kind ranged x u i (omega arith)
