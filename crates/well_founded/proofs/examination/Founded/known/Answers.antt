use Rattle.well_founded.proofs.Judged.{node-inhabited, zero-decided}
use Rattle.well_founded.proofs.examination.Founded.known.Goals as goal

pub returns-clause-inhabited : goal.returns-clause-inhabited
returns-clause-inhabited c = rw (← c.self.view_is) (node-inhabited _ c.known.ensures.sound c.self.invariant.well_founded.inhabited)

pub returns-clause-decided : goal.returns-clause-decided
returns-clause-decided c = rw (← c.self.view_is) (zero-decided _ _ c.known.ensures.sound c.self.invariant.zeros)
