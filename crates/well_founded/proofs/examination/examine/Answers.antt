use Rattle.well_founded.proofs.Judged.{tells-unfounded}
use Rattle.well_founded.proofs.examination.examine.Goals as goal

pub returns-in-Err-clause-unfounded : goal.returns-in-Err-clause-unfounded
returns-in-Err-clause-unfounded c = tells-unfounded c.args.system c.in-Err.cause c.known.ensures.sound c.in-Err.ensures.cause
