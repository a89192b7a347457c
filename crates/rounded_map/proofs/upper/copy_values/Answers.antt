use Rattle.std.proofs.Common.{arith}
use Rattle.rounded_map.proofs.Entries.{copied-there}
use Rattle.rounded_map.proofs.upper.copy_values.Goals as goal

pub returns-in-None-clause-fault : goal.returns-in-None-clause-fault
returns-in-None-clause-fault c = record {
  within = omega arith;
  missing = c.in-None.is;
  before = λ i below. copied-there c.loop-e.nodes c.args.values.now c.loop-e.e i c.loop-e.invariant below (omega arith);
}
