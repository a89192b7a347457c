use Rattle.std.proofs.Common.{arith}
use Rattle.rounded_map.proofs.PartsListed.{first-in_range, rest-in_range}
use Rattle.rounded_map.proofs.upper.union_hi.Goals as goal

pub bounds-before-first : goal.bounds-before-first
bounds-before-first c = first-in_range c.args.parts.now _ (omega arith) c.requires.parts

pub bounds-before-part : goal.bounds-before-part
bounds-before-part c = rest-in_range c.args.parts.now _ _ c.loop-part-test.true c.requires.parts
