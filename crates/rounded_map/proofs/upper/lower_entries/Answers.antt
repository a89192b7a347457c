use Rattle.std.proofs.Common.{arith, map}
use Rattle.rounded_map.specs.RoundedMap.{lesser, value_at}
use Rattle.class_system.specs.Views.{number}
use Rattle.rounded_map.proofs.PartsListed.{part-in_range}
use Rattle.rounded_map.proofs.Entries.{body-at, swept-more, swept-all}
use Rattle.rounded_map.proofs.upper.lower_entries.Goals as goal

pub bounds-values-bodies : goal.bounds-values-bodies
bounds-values-bodies c = part-in_range c.args.bodies.now _ c.loop-c.c _ (omega arith) c.requires.bodies

pub loop-c-preserved : goal.loop-c-preserved
loop-c-preserved c =
    swept-more lesser c.loop-c.classes (map (value_at c.args.values.now) (map number c.args.bodies.now)) c.loop-c.c _ _ _ (omega arith) (body-at (value_at c.args.values.now) c.args.bodies.now c.loop-c.c _ (omega arith)) c.lesser_of.ensures c.loop-c.invariant

pub returns : goal.returns
returns c = record { lowered = swept-all lesser c.loop-c.classes (map (value_at c.args.values.now) (map number c.args.bodies.now)) c.loop-c.c _ (omega arith) c.loop-c.invariant }
