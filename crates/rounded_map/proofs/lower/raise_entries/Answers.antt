use Rattle.std.proofs.Common.{arith, max, map}
use Rattle.std.specs.Prelude.{slice_index}
use Rattle.class_system.specs.Views.{number}
use Rattle.rounded_map.proofs.PartsListed.{part-in_range}
use Rattle.rounded_map.proofs.Entries.{body-at, swept-more, swept-all}
use Rattle.rounded_map.proofs.lower.raise_entries.Goals as goal

pub bounds-values-bodies : goal.bounds-values-bodies
bounds-values-bodies c = part-in_range c.args.bodies.now _ c.loop-c.c _ (omega arith) c.requires.bodies

pub loop-c-preserved : goal.loop-c-preserved
loop-c-preserved c =
    swept-more max c.loop-c.classes (map (slice_index c.args.values.now) (map number c.args.bodies.now)) c.loop-c.c _ _ _ (omega arith) (body-at (slice_index c.args.values.now) c.args.bodies.now c.loop-c.c _ (omega arith)) c.max.ensures c.loop-c.invariant

pub returns : goal.returns
returns c = record { raised = swept-all max c.loop-c.classes (map (slice_index c.args.values.now) (map number c.args.bodies.now)) c.loop-c.c _ (omega arith) c.loop-c.invariant }
