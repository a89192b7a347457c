use Rattle.std.proofs.Common.{◌<◌, arith, length, map, slice_index, get_or}
use Rattle.class_system.specs.Views.{number}
use Rattle.class_system.proofs.Results.{mapped-at}
use Rattle.class_system.proofs.Depths.{greatest-more, index_le}
use Rattle.class_system.proofs.limits.depth_above.Goals as goal

pub bounds-depths-part : goal.bounds-depths-part
bounds-depths-part c =
    let within : c.loop-part.part-index < length c.args.parts.now = omega arith in
    c.requires.in_range.at _ _ (mapped-at number c.args.parts.now c.loop-part.part-index (record { 0 = 0 }) within)

pub loop-part-preserved : goal.loop-part-preserved
loop-part-preserved c =
    let within : c.loop-part.part-index < length c.args.parts.now = omega arith in
    let at = mapped-at number c.args.parts.now c.loop-part.part-index (record { 0 = 0 }) within in
    let more = greatest-more (slice_index c.args.depths.now) (map number c.args.parts.now) c.loop-part.part-index _ at in
    record {
      seen = cc;
      few = omega (arith, index_le c.args.depths.now (get_or c.args.parts.now c.loop-part.part-index (record { 0 = 0 })).0);
    }
