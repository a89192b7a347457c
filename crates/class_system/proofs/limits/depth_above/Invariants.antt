use Rattle.std.proofs.Common.{◌≡◌, ◌≤◌, map, take, slice_index}
use Rattle.class_system.specs.Views.{number}
use Rattle.class_system.specs.Limits.{greatest_of}
use Rattle.class_system.proofs.limits.depth_above.Given as goal

-- the greatest depth of the parts so far
abbrev pub invariant-loop-part : goal.invariant-loop-part
invariant-loop-part l = record {
  seen : l.most ≡ greatest_of (map (slice_index l.depths) (take l.part-index (map number l.parts)));
  few : l.most ≤ greatest_of l.depths;
}
