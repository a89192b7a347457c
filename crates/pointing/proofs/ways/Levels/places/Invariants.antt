use Rattle.std.proofs.Common.{◌≡◌, map, take}
use Rattle.pointing.specs.Ways.{place}
use Rattle.pointing.proofs.ways.Levels.places.Given as goal

abbrev pub invariant-loop-level : goal.invariant-loop-level
invariant-loop-level l = l.found.items ≡ map place (take l.level-index l.level-items)
