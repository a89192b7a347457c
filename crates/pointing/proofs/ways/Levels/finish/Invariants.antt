use Rattle.std.proofs.Common.{◌≡◌, length}
use Rattle.std.specs.Prelude.{reverse}
use Rattle.pointing.specs.Ways.{finished}
use Rattle.pointing.proofs.ways.Levels.finish.Given as goal

abbrev pub invariant-levels : goal.invariant-levels
invariant-levels l = finished (reverse l.self-inside.content.items) ≡ finished l.fn.self

abbrev pub decreases-levels : goal.decreases-levels
decreases-levels l = length l.self-inside.content.items
