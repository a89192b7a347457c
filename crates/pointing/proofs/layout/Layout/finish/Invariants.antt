use Rattle.std.proofs.Common.{◌≡◌, ◌++◌, take, map}
use Rattle.class_system.specs.Views.{number}
use Rattle.pointing.proofs.layout.Layout.finish.Given as goal

abbrev pub invariant-loop-number : goal.invariant-loop-number
invariant-loop-number l = l.draft ≡ record (l.initial.draft) { bodies = l.initial.draft.bodies ++ map number (take l.number-index l.number-items) }
