use Rattle.std.proofs.Common.{◌≡◌, ◌++◌, take, map}
use Rattle.std.specs.Prelude.{codes}
use Rattle.pointing.specs.PointedSpec.{all_from, named}
use Rattle.pointing.proofs.naming.name_copies.Given as goal

abbrev pub invariant-loop-class : goal.invariant-loop-class
invariant-loop-class l = l.draft ≡ record (l.initial.draft) { names = l.initial.draft.names ++ map (named (codes "K")) (all_from 0 (take l.class-counter l.classes)) }
