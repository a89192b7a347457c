use Rattle.std.proofs.Common.{◌∙◌, ◌++◌, [], ap, length, arith, map}
use Rattle.std.specs.Prelude.{codes}
use Rattle.pointing.specs.PointedSpec.{marked_from, named}
use Rattle.pointing.proofs.NameSteps.{few-marked}
use Rattle.pointing.proofs.naming.named_draft.Goals as goal

pub name_copies-requires-clause-room : goal.name_copies-requires-clause-room
name_copies-requires-clause-room c =
    let same = ap (λ d. length d.names) c.in_ok-name_pointed.ensures.ok ∙ ap (λ d. length (d.names ++ map (named (codes "P")) (marked_from 0 c.args.classes.now))) c.new-draft.ensures.empty in
    let few = few-marked (codes "P") [] c.args.classes.now in
    let k = c.requires.few in
    omega arith
