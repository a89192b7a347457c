use Rattle.std.proofs.Common.{◌∙◌, refl}
use Rattle.class_system.specs.Distinct.{IsMissing}
use Rattle.class_system.proofs.NameLists.{none_passes}
use Rattle.class_system.proofs.names.Names.push.Goals as goal

pub returns-clause-ok : goal.returns-clause-ok
returns-clause-ok c =
    let missing : IsMissing c.args.name c.self.inside.set.keys = rw c.self.view_is c.requires.missing in
    let none_is = none_passes _ _ missing in
    rw (← c.self.view_is) (c.in_ok-insert.ensures.keys ∙ rw none_is refl)
