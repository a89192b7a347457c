-- Each kind of node reads its own token.
use Rattle.std.proofs.Common.{◌∙◌, ap, Some}
use Rattle.class_system.specs.Views.{spec_node}
use Rattle.object_store.proofs.InRange.{class-known}
use Rattle.object_store.proofs.visit.Visit.at.Goals as goal

pub body-requires : goal.body-requires
body-requires c = record { in_range = class-known c.args.system.now c.known.ensures.sound c.args.e.0 c.in-Class.c.0 (c.node.ensures.node ∙ ap (λ n. Some (spec_node n)) c.in-Class.is) }
