use Rattle.std.proofs.Common.{arith, refl, sym, ap, map, Some, ◌∙◌}
use Rattle.rounded_map.specs.RoundedMap.{setting}
use Rattle.rounded_map.proofs.EachNode.{bodies_inside}
use Rattle.rounded_map.proofs.Replaced.{dual-found}
use Rattle.rounded_map.proofs.derivative.sweep_dual.Goals as goal

pub are_there-requires : goal.are_there-requires
are_there-requires g c = record { bodies = bodies_inside c.args.system.now c.known.ensures.sound _ _ c.bodies-bodies.ensures.bodies (omega arith) }

pub returns-then-not-are_there-clause-missing : goal.returns-then-not-are_there-clause-missing
returns-then-not-are_there-clause-missing g c = λ no_number.
    dual-found (setting c.args.system.now c.args._x.num c.args._x.den g.row.F) (map Some c.args.values.now) c.args.dual.now c.fill_derivatives.new.derivatives _ _ (c.fill_derivatives.ensures.derivatives c.args._x.num c.args._x.den) c.bodies-bodies.ensures.bodies (c.if-not-are_there.ensures.missing refl)

pub write_duals-requires-clause-bodies : goal.write_duals-requires-clause-bodies
write_duals-requires-clause-bodies g c = bodies_inside c.args.system.now c.known.ensures.sound _ _ c.bodies-bodies.ensures.bodies (omega arith)

pub returns-clause-swept : goal.returns-clause-swept
returns-clause-swept g c = λ each_number.
    dual-found (setting c.args.system.now c.args._x.num c.args._x.den g.row.F) (map Some c.args.values.now) c.args.dual.now c.fill_derivatives.new.derivatives _ _ (c.fill_derivatives.ensures.derivatives c.args._x.num c.args._x.den) c.bodies-bodies.ensures.bodies (c.if-not-are_there.ensures.there refl ∙ ap Some (sym c.write_duals.ensures.written))
