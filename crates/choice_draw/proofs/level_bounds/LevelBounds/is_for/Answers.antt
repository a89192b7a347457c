-- The bounds of the union and of each part are the oracle's.
use Rattle.std.proofs.Common.{◌≡◌, length, map, arith, refl, subst}
use Rattle.class_system.specs.Views.{number}
use Rattle.choice_draw.specs.KeptChoices.{UnionBounds, AreBoundsOf}
use Rattle.choice_draw.proofs.KeptBounds.{are_bounds}
use Rattle.choice_draw.proofs.level_bounds.LevelBounds.is_for.Goals as goal

pub returns-clause-bounds : goal.returns-clause-bounds
returns-clause-bounds g c = λ yes.
    let many : length c.self.inside.parts.items ≡ length c.args.parts.now = omega arith in
    let union : UnionBounds = record { whole = c.self.inside.whole; parts = c.self.inside.parts.items } in
    let here : AreBoundsOf (g.O.Oracle.table c.args.oracle.now c.args.level) c.args.node.0 (map number c.args.parts.now) union = record {
      whole = c.if-not-is_at_level.ensures.bounds refl;
      parts = are_bounds (g.O.Oracle.table c.args.oracle.now c.args.level) c.self.inside.parts.items c.args.parts.now many (λ k less. c.loop-i.invariant k (omega arith));
    } in
    subst (λ u. AreBoundsOf (g.O.Oracle.table c.args.oracle.now c.args.level) c.args.node.0 (map number c.args.parts.now) u) c.self.view_is here
