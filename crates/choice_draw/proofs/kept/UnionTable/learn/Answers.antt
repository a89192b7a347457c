-- The table is for the oracle's bounds, or was begun for them.
use Rattle.std.proofs.Common.{◌≤◌, map, arith, refl, sym, subst}
use Rattle.class_system.specs.Views.{number}
use Rattle.choice_draw.specs.Decision.{union_choice}
use Rattle.choice_draw.specs.Answer.{OnValue}
use Rattle.choice_draw.specs.KeptChoices.{AreFor, TakesFirst}
use Rattle.choice_draw.proofs.KeptBounds.{takes-by}
use Rattle.choice_draw.proofs.kept.UnionTable.learn.Goals as goal
use Rattle.choice_draw.proofs.kept.UnionTable.learn.Goals.{then-not-is_for+else-not-is_for-2, else-not-is_for}

pub keep-requires : goal.keep-requires
keep-requires g c =
    let bits = c.in-Value.cell.b in
    let takes = subst (λ d. OnValue d (λ i cell. cell.b ≤ 11 → TakesFirst (union_choice (g.O.Oracle.table c.args.oracle.now) c.args.node.0 (map number c.args.parts.now)) i cell)) c.in-Value.is c.requires.takes in
    let here : AreFor (g.O.Oracle.table c.args.oracle.now) c.args.node.0 (map number c.args.parts.now) bits c.if-not-is_for.self = elim c.if-not-is_for.branch [
      | then-not-is_for+else-not-is_for-2 w ↦ subst (λ u. AreFor (g.O.Oracle.table c.args.oracle.now) c.args.node.0 (map number c.args.parts.now) bits u) (sym w.self-is) (w.if-not-is_for-2.ensures.bounds refl)
      | else-not-is_for w ↦ subst (λ u. AreFor (g.O.Oracle.table c.args.oracle.now) c.args.node.0 (map number c.args.parts.now) bits u) (sym w.self-is) (w.if-not-is_for.ensures.bounds refl)
    ] in
    takes-by (g.O.Oracle.table c.args.oracle.now) c.args.node.0 (map number c.args.parts.now) c.if-not-is_for.self bits here c.in-Value.value c.in-Value.cell (omega arith) (takes (omega arith))
