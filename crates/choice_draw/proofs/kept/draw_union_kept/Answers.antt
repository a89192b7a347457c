-- What a draw takes may be kept.
use Rattle.std.proofs.Common.{◌≤◌, Some, sym, ◌∙◌, ap, subst}
use Rattle.bz_model.specs.Spec.{Node}
use Rattle.bit_tape.specs.Tape.{bits_of_source}
use Rattle.choice_draw.specs.Decision.{union_decision, union_parts}
use Rattle.choice_draw.specs.Answer.{OnValue}
use Rattle.choice_draw.specs.KeptChoices.{TakesFirst}
use Rattle.choice_draw.proofs.Comparing.{none-compared}
use Rattle.choice_draw.proofs.KeptDraws.{draw-kept}
use Rattle.choice_draw.proofs.kept.draw_union_kept.Goals as goal

pub learn-requires-clause-takes : goal.learn-requires-clause-takes
learn-requires-clause-takes g c =
    let table = g.O.Oracle.table c.args.oracle.now in
    subst (λ t. OnValue c.draw_union-drawn.result (λ i cell. cell.b ≤ 11 → TakesFirst (union_decision c.args.system.now t c.args.node.0) i cell)) (sym c.draw_union-drawn.ensures.oracle.table)
    (draw-kept (union_decision c.args.system.now table c.args.node.0) (bits_of_source c.draw_ahead.new.tape.source (g.S.Shelf.content c.args.shelf.now)) c.draw_ahead.new.tape.used c.draw_union-drawn.new.tape.used c.draw_union-drawn.result c.draw_union-drawn.ensures.drawn)

pub draw_ahead-requires-clause-union : goal.draw_ahead-requires-clause-union
draw_ahead-requires-clause-union g c = c.requires.union.here ∙ ap (λ ps. Some (Node.Union ps)) (sym (c.parts_of-parts.ensures.parts ∙ ap union_parts c.requires.union.here))

pub draw_ahead-requires-clause-compared : goal.draw_ahead-requires-clause-compared
draw_ahead-requires-clause-compared g c = none-compared c.args.system.now (g.O.Oracle.table c.args.oracle.now) (g.O.Oracle.raised c.args.oracle.now) c.args.kept.now c.none-marks.result c.none-marks.ensures
