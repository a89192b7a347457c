-- What a draw takes may be kept.
use Rattle.std.proofs.Common.{◌≤◌, sym, subst}
use Rattle.class_system.specs.Views.{spec_range}
use Rattle.bit_tape.specs.Tape.{bits_of_source}
use Rattle.count_draw.specs.Answer.{OnCount}
use Rattle.count_draw.specs.Kinds.{series_of_kind}
use Rattle.count_draw.specs.FirstCounts.{TakesAtRoom, counted_choice}
use Rattle.count_draw.proofs.FirstBounds.{count-kept}
use Rattle.count_draw.proofs.count.draw_by_tables.Goals as goal

pub learn-requires-clause-takes : goal.learn-requires-clause-takes
learn-requires-clause-takes g c =
    let counted = c.counted_at-counted.result in
    let at = c.counted_at-counted.ensures in
    let drawn = c.draw_by_rows-drawn in
    subst (λ t. OnCount drawn.result (λ i cell. cell.b ≤ 11 → TakesAtRoom (counted_choice (series_of_kind counted.kind) g.row.F (spec_range counted.range) t counted.part.0 c.args.node.0) i cell)) (sym drawn.ensures.oracle.table)
    (count-kept c.args.system.now g.row.F c.args.node.0 counted.part.0 (series_of_kind counted.kind) (spec_range counted.range) (g.O.Oracle.table c.args.oracle.now) (record { node = at.node; range = at.range; suits = at.suits }) c.args.room (bits_of_source c.args.tape.now.source (g.S.Shelf.content c.args.shelf.now)) c.args.tape.now.used drawn.new.tape.used drawn.result drawn.ensures.drawn)
