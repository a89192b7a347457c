-- The choice by the table is the node's decision; what it decides is ideal, since the oracle's table is sound for the system.
use Rattle.std.proofs.Common.{refl}
use Rattle.class_system.specs.Views.{spec_range}
use Rattle.count_draw.specs.Kinds.{series_of_kind}
use Rattle.count_draw.specs.Decision.{chosen_if}
use Rattle.count_draw.proofs.CountedNodes.{decision-by}
use Rattle.count_draw.proofs.CountsIdeal.{choice-ideal, choice-ranged, choice-over_none}
use Rattle.count_draw.proofs.count.decide_count.Goals as goal

pub returns-clause-ideal : goal.returns-clause-ideal
returns-clause-ideal g c =
    let counted = c.counted_at-counted.result in
    let at = c.counted_at-counted.ensures in
    let decided = decision-by c.args.system.now g.row.F c.args.node.0 counted.part.0 c.args.room (series_of_kind counted.kind) (spec_range counted.range) (g.O.Oracle.table c.args.oracle.now) (g.O.Oracle.table c.args.oracle.now) c.args.cell (chosen_if c.decide_by_rows.result) (record { node = at.node; range = at.range; suits = at.suits }) refl c.decide_by_rows.ensures.exact in
    choice-ideal c.args.system.now (g.O.Oracle.x c.args.oracle.now) g.row.F c.args.node.0 counted.part.0 (series_of_kind counted.kind) (spec_range counted.range) (g.O.Oracle.table c.args.oracle.now)
    (record { node = at.node; range = at.range; suits = at.suits }) (rw c.requires.spec at c.known.ensures.sound) at.part c.args.room c.args.cell c.requires.cell c.decide_by_rows.result decided

pub returns-clause-over : goal.returns-clause-over
returns-clause-over g c =
    let counted = c.counted_at-counted.result in
    let at = c.counted_at-counted.ensures in
    let decided = decision-by c.args.system.now g.row.F c.args.node.0 counted.part.0 c.args.room (series_of_kind counted.kind) (spec_range counted.range) (g.O.Oracle.table c.args.oracle.now) (g.O.Oracle.table c.args.oracle.now) c.args.cell (chosen_if c.decide_by_rows.result) (record { node = at.node; range = at.range; suits = at.suits }) refl c.decide_by_rows.ensures.exact in
    choice-over_none c.args.system.now (g.O.Oracle.x c.args.oracle.now) g.row.F c.args.node.0 counted.part.0 (series_of_kind counted.kind) (spec_range counted.range) (g.O.Oracle.table c.args.oracle.now)
    (record { node = at.node; range = at.range; suits = at.suits }) (rw c.requires.spec at c.known.ensures.sound) at.part c.args.room c.args.cell c.requires.cell c.decide_by_rows.result decided

pub returns-clause-in_range : goal.returns-clause-in_range
returns-clause-in_range g c =
    let counted = c.counted_at-counted.result in
    let at = c.counted_at-counted.ensures in
    let decided = decision-by c.args.system.now g.row.F c.args.node.0 counted.part.0 c.args.room (series_of_kind counted.kind) (spec_range counted.range) (g.O.Oracle.table c.args.oracle.now) (g.O.Oracle.table c.args.oracle.now) c.args.cell (chosen_if c.decide_by_rows.result) (record { node = at.node; range = at.range; suits = at.suits }) refl c.decide_by_rows.ensures.exact in
    choice-ranged c.args.system.now (g.O.Oracle.x c.args.oracle.now) g.row.F c.args.node.0 counted.part.0 (series_of_kind counted.kind) (spec_range counted.range) (g.O.Oracle.table c.args.oracle.now)
    (record { node = at.node; range = at.range; suits = at.suits }) (rw c.requires.spec at c.known.ensures.sound) at.part c.args.room c.args.cell c.requires.cell c.decide_by_rows.result decided
