-- What the table decides is ideal, since the oracle's table is sound for the system.
use Rattle.std.proofs.Common.{arith}
use Rattle.std.proofs.lemmas.List.{length-map}
use Rattle.class_system.specs.Views.{number}
use Rattle.choice_draw.proofs.UnionIdeal.{union-ideal}
use Rattle.choice_draw.proofs.union.decide_union.Goals as goal

pub returns-clause-ideal : goal.returns-clause-ideal
returns-clause-ideal g c =
    union-ideal c.args.system.now (g.O.Oracle.x c.args.oracle.now) g.row.F c.args.node.0 c.parts_of.result.now (g.O.Oracle.table c.args.oracle.now) c.args.cell c.requires.union c.parts_of.ensures.parts
    (omega (arith, length-map c.parts_of.result.now number, c.parts_of.ensures.some)) c.parts_of.ensures.in_range (rw c.requires.spec at c.known.ensures.sound) c.requires.cell c.decide_by_table.result c.decide_by_table.ensures.exact
