use Rattle.std.proofs.Common.{map}
use Rattle.class_system.specs.Views.{number}
use Rattle.choice_draw.proofs.UnionScan.{IsScanned}
use Rattle.choice_draw.proofs.union.decide_by_table.Given as goal

-- the parts before the next one are passed
abbrev pub invariant-loop-i : goal.invariant-loop-i
invariant-loop-i g l = IsScanned (g.O.Oracle.table l.oracle l.level) l.fn.node.0 (map number l.parts) l.cell l.i l.lo l.hi_before
