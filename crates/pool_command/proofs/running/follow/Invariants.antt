use Rattle.std.proofs.Common.{◌≡◌, ℕ, ◌≤◌, ◌++◌, List, take}
use Rattle.session_pool.specs.Interleaving.{shared_setting}
use Rattle.pool_command.specs.Schedule.{drawings_named}
use Rattle.pool_command.specs.UnderWay.{moment, Beginning, IsPoolRunning, CanAsk}
use Rattle.pool_command.proofs.running.follow.Given as goal

-- the drawings that the bytes so far name were asked
abbrev pub invariant-loop-byte : goal.invariant-loop-byte
invariant-loop-byte g l = record {
  can : CanAsk l.founded (g.O.Oracle.spec l.oracle) (g.O.Oracle.x l.oracle) (g.S.Shelf.content l.shelf) l.count l.pool;
  content : g.S.Shelf.content l.shelf ≡ g.S.Shelf.content l.initial.shelf;
  counts : (name : List ℕ) → g.S.Shelf.faults l.initial.shelf name ≤ g.S.Shelf.faults l.shelf name;
  under_way : (b : Beginning) (asked : List ℕ)
      → IsPoolRunning b asked (moment (shared_setting (g.O.Oracle.spec l.initial.oracle) (g.O.Oracle.x l.initial.oracle) g.row.F (g.O.Oracle.table l.initial.oracle) (g.S.Shelf.content l.initial.shelf)) (g.S.Shelf.faults l.initial.shelf) (g.O.Oracle.cost l.initial.oracle) (g.O.Oracle.raised l.initial.oracle) l.initial.steps l.initial.pool) l.initial.order.items
      → IsPoolRunning b (asked ++ drawings_named l.count (take l.byte-index l.schedule)) (moment (shared_setting (g.O.Oracle.spec l.oracle) (g.O.Oracle.x l.oracle) g.row.F (g.O.Oracle.table l.oracle) (g.S.Shelf.content l.shelf)) (g.S.Shelf.faults l.shelf) (g.O.Oracle.cost l.oracle) (g.O.Oracle.raised l.oracle) l.steps l.pool) l.order.items;
}
