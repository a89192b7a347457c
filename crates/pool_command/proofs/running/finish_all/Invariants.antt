use Rattle.std.proofs.Common.{◌≡◌, ℕ, ◌<◌, ◌≤◌, List}
use Rattle.std.specs.Prelude.{IsSome}
use Rattle.session_pool.specs.Interleaving.{shared_setting}
use Rattle.session_pool.specs.Pool.{ending_at}
use Rattle.pool_command.specs.Schedule.{all_asked}
use Rattle.pool_command.specs.UnderWay.{asked_by, moment, Beginning, IsPoolRunning, CanAsk}
use Rattle.pool_command.proofs.running.finish_all.Given as goal

-- the drawings so far were asked until each had ended
abbrev pub invariant-loop-number : goal.invariant-loop-number
invariant-loop-number g l = record {
  can : CanAsk l.founded (g.O.Oracle.spec l.oracle) (g.O.Oracle.x l.oracle) (g.S.Shelf.content l.shelf) l.count l.pool;
  content : g.S.Shelf.content l.shelf ≡ g.S.Shelf.content l.initial.shelf;
  counts : (name : List ℕ) → g.S.Shelf.faults l.initial.shelf name ≤ g.S.Shelf.faults l.shelf name;
  ended : (number : ℕ) → number < l.number → IsSome (ending_at l.pool number);
  under_way : (b : Beginning) (asked : List ℕ)
      → IsPoolRunning b asked (moment (shared_setting (g.O.Oracle.spec l.initial.oracle) (g.O.Oracle.x l.initial.oracle) g.row.F (g.O.Oracle.table l.initial.oracle) (g.S.Shelf.content l.initial.shelf)) (g.S.Shelf.faults l.initial.shelf) (g.O.Oracle.cost l.initial.oracle) (g.O.Oracle.raised l.initial.oracle) l.initial.steps l.initial.pool) l.initial.order.items
      → IsPoolRunning b (all_asked (asked_by l.pool) asked l.number) (moment (shared_setting (g.O.Oracle.spec l.oracle) (g.O.Oracle.x l.oracle) g.row.F (g.O.Oracle.table l.oracle) (g.S.Shelf.content l.shelf)) (g.S.Shelf.faults l.shelf) (g.O.Oracle.cost l.oracle) (g.O.Oracle.raised l.oracle) l.steps l.pool) l.order.items;
}
