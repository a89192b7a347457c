use Rattle.std.proofs.Common.{◌≡◌, ◌≢◌, ℕ, ◌≤◌, ◌-◌, ◌++◌, List}
use Rattle.std.specs.Prelude.{replicate, slice_get, IsSome}
use Rattle.session_pool.specs.Interleaving.{shared_setting, how_often}
use Rattle.session_pool.specs.Pool.{ending_at}
use Rattle.pool_command.specs.UnderWay.{asked_by, moment, Beginning, IsPoolRunning, CanAsk}
use Rattle.pool_command.proofs.TurnsLeft.{turns_left}
use Rattle.pool_command.proofs.running.finish.Given as goal

-- the drawing was asked some times: if it has ended, as often as that took
abbrev pub invariant-turns : goal.invariant-turns
invariant-turns g l = record {
  can : CanAsk l.founded (g.O.Oracle.spec l.oracle) (g.O.Oracle.x l.oracle) (g.S.Shelf.content l.shelf) l.count l.pool;
  content : g.S.Shelf.content l.shelf ≡ g.S.Shelf.content l.initial.shelf;
  counts : (name : List ℕ) → g.S.Shelf.faults l.initial.shelf name ≤ g.S.Shelf.faults l.shelf name;
  others : (other : ℕ) → other ≢ l.number → slice_get l.pool other ≡ slice_get l.initial.pool other;
  under_way : (b : Beginning) (asked : List ℕ)
      → IsPoolRunning b asked (moment (shared_setting (g.O.Oracle.spec l.initial.oracle) (g.O.Oracle.x l.initial.oracle) g.row.F (g.O.Oracle.table l.initial.oracle) (g.S.Shelf.content l.initial.shelf)) (g.S.Shelf.faults l.initial.shelf) (g.O.Oracle.cost l.initial.oracle) (g.O.Oracle.raised l.initial.oracle) l.initial.steps l.initial.pool) l.initial.order.items
      → (more : ℕ)
      × IsPoolRunning b (asked ++ replicate more l.number) (moment (shared_setting (g.O.Oracle.spec l.oracle) (g.O.Oracle.x l.oracle) g.row.F (g.O.Oracle.table l.oracle) (g.S.Shelf.content l.shelf)) (g.S.Shelf.faults l.shelf) (g.O.Oracle.cost l.oracle) (g.O.Oracle.raised l.oracle) l.steps l.pool) l.order.items
      × (IsSome (ending_at l.pool l.number) → asked_by l.pool l.number - how_often l.number asked ≡ more);
}

-- as many turns as may still be made, and one that ends; none after the end
abbrev pub decreases-turns : goal.decreases-turns
decreases-turns g l = turns_left l.pool l.number
