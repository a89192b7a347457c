use Rattle.std.proofs.Common.{◌≡◌}
use Rattle.test_sampling.specs.Ready.{IsReady}
use Rattle.test_sampling.proofs.pools.make_turns.Given as goal

-- the oracle is of the same specification, and the pool can make turns
abbrev pub invariant-asked : goal.invariant-asked
invariant-asked g l = (g.O.Oracle.spec l.oracle ≡ l.founded) × IsReady l.founded (g.O.Oracle.x l.oracle) (g.S.Shelf.content l.shelf) l.pool

abbrev pub invariant-turns : goal.invariant-turns
invariant-turns g l = (g.O.Oracle.spec l.oracle ≡ l.founded) × IsReady l.founded (g.O.Oracle.x l.oracle) (g.S.Shelf.content l.shelf) l.pool

abbrev pub invariant-rest : goal.invariant-rest
invariant-rest g l = (g.O.Oracle.spec l.oracle ≡ l.founded) × IsReady l.founded (g.O.Oracle.x l.oracle) (g.S.Shelf.content l.shelf) l.pool
