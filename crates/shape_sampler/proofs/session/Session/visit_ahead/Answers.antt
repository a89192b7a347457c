-- A session that is stopped makes no move.
use Rattle.std.proofs.Common.{refl, sym, ◌∙◌, ap}
use Rattle.shape_sampler.specs.State.{SessionState}
use Rattle.shape_sampler.specs.Ahead.{AreMoves}
use Rattle.shape_sampler.proofs.PlainMoves.{not-stopped}
use Rattle.shape_sampler.proofs.session.Session.visit_ahead.Goals as goal

pub returns-then-is_some-clause-moves : goal.returns-then-is_some-clause-moves
returns-then-is_some-clause-moves g c = λ contents belongs. AreMoves.still refl refl

pub move_on-made-requires-clause-running : goal.move_on-made-requires-clause-running
move_on-made-requires-clause-running g c = not-stopped c.self.inside.stopped c.if-is_some.ensures
