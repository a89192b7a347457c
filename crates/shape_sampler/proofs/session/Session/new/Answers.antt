-- A session belongs before its first attempt.
use Rattle.std.proofs.Common.{◌≡◌, Some, None}
use Rattle.bz_model.specs.Spec.{body_of}
use Rattle.class_system.specs.Sound.{IsSound}
use Rattle.class_system.proofs.Soundness.{body_in_range}
use Rattle.shape_sampler.specs.State.{SessionState}
use Rattle.shape_sampler.proofs.Sessions.{idle-belongs}
use Rattle.shape_sampler.proofs.session.Session.new.Goals as goal

pub returns-clause-belongs : goal.returns-clause-belongs
returns-clause-belongs c = λ x.
    let sound : IsSound c.args.founded.now = rw c.system-system.ensures.system at c.known.ensures.sound in
    let body : body_of c.args.founded.now 0 ≡ Some c.body.result.0 = rw c.system-system.ensures.system at c.body.ensures.body in
    let idle : SessionState = record { root = c.body.result.0; whole = c.args.room; pending = c.new.result.items; tokens = c.new-2.result.items; cells = c.new-3.result.items; room = c.args.room; stopped = None } in
    idle-belongs c.args.founded.now x idle body (body_in_range c.args.founded.now sound 0 c.body.result.0 body) c.new.ensures c.new-3.ensures
