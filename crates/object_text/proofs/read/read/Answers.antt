-- The whole text is read from the class's body on.
use Rattle.std.proofs.Common.{◌≤◌, length, sym, subst, Some, []}
use Rattle.std.proofs.lemmas.Result.{IfOk-weaker, MatchResult-weaker}
use Rattle.object_store.proofs.InRange.{body-below}
use Rattle.object_text.specs.Expected.{HasObjects, Comes}
use Rattle.object_text.specs.Scanning.{Faults, StopsAt}
use Rattle.object_text.specs.Reading.{IsRead, TellsFault}
use Rattle.object_text.specs.States.{IsReadWhole, stop_fault}
use Rattle.object_text.specs.Taken.{Taken}
use Rattle.object_text.proofs.Stops.{stops-weaker}
use Rattle.object_text.proofs.Answering.{within-text, was-read, read-of, fault-of, refusal-of}
use Rattle.object_text.proofs.read.read.Goals as goal

pub read_all-requires-clause-objects : goal.read_all-requires-clause-objects
read_all-requires-clause-objects c = subst HasObjects (sym c.system-system.ensures.system) (record { object_of = c.known.ensures.inhabited })

pub read_all-requires-clause-in_range : goal.read_all-requires-clause-in_range
read_all-requires-clause-in_range c = body-below c.system-system.result.now c.known-2.ensures.sound c.args.c.0 c.body.result.0 c.body.ensures.body

pub stop_fault-requires : goal.stop_fault-requires
stop_fault-requires c = record { within = stops-weaker _ (λ left. left ≤ length c.args.text.now) (λ left f. within-text c.system-system.result.now c.body.result c.args.text.now left f) c.in-Err.stop (subst (λ (t : Taken). StopsAt (Faults (Comes c.system-system.result.now (Some c.body.result) [] t) c.args.text.now) c.in-Err.stop) c.new-reader.ensures.taken c.in-Err.ensures.stop) }

pub returns-in-Err-clause-fault : goal.returns-in-Err-clause-fault
returns-in-Err-clause-fault c =
    subst (TellsFault c.args.founded.now c.args.c.0 c.args.text.now) (sym c.stop_fault.ensures.exact)
    (subst (λ s. TellsFault s c.args.c.0 c.args.text.now (stop_fault (length c.args.text.now) c.in-Err.stop)) c.system-system.ensures.system
    (fault-of c.system-system.result.now c.args.c.0 c.body.result c.body.ensures.body c.args.text.now c.in-Err.stop (subst (λ (t : Taken). StopsAt (Faults (Comes c.system-system.result.now (Some c.body.result) [] t) c.args.text.now) c.in-Err.stop) c.new-reader.ensures.taken c.in-Err.ensures.stop)))

pub returns-clause-read : goal.returns-clause-read
returns-clause-read c =
    let whole = subst (λ (t : Taken). Comes c.system-system.result.now (Some c.body.result) [] t c.read_all.new.self.taken c.args.text.now) c.new-reader.ensures.taken c.in-Ok.ensures.ok in
    let was = was-read c.system-system.result.now c.body.result c.args.text.now c.read_all.new.self.taken whole in
    IfOk-weaker c.finish.result _ _
    (λ x h. subst (λ s. IsRead s c.args.c.0 c.args.text.now x.shape.items x.labels) c.system-system.ensures.system
    (read-of c.system-system.result.now c.known-2.ensures.sound c.known-2.ensures.limits c.args.c.0 c.body.result.0 c.body.ensures.body c.args.text.now c.read_all.new.self.taken was x.shape.items x.labels
    (subst (λ m. IsReadWhole m c.read_all.new.self.taken x.shape.items x.labels) c.mode.ensures.mode h)))
    c.finish.ensures.ok

pub returns-clause-fault : goal.returns-clause-fault
returns-clause-fault c =
    let whole = subst (λ (t : Taken). Comes c.system-system.result.now (Some c.body.result) [] t c.read_all.new.self.taken c.args.text.now) c.new-reader.ensures.taken c.in-Ok.ensures.ok in
    let was = was-read c.system-system.result.now c.body.result c.args.text.now c.read_all.new.self.taken whole in
    MatchResult-weaker c.finish.result c.finish.ensures.fault (λ x h. h)
    (λ f h. subst (λ s. TellsFault s c.args.c.0 c.args.text.now f) c.system-system.ensures.system
    (refusal-of c.system-system.result.now c.known-2.ensures.sound c.known-2.ensures.limits c.args.c.0 c.body.result.0 c.body.ensures.body c.args.text.now c.read_all.new.self.taken was f h))
