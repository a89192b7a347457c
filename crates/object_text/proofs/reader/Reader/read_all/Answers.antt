-- The text is read on.
use Rattle.std.proofs.Common.{subst, Some, [], arith, IfSome, IfNone}
use Rattle.std.proofs.lemmas.Result.{err_from_is_err_and}
use Rattle.object_text.specs.Scanning.{Faults}
use Rattle.object_text.specs.Expected.{Comes, Moves, IsOver}
use Rattle.object_text.proofs.Stops.{stops-weaker}
use Rattle.object_text.proofs.Resuming.{progress-start, progress-on, progress-faults, progress-over}
use Rattle.object_text.proofs.reader.Reader.read_all.Goals as goal

pub loop-node-init : goal.loop-node-init
loop-node-init c = progress-start c.args.system.now c.args.root c.args.self.now.taken c.args.text.now c.args.self.now.stack c.requires.nothing c.requires.in_range

pub read_some-requires-clause-next_below : goal.read_some-requires-clause-next_below
read_some-requires-clause-next_below c = c.loop-node.invariant.next_below

pub read_some-requires-clause-can_come : goal.read_some-requires-clause-can_come
read_some-requires-clause-can_come c = c.loop-node.invariant.can_come

pub read_some-requires-clause-small : goal.read_some-requires-clause-small
read_some-requires-clause-small c = let small = c.requires.small in let shorter = c.loop-node.invariant.shorter in omega arith

pub returns-in_err-node-clause-stop : goal.returns-in_err-node-clause-stop
returns-in_err-node-clause-stop c =
    let p = err_from_is_err_and c.from_residual.result c.from_residual.ensures.1 in
    rw (p.1, p.2) (stops-weaker _ (Faults (Comes c.args.system.now (Some c.args.root) [] c.args.self.now.taken) c.args.text.now)
    (λ left h. progress-faults c.args.system.now c.args.root c.args.self.now.taken c.args.text.now c.loop-node.next c.loop-node.self.stack c.loop-node.self.taken c.loop-node.rest.now c.loop-node.invariant left h)
    c.in_err-node.field-0.0 c.in_err-node.ensures.stop)

pub loop-node-smaller : goal.loop-node-smaller
loop-node-smaller c =
    let m = subst (λ o. IfSome o (λ x. Moves c.args.system.now (Comes c.args.system.now c.loop-node.next c.loop-node.self.stack c.loop-node.self.taken) c.loop-node.rest.now x.0 c.read_some.new.self.stack c.read_some.new.self.taken x.1.now)) c.in-Some.is c.in_ok-node.ensures.more in
    m.shorter

pub loop-node-preserved : goal.loop-node-preserved
loop-node-preserved c =
    let m = subst (λ o. IfSome o (λ x. Moves c.args.system.now (Comes c.args.system.now c.loop-node.next c.loop-node.self.stack c.loop-node.self.taken) c.loop-node.rest.now x.0 c.read_some.new.self.stack c.read_some.new.self.taken x.1.now)) c.in-Some.is c.in_ok-node.ensures.more in
    progress-on c.args.system.now c.args.root c.args.self.now.taken c.args.text.now c.loop-node.next c.loop-node.self.stack c.loop-node.self.taken c.loop-node.rest.now c.loop-node.invariant c.in-Some.node c.read_some.new.self.stack c.read_some.new.self.taken c.in-Some.after.now m

pub returns-clause-ok : goal.returns-clause-ok
returns-clause-ok c =
    let o = subst (λ o. IfNone o (IsOver c.loop-node.next c.loop-node.self.stack c.loop-node.rest.now c.read_some.new.self.stack c.loop-node.self.taken c.read_some.new.self.taken)) c.in_default.is c.in_ok-node.ensures.over in
    progress-over c.args.system.now c.args.root c.args.self.now.taken c.args.text.now c.loop-node.next c.loop-node.self.stack c.loop-node.self.taken c.loop-node.rest.now c.loop-node.invariant c.read_some.new.self.stack c.read_some.new.self.taken o
