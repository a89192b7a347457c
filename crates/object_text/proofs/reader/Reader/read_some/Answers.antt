-- An object comes, or what is expected behind one, or nothing.
use Rattle.std.proofs.Common.{length, sym, subst, Some, None}
use Rattle.std.proofs.lemmas.Result.{err_from_is_err_and}
use Rattle.std.proofs.Common.{eq-eqb}
use Rattle.object_text.specs.Scanning.{Faults, StopsAt}
use Rattle.object_text.specs.Expected.{Comes, Moves}
use Rattle.object_text.proofs.Stops.{stops-weaker}
use Rattle.object_text.proofs.Resuming.{moves-resolved, faults-resolved, none-of, faults-behind}
use Rattle.object_text.proofs.reader.Reader.read_some.Goals as goal

pub returns-in_err-begin-clause-stop : goal.returns-in_err-begin-clause-stop
returns-in_err-begin-clause-stop c =
    let p = err_from_is_err_and c.from_residual.result c.from_residual.ensures.1 in
    rw (p.1, p.2) (subst (λ n. StopsAt (Faults (Comes c.args.system.now n c.args.self.now.stack c.args.self.now.taken) c.args.text.now) c.in_err-begin.field-0.0) (sym c.in-Some.is)
    (stops-weaker _ (Faults (Comes c.args.system.now (Some c.in-Some.e) c.args.self.now.stack c.args.self.now.taken) c.args.text.now)
    (λ left h. faults-resolved c.args.system.now c.in-Some.e c.resolved.result c.resolved.ensures.resolved.same c.args.self.now.stack c.args.self.now.taken c.args.text.now left h)
    c.in_err-begin.field-0.0 c.in_err-begin.ensures.stop))

pub returns-in-Some-clause-more : goal.returns-in-Some-clause-more
returns-in-Some-clause-more c =
    subst (λ n. Moves c.args.system.now (Comes c.args.system.now n c.args.self.now.stack c.args.self.now.taken) c.args.text.now c.in_ok-begin.field-0.0 c.begin.new.self.stack c.begin.new.self.taken c.in_ok-begin.field-0.1.now) (sym c.in-Some.is)
    (moves-resolved c.args.system.now c.in-Some.e c.resolved.result c.resolved.ensures.resolved.same c.args.self.now.stack c.args.self.now.taken c.args.text.now c.in_ok-begin.field-0.1.now c.in_ok-begin.field-0.0 c.begin.new.self.stack c.begin.new.self.taken c.in_ok-begin.ensures.ok)

pub returns-in-None-2-clause-stop : goal.returns-in-None-2-clause-stop
returns-in-None-2-clause-stop c =
    subst (λ n. Faults (Comes c.args.system.now n c.args.self.now.stack c.args.self.now.taken) c.args.text.now (length c.args.text.now)) (sym (none-of c.args.next c.in_default.not-Some))
    (subst (λ k. Faults (Comes c.args.system.now None k c.args.self.now.taken) c.args.text.now (length c.args.text.now)) (sym c.in-None-2.ensures.none)
    (faults-behind c.args.system.now c.args.self.now.taken c.args.text.now (λ e. absurd (let t = eq-eqb (length c.args.text.now) 0 e in let f = c.if-is_empty.ensures in cc))))
