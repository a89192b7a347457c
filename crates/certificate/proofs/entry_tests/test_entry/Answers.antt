-- One entry, tested by what is made of its cells.
use Rattle.std.proofs.Common.{◌≡◌, ℕ, ◌≤◌, List, sym, ◌∙◌, ap, subst}
use Rattle.class_system.specs.Sound.{IsSound}
use Rattle.entry_replay.specs.Replay.{entry_with, AreMadeOf}
use Rattle.size_window.specs.Follows.{IsMadeOfItsCells}
use Rattle.certificate.specs.declared.reason.Verdict.{Verdict}
use Rattle.certificate.specs.declared.reason.Verdict.TheVariants.{Valid}
use Rattle.certificate.specs.Checks.{made_checks, entry_checks}
use Rattle.certificate.specs.Soundness.{IsSoundEntry}
use Rattle.certificate.specs.Verdicts.{FirstFails}
use Rattle.certificate.proofs.Chains.{ok-of}
use Rattle.certificate.proofs.EntryTests.{made-is-of, made-labels, made-sound, entry-made, entry-not-next, entry-none}
use Rattle.certificate.proofs.Tests.{not-true, is-true}
use Rattle.certificate.proofs.entry_tests.test_entry.Goals as goal

pub returns-then-not-is_next-clause-verdict : goal.returns-then-not-is_next-clause-verdict
returns-then-not-is_next-clause-verdict g c =
    let sound = subst IsSound c.system-system.ensures.system c.known.ensures.sound in
    entry-not-next c.args.founded.now sound g.row.F (g.O.Oracle.table c.args.oracle.now) c.args.window.least c.args.window.greatest c.args.entry.now c.args.before.number c.args.before.place c.args.before.line (not-true c.if-not-is_next.true c.is_next.ensures)

pub returns-in_default-clause-verdict : goal.returns-in_default-clause-verdict
returns-in_default-clause-verdict g c =
    let sound = subst IsSound c.system-system.ensures.system c.known.ensures.sound in
    let none = rw c.in_default.is at c.in_ok-answer.ensures.none in
    entry-none c.args.founded.now sound g.row.F (g.O.Oracle.table c.args.oracle.now) c.args.window.least c.args.window.greatest c.args.entry.now c.args.before.number c.args.before.place c.args.before.line (is-true c.if-not-is_next.false c.is_next.ensures)
    (λ tokens labels h. none tokens labels (subst (λ w. AreMadeOf c.args.founded.now g.row.F (g.O.Oracle.table c.args.oracle.now) w c.items-cells.result.now tokens labels) (sym c.requires.room) (subst (λ cs. AreMadeOf c.args.founded.now g.row.F (g.O.Oracle.table c.args.oracle.now) c.args.window.greatest cs tokens labels) (sym c.items-cells.ensures.items) h)))

pub test_made-requires-clause-is_of : goal.test_made-requires-clause-is_of
test_made-requires-clause-is_of g c =
    let ideal = subst (λ w. IsMadeOfItsCells c.args.founded.now (g.O.Oracle.x c.args.oracle.now) w (entry_with c.in-Some.made.shape.items c.in-Some.made.labels c.args.entry.now.cells.items)) c.requires.room (subst (λ cs. IsMadeOfItsCells c.args.founded.now (g.O.Oracle.x c.args.oracle.now) c.args.session.now.whole (entry_with c.in-Some.made.shape.items c.in-Some.made.labels cs)) c.items-cells.ensures.items (rw c.in-Some.is at c.in_ok-answer.ensures.ideal)) in
    made-is-of c.args.founded.now (g.O.Oracle.x c.args.oracle.now) c.args.window.greatest c.in-Some.made.shape.items c.in-Some.made.labels c.args.entry.now ideal

pub test_made-requires-clause-labels : goal.test_made-requires-clause-labels
test_made-requires-clause-labels g c =
    let ideal = subst (λ w. IsMadeOfItsCells c.args.founded.now (g.O.Oracle.x c.args.oracle.now) w (entry_with c.in-Some.made.shape.items c.in-Some.made.labels c.args.entry.now.cells.items)) c.requires.room (subst (λ cs. IsMadeOfItsCells c.args.founded.now (g.O.Oracle.x c.args.oracle.now) c.args.session.now.whole (entry_with c.in-Some.made.shape.items c.in-Some.made.labels cs)) c.items-cells.ensures.items (rw c.in-Some.is at c.in_ok-answer.ensures.ideal)) in
    made-labels c.args.founded.now (g.O.Oracle.x c.args.oracle.now) c.args.window.greatest c.in-Some.made.shape.items c.in-Some.made.labels c.args.entry.now ideal

pub returns-clause-verdict : goal.returns-clause-verdict
returns-clause-verdict g c =
    let sound = subst IsSound c.system-system.ensures.system c.known.ensures.sound in
    let made = subst (λ w. AreMadeOf c.args.founded.now g.row.F (g.O.Oracle.table c.args.oracle.now) w c.args.entry.now.cells.items c.in-Some.made.shape.items c.in-Some.made.labels) c.requires.room (subst (λ cs. AreMadeOf c.args.founded.now g.row.F (g.O.Oracle.table c.args.oracle.now) c.args.session.now.whole cs c.in-Some.made.shape.items c.in-Some.made.labels) c.items-cells.ensures.items (rw c.in-Some.is at c.in_ok-answer.ensures.made)) in
    ok-of (FirstFails (made_checks c.args.founded.now c.args.window.least c.args.window.greatest c.args.before.line c.in-Some.made.shape.items c.in-Some.made.labels c.args.entry.now))
    (FirstFails (entry_checks c.args.founded.now g.row.F (g.O.Oracle.table c.args.oracle.now) c.args.window.least c.args.window.greatest c.args.before.number c.args.before.place c.args.before.line c.args.entry.now))
    (λ v h. entry-made c.args.founded.now sound g.row.F (g.O.Oracle.table c.args.oracle.now) c.args.window.least c.args.window.greatest c.args.entry.now c.in-Some.made.shape.items c.in-Some.made.labels made c.args.before.line c.args.before.number c.args.before.place v (is-true c.if-not-is_next.false c.is_next.ensures) h)
    c.test_made.result c.test_made.ensures

pub returns-clause-sound : goal.returns-clause-sound
returns-clause-sound g c =
    let ideal = subst (λ w. IsMadeOfItsCells c.args.founded.now (g.O.Oracle.x c.args.oracle.now) w (entry_with c.in-Some.made.shape.items c.in-Some.made.labels c.args.entry.now.cells.items)) c.requires.room (subst (λ cs. IsMadeOfItsCells c.args.founded.now (g.O.Oracle.x c.args.oracle.now) c.args.session.now.whole (entry_with c.in-Some.made.shape.items c.in-Some.made.labels cs)) c.items-cells.ensures.items (rw c.in-Some.is at c.in_ok-answer.ensures.ideal)) in
    ok-of (FirstFails (made_checks c.args.founded.now c.args.window.least c.args.window.greatest c.args.before.line c.in-Some.made.shape.items c.in-Some.made.labels c.args.entry.now))
    (λ v. v ≡ Valid → IsSoundEntry c.args.founded.now (g.O.Oracle.x c.args.oracle.now) c.args.window.least c.args.window.greatest c.args.entry.now)
    (λ v h is. made-sound c.args.founded.now (g.O.Oracle.x c.args.oracle.now) c.args.window.greatest c.in-Some.made.shape.items c.in-Some.made.labels c.args.entry.now ideal c.args.window.least c.args.before.line (subst (FirstFails (made_checks c.args.founded.now c.args.window.least c.args.window.greatest c.args.before.line c.in-Some.made.shape.items c.in-Some.made.labels c.args.entry.now)) is h))
    c.test_made.result c.test_made.ensures
