-- The entries, one after the other.
use Rattle.std.proofs.Common.{◌≡◌, ◌+◌, ◌*◌, ◌<◌, ◌≤◌, arith, refl, sym, ◌∙◌, ap, subst}
use Rattle.bz_model.specs.Fraction.{Fraction}
use Rattle.choice_draw.proofs.Ticks.{oracle-none, oracle-more}
use Rattle.labelling.specs.LabelsByBits.{bits_in}
use Rattle.shape_sampler.specs.State.{SessionBelongs}
use Rattle.certificate.specs.declared.reason.Verdict.TheVariants.{Valid}
use Rattle.certificate.specs.Checks.{entry_checks}
use Rattle.certificate.specs.Soundness.{IsSoundEntry}
use Rattle.certificate.specs.Verdicts.{FirstFails}
use Rattle.certificate.proofs.EntryTests.{AreTested, tested-none, tested-more, tested-fails, tested-all}
use Rattle.certificate.proofs.entry_tests.test_entries.Goals as goal

pub tests-init : goal.tests-init
tests-init g c = record {
  number = refl;
  line = omega arith;
  session = c.requires.session;
  room = c.requires.room;
  oracle = oracle-none g.O.Oracle.spec g.O.Oracle.x g.O.Oracle.table g.O.Oracle.cost g.O.Oracle.raised c.args.oracle.now c.args.steps.now;
  tested = tested-none c.args.founded.now g.row.F (g.O.Oracle.table c.args.oracle.now) (g.O.Oracle.x c.args.oracle.now) c.args.window.least c.args.window.greatest c.args.line c.args.entries.now;
}

pub tests-preserved : goal.tests-preserved
tests-preserved g c =
    let inv = c.tests.invariant in
    let ok = subst (λ t. FirstFails (entry_checks c.args.founded.now g.row.F t c.args.window.least c.args.window.greatest c.tests.before.number c.tests.before.place c.tests.before.line c.entry-item.result) Valid) inv.oracle.table (rw c.in-Valid.is at (rw c.in_ok-tested.was at c.test_entry-answer.ensures.verdict)) in
    let sound = subst (λ x. IsSoundEntry c.args.founded.now x c.args.window.least c.args.window.greatest c.entry-item.result) inv.oracle.x ((rw c.in-Valid.is at (rw c.in_ok-tested.was at c.test_entry-answer.ensures.sound)) refl) in
    record {
      number = omega (arith, inv.number, c.after-before.ensures.number);
      line = omega (arith, inv.line, c.after-before.ensures.line);
      session = subst (λ x. SessionBelongs c.args.founded.now x c.test_entry-answer.new.session) inv.oracle.x c.test_entry-answer.ensures.session;
      room = c.test_entry-answer.ensures.whole ∙ inv.room;
      oracle = oracle-more g.O.Oracle.spec g.O.Oracle.x g.O.Oracle.table g.O.Oracle.cost g.O.Oracle.raised c.args.oracle.now c.tests.oracle c.test_entry-answer.new.oracle c.args.steps.now c.tests.steps c.test_entry-answer.new.steps c.known.ensures.costs c.known-in-tests.ensures.raised inv.oracle c.test_entry-answer.ensures.oracle;
      tested = subst (λ place. AreTested c.args.founded.now g.row.F (g.O.Oracle.table c.args.oracle.now) (g.O.Oracle.x c.args.oracle.now) c.args.window.least c.args.window.greatest c.args.line c.args.entries.now (c.tests.entry-index + 1) c.after-before.result.number place c.after-before.result.line) (sym c.after-before.ensures.place)
          (tested-more c.args.founded.now g.row.F (g.O.Oracle.table c.args.oracle.now) (g.O.Oracle.x c.args.oracle.now) c.args.window.least c.args.window.greatest c.args.line c.args.entries.now c.tests.entry-index c.tests.before.number c.tests.before.place c.tests.before.line inv.tested c.entry-item.result c.entry-item.is c.tests-test.true c.after-before.result.number c.after-before.result.line c.after-before.ensures.number c.after-before.ensures.line ok sound);
    }

pub returns-in_default-clause-verdict : goal.returns-in_default-clause-verdict
returns-in_default-clause-verdict g c =
    let inv = c.tests.invariant in
    let told = subst (λ t. FirstFails (entry_checks c.args.founded.now g.row.F t c.args.window.least c.args.window.greatest c.tests.before.number c.tests.before.place c.tests.before.line c.entry-item.result) c.in_ok-tested.tested) inv.oracle.table (rw c.in_ok-tested.was at c.test_entry-answer.ensures.verdict) in
    tested-fails c.args.founded.now g.row.F (g.O.Oracle.table c.args.oracle.now) (g.O.Oracle.x c.args.oracle.now) c.args.window.least c.args.window.greatest c.args.line c.args.entries.now c.tests.entry-index c.tests.before.number c.tests.before.place c.tests.before.line inv.tested c.entry-item.result c.entry-item.is c.tests-test.true c.in_ok-tested.tested told c.in_default.not-Valid

pub returns-clause-verdict : goal.returns-clause-verdict
returns-clause-verdict g c = (tested-all c.args.founded.now g.row.F (g.O.Oracle.table c.args.oracle.now) (g.O.Oracle.x c.args.oracle.now) c.args.window.least c.args.window.greatest c.args.line c.args.entries.now c.tests.entry-index c.tests.before.number c.tests.before.place c.tests.before.line c.tests-test.false c.tests.invariant.tested).0

pub returns-clause-sound : goal.returns-clause-sound
returns-clause-sound g c = λ is. (tested-all c.args.founded.now g.row.F (g.O.Oracle.table c.args.oracle.now) (g.O.Oracle.x c.args.oracle.now) c.args.window.least c.args.window.greatest c.args.line c.args.entries.now c.tests.entry-index c.tests.before.number c.tests.before.place c.tests.before.line c.tests-test.false c.tests.invariant.tested).1

pub returns-in_err-tested-clause-oracle : goal.returns-in_err-tested-clause-oracle
returns-in_err-tested-clause-oracle g c = oracle-more g.O.Oracle.spec g.O.Oracle.x g.O.Oracle.table g.O.Oracle.cost g.O.Oracle.raised c.args.oracle.now c.tests.oracle c.test_entry-answer.new.oracle c.args.steps.now c.tests.steps c.test_entry-answer.new.steps c.known.ensures.costs c.known-in-tests.ensures.raised c.tests.invariant.oracle c.test_entry-answer.ensures.oracle
