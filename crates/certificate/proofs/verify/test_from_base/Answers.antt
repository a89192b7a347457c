-- The entries and the closing, over the levels of the base.
use Rattle.std.proofs.Common.{◌≡◌, ℕ, ◌+◌, ◌*◌, ◌≤◌, arith, List, [], ◌∷◌, ◌++◌, length, refl, sym, ◌∙◌, ap, subst}
use Rattle.bz_model.specs.Fraction.{ratio}
use Rattle.oracle_memo.specs.Levels.{level_bounds, level_bounds_from}
use Rattle.oracle_memo.specs.Memos.{Memory}
use Rattle.rounded_map.specs.RoundedMap.{setting}
use Rattle.certificate.specs.declared.reason.Reason.TheVariants as reason
use Rattle.certificate.specs.declared.reason.Verdict.TheVariants.{Valid}
use Rattle.certificate.specs.Certificates.{open_lines}
use Rattle.certificate.specs.Checks.{check, setting_of, levels_of, entries_checks, last_line}
use Rattle.certificate.specs.Verdicts.{FirstFails}
use Rattle.certificate.proofs.Chains.{passes-then, fails-first}
use Rattle.certificate.proofs.Costs.{ticks-bound}
use Rattle.certificate.proofs.verify.test_from_base.Goals as goal

pub test_entries-requires-clause-session : goal.test_entries-requires-clause-session
test_entries-requires-clause-session g c = c.in_ok-session.ensures.belongs (ratio c.in_ok-memo.memo.num c.in_ok-memo.memo.den)

pub returns-in_err-of_entries-clause-ticks : goal.returns-in_err-of_entries-clause-ticks
returns-in_err-of_entries-clause-ticks g c = ticks-bound c.args.steps.now c.test_entries.new.steps c.in_ok-memo.memo.raised c.test_entries.new.oracle.raised c.known.ensures.costs (let at = ap (λ (m : Memory). m.raised) c.memo-2.view_is in let few = c.memo-2.invariant.few_levels in omega arith) c.test_entries.ensures.oracle.ticks

pub returns-in_default-clause-ticks : goal.returns-in_default-clause-ticks
returns-in_default-clause-ticks g c = ticks-bound c.args.steps.now c.test_entries.new.steps c.in_ok-memo.memo.raised c.test_entries.new.oracle.raised c.known.ensures.costs (let at = ap (λ (m : Memory). m.raised) c.memo-2.view_is in let few = c.memo-2.invariant.few_levels in omega arith) c.test_entries.ensures.oracle.ticks

pub returns-clause-ticks : goal.returns-clause-ticks
returns-clause-ticks g c = ticks-bound c.args.steps.now c.test_entries.new.steps c.in_ok-memo.memo.raised c.test_entries.new.oracle.raised c.known.ensures.costs (let at = ap (λ (m : Memory). m.raised) c.memo-2.view_is in let few = c.memo-2.invariant.few_levels in omega arith) c.test_entries.ensures.oracle.ticks

pub returns-in_default-clause-verdict : goal.returns-in_default-clause-verdict
returns-in_default-clause-verdict g c =
    let entries = subst (λ es. FirstFails (entries_checks c.args.founded.now g.row.F (λ level node. level_bounds_from (setting c.in_ok-memo.memo.spec c.in_ok-memo.memo.num c.in_ok-memo.memo.den g.row.F) c.in_ok-memo.memo.start c.in_ok-memo.memo.base level node) c.args.cert.now.header.min c.args.cert.now.header.max 0 0 c.args.first es) c.in_ok-of_entries.of_entries) c.items-entries.ensures.items c.in_ok-of_entries.ensures.verdict in
    let made = subst (λ (m : Memory). FirstFails (entries_checks c.args.founded.now g.row.F (λ level node. level_bounds_from (setting m.spec m.num m.den g.row.F) m.start m.base level node) c.args.cert.now.header.min c.args.cert.now.header.max 0 0 c.args.first c.args.cert.now.entries) c.in_ok-of_entries.of_entries) c.in_ok-memo.ensures.made entries in
    let told = subst (λ b. FirstFails (entries_checks c.args.founded.now g.row.F (λ level node. level_bounds (setting_of c.args.founded.now g.row.F c.args.cert.now.header) b level node) c.args.cert.now.header.min c.args.cert.now.header.max 0 0 c.args.first c.args.cert.now.entries) c.in_ok-of_entries.of_entries) c.requires.base made in
    fails-first (entries_checks c.args.founded.now g.row.F (levels_of c.args.founded.now g.row.F c.args.cert.now.header) c.args.cert.now.header.min c.args.cert.now.header.max 0 0 c.args.first c.args.cert.now.entries) (check (c.args.cert.now.closing.kept ≡ length c.args.cert.now.entries) (last_line c.args.first c.args.cert.now) reason.Closing ∷ []) c.in_ok-of_entries.of_entries told c.in_default.not-Valid

pub returns-clause-verdict : goal.returns-clause-verdict
returns-clause-verdict g c =
    let entries = subst (λ es. FirstFails (entries_checks c.args.founded.now g.row.F (λ level node. level_bounds_from (setting c.in_ok-memo.memo.spec c.in_ok-memo.memo.num c.in_ok-memo.memo.den g.row.F) c.in_ok-memo.memo.start c.in_ok-memo.memo.base level node) c.args.cert.now.header.min c.args.cert.now.header.max 0 0 c.args.first es) c.in_ok-of_entries.of_entries) c.items-entries.ensures.items c.in_ok-of_entries.ensures.verdict in
    let made = subst (λ (m : Memory). FirstFails (entries_checks c.args.founded.now g.row.F (λ level node. level_bounds_from (setting m.spec m.num m.den g.row.F) m.start m.base level node) c.args.cert.now.header.min c.args.cert.now.header.max 0 0 c.args.first c.args.cert.now.entries) c.in_ok-of_entries.of_entries) c.in_ok-memo.ensures.made entries in
    let told = subst (λ b. FirstFails (entries_checks c.args.founded.now g.row.F (λ level node. level_bounds (setting_of c.args.founded.now g.row.F c.args.cert.now.header) b level node) c.args.cert.now.header.min c.args.cert.now.header.max 0 0 c.args.first c.args.cert.now.entries) c.in_ok-of_entries.of_entries) c.requires.base made in
    passes-then (entries_checks c.args.founded.now g.row.F (levels_of c.args.founded.now g.row.F c.args.cert.now.header) c.args.cert.now.header.min c.args.cert.now.header.max 0 0 c.args.first c.args.cert.now.entries) (check (c.args.cert.now.closing.kept ≡ length c.args.cert.now.entries) (last_line c.args.first c.args.cert.now) reason.Closing ∷ []) c.test_closing.result (subst (FirstFails (entries_checks c.args.founded.now g.row.F (levels_of c.args.founded.now g.row.F c.args.cert.now.header) c.args.cert.now.header.min c.args.cert.now.header.max 0 0 c.args.first c.args.cert.now.entries)) c.in-Valid.is told)
    (subst (λ es. FirstFails (check (c.args.cert.now.closing.kept ≡ length es) (c.args.first + (3 * length es + length (open_lines c.args.cert.now.closing.straddle))) reason.Closing ∷ []) c.test_closing.result) c.items-entries.ensures.items c.test_closing.ensures)
