-- One entry more.
use Rattle.std.specs.Prelude.{flat_map}
use Rattle.certificate.specs.Certificates.{entry_lines}
use Rattle.certificate.specs.Stages.{Stage}
use Rattle.certificate.proofs.Parts.{entries-first, entries-more, handed-on, stops-more}
use Rattle.certificate.proofs.read.read_entries.Goals as goal

pub entries-init : goal.entries-init
entries-init c = rw c.new-entries.ensures.empty (entries-first c.args.text.now)

pub returns-in_err-entry-clause-err : goal.returns-in_err-entry-clause-err
returns-in_err-entry-clause-err c = handed-on c.from_residual.result c.in_err-entry.field-0.0 Stage.AtObject c.args.text.now c.from_residual.ensures.1 (stops-more c.args.text.now c.entries.rest.now (flat_map entry_lines c.entries.entries) c.in_err-entry.field-0.0 c.entries.invariant.passes c.in_err-entry.ensures.err)

pub entries-preserved : goal.entries-preserved
entries-preserved c =
    let f = rw c.in-Some.is at c.in_ok-entry.ensures.ok in
    rw c.in_ok-push.ensures.ok (entries-more c.args.text.now c.entries.entries c.entries.rest.now c.in-Some.entry c.in-Some.after.now c.entries.invariant f)
