-- Part after part.
use Rattle.std.specs.Prelude.{flat_map}
use Rattle.std.proofs.Common.{subst}
use Rattle.certificate.specs.Certificates.{entry_lines, closing_lines}
use Rattle.certificate.specs.Stages.{Stage, Passes}
use Rattle.certificate.proofs.CellFields.{not-empty, is-empty}
use Rattle.certificate.proofs.Parts.{handed-on, stops-more, stops-behind-header, too-much, whole}
use Rattle.certificate.proofs.read.read_certificate.Goals as goal

pub returns-in_err-entries-clause-err : goal.returns-in_err-entries-clause-err
returns-in_err-entries-clause-err c =
    handed-on c.from_residual-in_err-entries.result c.in_err-entries.field-0.0 Stage.AtVersion c.args.bytes.now c.from_residual-in_err-entries.ensures.1
    (stops-behind-header c.in_ok-header.header c.args.bytes.now c.in_ok-header.rest.now c.in_err-entries.field-0.0 c.in_ok-header.ensures.ok c.in_ok-header.ensures.last c.in_err-entries.ensures.err)

pub returns-in_err-closing-clause-err : goal.returns-in_err-closing-clause-err
returns-in_err-closing-clause-err c =
    handed-on c.from_residual-in_err-closing.result c.in_err-closing.field-0.0 Stage.AtVersion c.args.bytes.now c.from_residual-in_err-closing.ensures.1
    (stops-behind-header c.in_ok-header.header c.args.bytes.now c.in_ok-header.rest.now c.in_err-closing.field-0.0 c.in_ok-header.ensures.ok c.in_ok-header.ensures.last
    (stops-more c.in_ok-header.rest.now c.in_ok-entries.rest.now (flat_map entry_lines c.in_ok-entries.entries) c.in_err-closing.field-0.0 c.in_ok-entries.ensures.ok c.in_err-closing.ensures.err))

pub returns-then-not-is_empty-clause-err : goal.returns-then-not-is_empty-clause-err
returns-then-not-is_empty-clause-err c =
    too-much c.in_ok-header.header c.in_ok-entries.entries c.in_ok-closing.closing c.args.bytes.now c.in_ok-header.rest.now c.in_ok-entries.rest.now c.in_ok-closing.rest.now c.in_ok-header.ensures.ok c.in_ok-header.ensures.last c.in_ok-entries.ensures.ok c.in_ok-closing.ensures.ok
    (not-empty c.in_ok-closing.rest.now c.is_empty.result c.is_empty.ensures c.if-not-is_empty.true)

pub returns-clause-ok : goal.returns-clause-ok
returns-clause-ok c =
    whole (record { header = c.in_ok-header.header; entries = c.in_ok-entries.entries; closing = c.in_ok-closing.closing }) c.args.bytes.now c.in_ok-header.rest.now c.in_ok-entries.rest.now c.in_ok-header.ensures.one_each c.in_ok-header.ensures.ok c.in_ok-entries.ensures.ok
    (subst (λ rest. Passes Stage.AtObject c.in_ok-entries.rest.now (closing_lines c.in_ok-closing.closing) Stage.Over rest) (is-empty c.in_ok-closing.rest.now c.is_empty.result c.is_empty.ensures c.if-not-is_empty.false) c.in_ok-closing.ensures.ok)
