-- A new name, a known one, or no line of the base.
use Rattle.std.proofs.Common.{◌∙◌, ap, Some}
use Rattle.certificate.proofs.NextLines.{no-base-none, no-base-here, no-base-known, base-passes}
use Rattle.certificate.proofs.stages.base_at.Goals as goal

pub returns-in_default-clause-none : goal.returns-in_default-clause-none
returns-in_default-clause-none c = no-base-none c.args.names.now c.args.text.now c.in_default.ensures.none

pub returns-in_default-base_of-clause-none : goal.returns-in_default-base_of-clause-none
returns-in_default-base_of-clause-none c = no-base-here c.args.names.now c.args.text.now c.in-Some.line.now c.in-Some.rest.now c.in-Some.ensures.found.0 c.in-Some.ensures.found.1 (λ n v is missing s. c.in_default-base_of.ensures.none n v is s)

pub returns-in-Some-place-clause-none : goal.returns-in-Some-place-clause-none
returns-in-Some-place-clause-none c = no-base-known c.args.names.now c.args.text.now c.in-Some.line.now c.in-Some.rest.now c.in-Some-base_of.name.now c.in-Some-base_of.value c.in-Some-place.field-0 c.in-Some.ensures.found.0 c.in-Some.ensures.found.1 c.in-Some-base_of.ensures.found.0 c.in-Some-base_of.ensures.found.2 (c.in-Some-place.ensures.found ∙ ap Some c.in_ok-name.ensures)

pub returns-clause-found : goal.returns-clause-found
returns-clause-found c = (c.in-None.ensures.missing, base-passes c.args.names.now c.args.text.now c.in-Some.line.now c.in-Some.rest.now c.in-Some-base_of.name.now c.in_ok-name.name c.in-Some-base_of.value c.in-Some.ensures.found.1 c.in_ok-name.ensures c.in-Some-base_of.ensures.found.0 c.in-Some-base_of.ensures.found.1 c.in-Some-base_of.ensures.found.2 c.in-None.ensures.missing)
