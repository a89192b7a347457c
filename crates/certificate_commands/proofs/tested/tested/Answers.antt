use Rattle.std.proofs.Common.{subst}
use Rattle.certificate.specs.Checks.{checks}
use Rattle.certificate.specs.Verdicts.{FirstFails}
use Rattle.command_words.specs.Fractions.{fraction_bits}
use Rattle.certificate_commands.proofs.Testing.{is_valid, not_valid}
use Rattle.certificate_commands.proofs.tested.tested.Goals as goal

-- each test passes
pub returns-in-Ok-Valid-clause-valid : goal.returns-in-Ok-Valid-clause-valid
returns-in-Ok-Valid-clause-valid g c = is_valid c.args.founded.now c.args.certificate.now (fraction_bits c.bits_of-fraction.result) c.bits_of-fraction.ensures c.in-Ok-Valid.field-0 c.in-Ok-Valid.field-0-is c.in-Ok-Valid.ensures.verdict c.in-Ok-Valid.ensures.sound

-- one fails, and its line is told
pub returns-in_ok-report-in-Ok-Invalid-clause-err : goal.returns-in_ok-report-in-Ok-Invalid-clause-err
returns-in_ok-report-in-Ok-Invalid-clause-err g c =
    let F = fraction_bits c.bits_of-fraction.result in
    not_valid c.args.founded.now c.args.certificate.now F c.bits_of-fraction.ensures c.in-Ok-Invalid.line c.in-Ok-Invalid.reason _ _ (subst (λ v. FirstFails (checks c.args.founded.now F c.args.certificate.now) v) c.in-Ok-Invalid.field-0-is c.in-Ok-Invalid.ensures.verdict) c.in_ok-report-in-Ok-Invalid.ensures
