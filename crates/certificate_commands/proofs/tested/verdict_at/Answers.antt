use Rattle.std.proofs.Common.{subst, sym}
use Rattle.std.specs.Prelude.{IfOk}
use Rattle.certificate.specs.Checks.{checks}
use Rattle.certificate.specs.Verdicts.{FirstFails}
use Rattle.command_words.specs.Fractions.{fraction_bits}
use Rattle.command_words.specs.declared.command.FractionBits.{FractionBits}
use Rattle.certificate_commands.proofs.tested.verdict_at.Goals as goal

-- the fraction bits are those of the choice
pub returns-in-F40-at_fraction-clause-verdict : goal.returns-in-F40-at_fraction-clause-verdict
returns-in-F40-at_fraction-clause-verdict g c = subst (λ (F : FractionBits). IfOk c.at_fraction-verify.result (FirstFails (checks c.args.founded.now (fraction_bits F) c.args.certificate.now))) (sym c.in-F40-at_fraction.is) c.at_fraction-verify.ensures.verdict

pub returns-in-F48-at_fraction-clause-verdict : goal.returns-in-F48-at_fraction-clause-verdict
returns-in-F48-at_fraction-clause-verdict g c = subst (λ (F : FractionBits). IfOk c.at_fraction-verify-2.result (FirstFails (checks c.args.founded.now (fraction_bits F) c.args.certificate.now))) (sym c.in-F48-at_fraction.is) c.at_fraction-verify-2.ensures.verdict

pub returns-in-F52-at_fraction-clause-verdict : goal.returns-in-F52-at_fraction-clause-verdict
returns-in-F52-at_fraction-clause-verdict g c = subst (λ (F : FractionBits). IfOk c.at_fraction-verify-3.result (FirstFails (checks c.args.founded.now (fraction_bits F) c.args.certificate.now))) (sym c.in-F52-at_fraction.is) c.at_fraction-verify-3.ensures.verdict
