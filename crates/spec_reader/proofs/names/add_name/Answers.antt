use Rattle.std.proofs.Common.{ap, sym, ◌∙◌}
use Rattle.bz_model.specs.Spec.{Spec}
use Rattle.spec_reader.proofs.NamesSeen.{one_found, one_missing}
use Rattle.spec_reader.proofs.names.add_name.Goals as goal

pub returns-in-Ok-clause-names : goal.returns-in-Ok-clause-names
returns-in-Ok-clause-names c = ap (λ (d : Spec). d.names) c.in-Ok.ensures.ok ∙ sym (one_missing c.args.draft.now.names c.args.name c.in-Ok.ensures.missing)

pub returns-in-Err-Twice-clause-names : goal.returns-in-Err-Twice-clause-names
returns-in-Err-Twice-clause-names c = ap (λ (d : Spec). d.names) c.in-Err-Twice.ensures.err ∙ sym (one_found c.args.draft.now.names c.args.name _ (rw c.in-Err-Twice.field-0-is at c.in-Err-Twice.ensures.fault))
