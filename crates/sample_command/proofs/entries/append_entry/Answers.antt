use Rattle.std.proofs.Common.{◌≡◌, subst, sym}
use Rattle.bz_model.specs.ObjectText.{object_text}
use Rattle.bz_model.specs.Spec.{Spec}
use Rattle.certificate.specs.Certificates.{object_lines}
use Rattle.certificate.specs.Lines.{text_of}
use Rattle.object_store.specs.Tokens.{IsOf}
use Rattle.object_text.specs.Labels.{HasOneForEach}
use Rattle.sample_command.proofs.KeptLabels.{one-for-each}
use Rattle.sample_command.proofs.entries.append_entry.Goals as goal

-- there are labels as the mode wants them
pub print_labelled-requires-clause-labels : goal.print_labelled-requires-clause-labels
print_labelled-requires-clause-labels c =
    subst (λ (s : Spec). HasOneForEach s.mode c.args.kept.now.shape.items c.labels_of-labels.result.now) (sym c.system-system.ensures.system)
    (one-for-each c.args.founded.now.mode c.args.kept.now c.labels_of-labels.result.now c.requires.labels c.labels_of-labels.ensures)

-- the lines are those of the entry
pub returns-clause-ok : goal.returns-clause-ok
returns-clause-ok c =
    let text = subst (λ s. (of : IsOf s 0 c.args.kept.now.shape.items) → c.in_ok-text.text.items ≡ object_text s of.body of.object of.belongs c.labels_of-labels.result.now) c.system-system.ensures.system c.in_ok-text.ensures.text in
    let labels = c.labels_of-labels.ensures in
    let slice = c.as_slice-object.ensures.value in
    let size = c.size-size.ensures in
    let cells = c.items-cells.ensures in
    let lines = text_of (object_lines c.args.kept.now.number c.args.kept.now.place c.size-size.result c.as_slice-object.result.now c.items-cells.result.now) in
    (lines, record { is_of = c.requires.is_of; same = λ of. let here = text of in cc }, c.in_ok-append_object.ensures.ok)
