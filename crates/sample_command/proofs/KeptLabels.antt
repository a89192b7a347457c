-- The labels of a kept object.
use Rattle.std.proofs.Common.{◌≡◌, ℕ, List, length, ap, ◌∙◌}
use Rattle.bz_model.specs.Spec.{Mode}
use Rattle.object_text.specs.Labels.{HasOneForEach}
use Rattle.size_window.specs.Turn.{EntryHasLabels, labels_told}
use Rattle.size_window.specs.declared.turned.Entry.{Entry}

-- there is one for each atom in labelled mode, and none in unlabelled mode
pub one-for-each : (mode : Mode) (e : Entry) (labels : List ℕ) → EntryHasLabels mode e → labels ≡ labels_told e.labels → HasOneForEach mode e.shape.items labels
one-for-each Mode.Unlabelled e labels h is = is ∙ ap labels_told h
one-for-each Mode.Labelled e labels h is = ap length (is ∙ ap labels_told h.there) ∙ h.one_to.count
