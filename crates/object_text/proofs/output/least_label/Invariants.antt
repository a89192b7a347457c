-- The least of the parts so far, and of the others, is that of all.
use Rattle.std.proofs.Common.{◌≡◌, drop}
use Rattle.bz_model.specs.ObjectText.{lesser_label, least_of}
use Rattle.object_text.proofs.output.least_label.Given as goal

abbrev pub invariant-loop-part : goal.invariant-loop-part
invariant-loop-part l = lesser_label l.least (least_of (drop l.part-index l.parts)) ≡ least_of l.parts
