-- The parts so far, with a space before each.
use Rattle.std.proofs.Common.{◌≡◌, ◌++◌, take}
use Rattle.object_text.proofs.PartTexts.{after_spaces}
use Rattle.object_text.proofs.output.write_spaced.Given as goal

abbrev pub invariant-loop-part : goal.invariant-loop-part
invariant-loop-part l = l.text.items ≡ l.initial.text.items ++ after_spaces (take l.part-index l.later)
