use Rattle.std.proofs.Common.{◌≡◌, ◌++◌, string_bytes, take}
use Rattle.std.specs.Prelude.{codes, flat_map}
use Rattle.call_stages.specs.Refusals.{number_field}
use Rattle.call_stages.proofs.refusals.values_of.Given as goal

abbrev pub invariant-loop-value : goal.invariant-loop-value
invariant-loop-value l = string_bytes l.text ≡ codes "proposal" ++ flat_map number_field (take l.value-index l.values)
