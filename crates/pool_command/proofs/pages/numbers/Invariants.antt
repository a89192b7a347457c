use Rattle.std.proofs.Common.{◌≡◌, ◌++◌, take, string_bytes}
use Rattle.std.specs.Prelude.{codes, flat_map}
use Rattle.call_stages.specs.Refusals.{number_field}
use Rattle.pool_command.proofs.pages.numbers.Given as goal

abbrev pub invariant-loop-number : goal.invariant-loop-number
invariant-loop-number l = string_bytes l.text ≡ codes "order" ++ flat_map number_field (take l.number-index l.order)
