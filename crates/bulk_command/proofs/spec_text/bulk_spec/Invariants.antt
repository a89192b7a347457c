use Rattle.std.proofs.Common.{◌≡◌, ◌++◌}
use Rattle.std.specs.Prelude.{codes, flat_map}
use Rattle.std.specs.List.{range_with_len}
use Rattle.call_stages.specs.Lines.{feed}
use Rattle.bulk_command.specs.BulkText.{rule_line}
use Rattle.bulk_command.proofs.spec_text.bulk_spec.Given as goal

-- the mode's line and the lines of the classes so far
abbrev pub invariant-loop-class : goal.invariant-loop-class
invariant-loop-class l = l.text.items ≡ (codes "unlabelled" ++ feed) ++ flat_map (rule_line l.classes) (range_with_len 0 l.class)
