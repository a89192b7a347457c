use Rattle.std.proofs.Common.{ap, ◌++◌}
use Rattle.std.specs.Fmt.{digits}
use Rattle.call_stages.specs.Lines.{spec_end_line}
use Rattle.point_command.proofs.laws.worked_specifications_are_printed.Goals as goal

pub returns-clause-binary : goal.returns-clause-binary
unfolding digits
returns-clause-binary c = ap (λ t. t ++ spec_end_line 2 19) c.worked_specifications_are_pointed.ensures.binary

pub returns-clause-row : goal.returns-clause-row
unfolding digits
returns-clause-row c = ap (λ t. t ++ spec_end_line 2 8) c.worked_specifications_are_pointed.ensures.row
