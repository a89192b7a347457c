use Rattle.std.proofs.Common.{◌≡◌, ◌++◌}
use Rattle.boltz.specs.OracleCommand.{class_level}
use Rattle.call_stages.specs.Lines.{lines_below}
use Rattle.boltz.proofs.oracle.append_level.Given as goal

-- the lines of the classes so far are appended
abbrev pub invariant-loop-class : goal.invariant-loop-class
invariant-loop-class l = l.text.items ≡ l.initial.text.items ++ lines_below (class_level l.system l.level l.lower l.upper) l.class
