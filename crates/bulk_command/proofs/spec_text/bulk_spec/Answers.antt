use Rattle.std.proofs.Common.{◌++◌, ◌∙◌}
use Rattle.std.specs.Prelude.{codes}
use Rattle.call_stages.specs.Lines.{feed}
use Rattle.bulk_command.specs.BulkText.{rule_line}
use Rattle.bulk_command.proofs.Blocks.{text_more}
use Rattle.bulk_command.proofs.spec_text.bulk_spec.Goals as goal

-- the line of one more class
pub loop-class-preserved : goal.loop-class-preserved
loop-class-preserved c = text_more (rule_line c.class_count-classes.result) c.loop-class.class (codes "unlabelled" ++ feed) c.loop-class.text.items c.extend_from_slice-in-loop-class.new.self.items c.as_bytes.result.now c.loop-class.invariant (c.as_bytes.ensures.value ∙ c.in_ok-line.ensures) c.in_ok-extend_from_slice-2.ensures.items
