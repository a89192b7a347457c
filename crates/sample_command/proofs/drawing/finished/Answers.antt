use Rattle.std.proofs.Common.{◌≡◌, ◌++◌, subst, ◌∙◌, arith}
use Rattle.certificate.specs.Certificates.{closing_lines}
use Rattle.certificate.specs.Lines.{text_of}
use Rattle.size_window.specs.Drawing.{ending_of}
use Rattle.sample_command.specs.Drawn.{ending_status}
use Rattle.call_stages.specs.Ends.{EndsBy, output}
use Rattle.call_stages.specs.Outcomes.{Says}
use Rattle.sample_command.specs.UnderWay.{told_closing}
use Rattle.call_stages.specs.declared.status.Status.{Status}
use Rattle.call_stages.proofs.Endings.{said_written, not_said}
use Rattle.sample_command.proofs.drawing.finished.Goals as goal

-- the rest of the text is written
pub returns-in-Ok-clause-ends : goal.returns-in-Ok-clause-ends
returns-in-Ok-clause-ends g c =
    let closing = text_of (closing_lines (told_closing c.args.ending c.args.counts.kept c.args.counts.thrown c.args.bits c.args.counts.turns)) in
    said_written (ending_status (ending_of c.args.ending)) (c.args.page.items ++ closing) c.as_slice.result.now 0 _ _ _ _ _ _ _
    (subst (λ (k : Status). EndsBy (Says k c.as_slice.result.now 0) (output (g.K.Sink.written c.args.out.now) (g.K.Sink.written c.written.new.out) (g.K.Sink.faults c.args.out.now) (g.K.Sink.faults c.written.new.out) 0 0) c.written.result) c.status_of.ensures c.written.ensures.ends)
    (c.as_slice.ensures.value ∙ subst (λ k. c.append_closing.new.text.items ≡ c.args.page.items ++ text_of (closing_lines k)) c.closing_of.ensures c.in-Ok.ensures.ok) (omega arith)

-- there is no memory for the closing lines
pub returns-clause-ends : goal.returns-clause-ends
returns-clause-ends g c = not_said (ending_status (ending_of c.args.ending)) (c.args.page.items ++ text_of (closing_lines (told_closing c.args.ending c.args.counts.kept c.args.counts.thrown c.args.bits c.args.counts.turns))) 0 _ _ _ _ _ (omega arith)
