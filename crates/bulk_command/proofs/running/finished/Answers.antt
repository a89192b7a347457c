use Rattle.std.proofs.Common.{◌≡◌, List, ℕ, ap, subst, ◌∙◌, arith}
use Rattle.size_window.specs.Drawing.{ending_of}
use Rattle.call_stages.specs.Ends.{EndsBy, output}
use Rattle.call_stages.specs.Outcomes.{Says}
use Rattle.call_stages.specs.declared.status.Status.{Status}
use Rattle.call_stages.proofs.Endings.{said_written, not_said}
use Rattle.sample_command.specs.Drawn.{ending_word, ending_status}
use Rattle.bulk_command.specs.BulkCommand.{bulk_line}
use Rattle.bulk_command.specs.BulkText.{classes_of}
use Rattle.bulk_command.proofs.running.finished.Goals as goal

-- the line of as many classes, with the same word
same-line : (n classes others : ℕ) (word other : List ℕ) (kept thrown atoms bits turns : ℕ) → classes ≡ others → word ≡ other → bulk_line n classes word kept thrown atoms bits turns ≡ bulk_line n others other kept thrown atoms bits turns
same-line n classes others word other kept thrown atoms bits turns a b = ap (λ k. bulk_line n k word kept thrown atoms bits turns) a ∙ ap (λ w. bulk_line n others w kept thrown atoms bits turns) b

-- the line is written
pub returns-in-Ok-clause-ends : goal.returns-in-Ok-clause-ends
returns-in-Ok-clause-ends g c =
    let line = bulk_line c.args.n (classes_of c.args.n) (ending_word (ending_of c.args.ending)) c.args.counts.kept c.args.counts.thrown c.args.counts.atoms c.args.bits c.args.counts.turns in
    said_written (ending_status (ending_of c.args.ending)) line c.as_bytes.result.now 0 _ _ _ _ _ _ _
    (subst (λ (k : Status). EndsBy (Says k c.as_bytes.result.now 0) (output (g.K.Sink.written c.args.out.now) (g.K.Sink.written c.written.new.out) (g.K.Sink.faults c.args.out.now) (g.K.Sink.faults c.written.new.out) 0 0) c.written.result) c.status_of.ensures c.written.ensures.ends)
    (c.as_bytes.ensures.value ∙ c.in-Ok.ensures ∙ same-line c.args.n c.class_count.result (classes_of c.args.n) c.word_of.result.now (ending_word (ending_of c.args.ending)) c.args.counts.kept c.args.counts.thrown c.args.counts.atoms c.args.bits c.args.counts.turns c.class_count.ensures c.word_of.ensures) (omega arith)

-- there is no memory for it
pub returns-in-Err-clause-ends : goal.returns-in-Err-clause-ends
returns-in-Err-clause-ends g c = not_said (ending_status (ending_of c.args.ending)) (bulk_line c.args.n (classes_of c.args.n) (ending_word (ending_of c.args.ending)) c.args.counts.kept c.args.counts.thrown c.args.counts.atoms c.args.bits c.args.counts.turns) 0 _ _ _ _ _ (omega arith)
