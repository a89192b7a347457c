-- The line where reading stopped.
use Rattle.certificate.proofs.Parts.{bad-line}
use Rattle.certificate.proofs.read.read.Goals as goal

pub returns-in-Err-At-clause-err : goal.returns-in-Err-At-clause-err
returns-in-Err-At-clause-err c = bad-line c.args.bytes.now c.in-Err-At.left c.line_at.result (rw c.in-Err-At.field-0-is at c.in-Err-At.ensures.err) c.line_at.ensures
