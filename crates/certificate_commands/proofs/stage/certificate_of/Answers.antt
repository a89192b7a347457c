use Rattle.std.proofs.Common.{arith}
use Rattle.certificate_commands.proofs.Judging.{line_refused}
use Rattle.certificate_commands.proofs.stage.certificate_of.Goals as goal

-- the text is refused, and the line is told
pub returns-in_ok-line_refusal-in-Err-BadLine-clause-err : goal.returns-in_ok-line_refusal-in-Err-BadLine-clause-err
returns-in_ok-line_refusal-in-Err-BadLine-clause-err c =
    let few = c.if-bytes-gt-MOST.false in
    line_refused c.args.bytes.now c.in-Err-BadLine.line _ _ (omega (arith, few)) (rw c.in-Err-BadLine.field-0-is at c.in-Err-BadLine.ensures.err) c.in_ok-line_refusal-in-Err-BadLine.ensures
