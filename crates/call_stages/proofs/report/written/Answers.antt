use Rattle.std.proofs.Common.{arith}
use Rattle.call_stages.proofs.Endings.{write_failed}
use Rattle.call_stages.proofs.report.written.Goals as goal

-- a prefix is written
pub returns-in-Err-clause-ends : goal.returns-in-Err-clause-ends
returns-in-Err-clause-ends g c = write_failed c.args.status c.args.text.now _ _ _ _ c.in-Err.ensures.front (let once = c.in-Err.ensures.cause in let next = once.next in omega arith)
