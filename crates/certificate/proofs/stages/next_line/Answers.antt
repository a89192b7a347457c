-- Up to the first line feed.
use Rattle.std.proofs.Common.{◌<◌, length, arith}
use Rattle.certificate.proofs.NextLines.{before-feed, cut-line, no-line}
use Rattle.certificate.proofs.stages.next_line.Goals as goal

pub returns-then-end-text-clause-none : goal.returns-then-end-text-clause-none
returns-then-end-text-clause-none c = no-line c.args.text.now (λ k lt. c.line_end-end.ensures.before k (let e = c.if-end-text.true in omega arith))

pub returns-clause-found : goal.returns-clause-found
returns-clause-found c =
    let lt : c.line_end-end.result < length c.args.text.now = (let w = c.line_end-end.ensures.within in let ne = c.if-end-text.false in omega arith) in
    (before-feed c.args.text.now c.line_end-end.result c.line_end-end.ensures.before, cut-line c.args.text.now c.line_end-end.result lt (c.line_end-end.ensures.here lt))
