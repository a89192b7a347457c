-- Numbers that are no parts of x.
use Rattle.certificate.proofs.ReadLines.{no-x}
use Rattle.certificate.proofs.lines.x_of.Goals as goal
use Rattle.certificate.proofs.lines.x_of.Goals.{then-not-is_part-via-then-not-is_part, then-not-is_part-via-else-not-is_part+then-not-is_part-2}

pub returns-then-not-is_part-clause-none : goal.returns-then-not-is_part-clause-none
returns-then-not-is_part-clause-none c = no-x c.args.line.now c.read_whole.new.numbers c.if-not-read_whole.ensures.found (λ is are.
    elim c.then-not-is_part.branch [
      | then-not-is_part-via-then-not-is_part w ↦ absurd (let t = w.if-not-is_part.ensures.1 is in cc)
      | then-not-is_part-via-else-not-is_part+then-not-is_part-2 w ↦ absurd (let t = w.if-not-is_part-2.ensures.1 are in cc)
    ])
