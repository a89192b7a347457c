-- Numbers of no node, or of no cell of 60 bits.
use Rattle.std.proofs.Common.{arith, refl, ◌∙◌}
use Rattle.certificate.proofs.ReadLines.{no-node, node-text}
use Rattle.certificate.proofs.lines.node_of.Goals as goal
use Rattle.certificate.proofs.lines.node_of.Goals.{then-node-from-via-then-node-from, then-node-from-via-else-node-from+then-not-is_full_cell}

pub returns-then-node-from-clause-none : goal.returns-then-node-from-clause-none
returns-then-node-from-clause-none c = no-node c.args.line.now c.read_whole.new.numbers c.if-not-read_whole.ensures.found (λ node cell is.
    elim c.then-node-from.branch [
      | then-node-from-via-then-node-from w ↦ absurd (omega (arith, w.if-node-from.true, c.from.ensures))
      | then-node-from-via-else-node-from+then-not-is_full_cell w ↦ absurd (let t = w.if-not-is_full_cell.ensures.1 (cell, is) in cc)
    ])

pub returns-clause-found : goal.returns-clause-found
returns-clause-found c =
    let f = c.if-not-read_whole.ensures.found in
    (c.if-not-is_full_cell.ensures.0 refl, (omega (arith, c.if-node-from.false, c.from.ensures), f.0.each 3, f.0.each 4), f.1 ∙ node-text c.read_whole.new.numbers)
