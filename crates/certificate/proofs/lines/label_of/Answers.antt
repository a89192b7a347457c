-- Numbers of no cell of 60 bits.
use Rattle.std.proofs.Common.{refl, ◌∙◌}
use Rattle.certificate.proofs.ReadLines.{no-label, label-text}
use Rattle.certificate.proofs.lines.label_of.Goals as goal

pub returns-then-not-is_full_cell-clause-none : goal.returns-then-not-is_full_cell-clause-none
returns-then-not-is_full_cell-clause-none c = no-label c.args.line.now c.read_whole.new.numbers c.if-not-read_whole.ensures.found (λ cell is. absurd (let t = c.if-not-is_full_cell.ensures.1 (cell, is) in cc))

pub returns-clause-found : goal.returns-clause-found
returns-clause-found c =
    let f = c.if-not-read_whole.ensures.found in
    (c.if-not-is_full_cell.ensures.0 refl, f.0.each 0, f.1 ∙ label-text c.read_whole.new.numbers)
