-- Two numbers that are no cell's.
use Rattle.certificate.proofs.CellFields.{cell-read}
use Rattle.certificate.proofs.fields.cell_at.Goals as goal

pub returns-then-not-is_cell-clause-none : goal.returns-then-not-is_cell-clause-none
returns-then-not-is_cell-clause-none c = λ cell more h n e. absurd (let t = c.if-not-is_cell.ensures.1 (cell-read c.args.text.now c.read_front.new.numbers c.in_ok-rest.rest.now cell more c.in_ok-rest.ensures.found h n e) in cc)
