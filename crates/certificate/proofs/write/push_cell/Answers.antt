-- Number by number.
use Rattle.std.proofs.Common.{◌∙◌, ap, ◌++◌, decimal}
use Rattle.certificate.proofs.Writing.{cell-put}
use Rattle.certificate.proofs.write.push_cell.Goals as goal

pub returns : goal.returns
returns c =
    cell-put c.args.cell c.args.text.now.items c.push_byte.new.text.items c.push_number.new.text.items c.push_byte-2.new.text.items c.push_number-2.new.text.items
    c.in_ok-push_byte.ensures.ok c.in_ok-push_number.ensures.ok c.in_ok-push_byte-2.ensures.ok
    (c.in_ok-push_number-2.ensures.ok ∙ ap (λ n. c.push_byte-2.new.text.items ++ decimal n) c.from.ensures)
