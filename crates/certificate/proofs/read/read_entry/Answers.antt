-- Three lines, one after the other.
use Rattle.std.proofs.Common.{[], ◌∷◌, length}
use Rattle.certificate.specs.Lines.{Line}
use Rattle.certificate.proofs.FirstBad.{passes-more}
use Rattle.certificate.proofs.Parts.{stops-here, stops-behind, entry-passes}
use Rattle.certificate.proofs.read.read_entry.Goals as goal

pub returns-in_default-2-clause-err : goal.returns-in_default-2-clause-err
returns-in_default-2-clause-err c =
    let o = Line.Object c.in-Some.number c.in-Some.place c.in-Some.size ∷ [] in
    let t = Line.Text c.in-Some-text_at.printed.now ∷ [] in
    let p = passes-more c.args.text.now c.in-Some.rest.now c.in-Some-text_at.rest.now o t c.in-Some.ensures.found c.in-Some-text_at.ensures.found in
    stops-behind c.args.text.now c.in-Some-text_at.rest.now (length c.in-Some-text_at.rest.now) (Line.Object c.in-Some.number c.in-Some.place c.in-Some.size ∷ Line.Text c.in-Some-text_at.printed.now ∷ []) p (stops-here c.in-Some-text_at.rest.now (rw c.in_default-2.is at c.in_ok-cells.ensures.none))

pub returns-clause-ok : goal.returns-clause-ok
returns-clause-ok c =
    entry-passes (record { number = c.in-Some.number; place = c.in-Some.place; size = c.in-Some.size; text = c.in_ok-text.text; cells = c.in-Some-2.cells }) c.args.text.now c.in-Some.rest.now c.in-Some-text_at.rest.now c.in-Some-2.after.now c.in-Some-text_at.printed.now
    c.in-Some.ensures.found c.in-Some-text_at.ensures.found (rw c.in-Some-2.is at c.in_ok-cells.ensures.found) c.in_ok-text.ensures
