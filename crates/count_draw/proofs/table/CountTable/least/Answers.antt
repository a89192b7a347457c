-- The least that passes is the least that reaches the value at the cell's end.
use Rattle.std.proofs.Common.{◌≡◌, arith, ap, sym, ◌∙◌}
use Rattle.bz_model.specs.declared.cell.Bounds.{Bounds}
use Rattle.count_draw.specs.Table.{Filling, end_value, least_at, least_reaching}
use Rattle.count_draw.proofs.PartialValues.{least-by_value, least-none_upto}
use Rattle.count_draw.proofs.table.CountTable.least.Goals as goal

pub returns-in-Some-clause-exact : goal.returns-in-Some-clause-exact
returns-in-Some-clause-exact g c =
    let end : c.end_of-end.result ≡ end_value c.args.cell c.self.inside.sums.whole.hi = c.end_of-end.ensures.exact ∙ ap (λ (w : Bounds). end_value c.args.cell w.hi) c.whole.ensures in
    let by_value : least_reaching g.row.F c.self.inside.sums c.end_of-end.result ≡ least_at g.row.F c.args.self.now c.args.cell = ap (λ v. least_reaching g.row.F c.self.inside.sums v) end ∙ least-by_value g.row.F c.self.inside.sums c.args.cell ∙ ap (λ (t : Filling). least_at g.row.F t c.args.cell) c.self.view_is in
    sym c.in-Some.ensures.found ∙ by_value

pub returns-then-room-self-clause-exact : goal.returns-then-room-self-clause-exact
returns-then-room-self-clause-exact g c =
    let end : c.end_of-end.result ≡ end_value c.args.cell c.self.inside.sums.whole.hi = c.end_of-end.ensures.exact ∙ ap (λ (w : Bounds). end_value c.args.cell w.hi) c.whole.ensures in
    let by_value : least_reaching g.row.F c.self.inside.sums c.end_of-end.result ≡ least_at g.row.F c.args.self.now c.args.cell = ap (λ v. least_reaching g.row.F c.self.inside.sums v) end ∙ least-by_value g.row.F c.self.inside.sums c.args.cell ∙ ap (λ (t : Filling). least_at g.row.F t c.args.cell) c.self.view_is in
    sym (least-none_upto g.row.F c.self.inside.sums c.end_of-end.result (λ j from upto. c.in_default.ensures.none.upto j from (omega (arith, c.if-room-self.true, c.room.ensures.asked)) upto)) ∙ by_value

pub returns-clause-exact : goal.returns-clause-exact
returns-clause-exact g c =
    let end : c.end_of-end.result ≡ end_value c.args.cell c.self.inside.sums.whole.hi = c.end_of-end.ensures.exact ∙ ap (λ (w : Bounds). end_value c.args.cell w.hi) c.whole.ensures in
    let by_value : least_reaching g.row.F c.self.inside.sums c.end_of-end.result ≡ least_at g.row.F c.args.self.now c.args.cell = ap (λ v. least_reaching g.row.F c.self.inside.sums v) end ∙ least-by_value g.row.F c.self.inside.sums c.args.cell ∙ ap (λ (t : Filling). least_at g.row.F t c.args.cell) c.self.view_is in
    c.least_from.ensures.exact ∙ by_value
