-- The upper value is compared with the value at the cell's begin.
use Rattle.std.proofs.Common.{ap, ◌∙◌}
use Rattle.std.specs.Prelude.{nat_le}
use Rattle.bz_model.specs.declared.cell.Bounds.{Bounds}
use Rattle.count_draw.specs.Table.{upper_at, begin_value}
use Rattle.count_draw.proofs.PartialValues.{passed-by_value}
use Rattle.count_draw.proofs.choice.is_passed.Goals as goal

pub returns-clause-exact : goal.returns-clause-exact
returns-clause-exact g c =
    c.is_within.ensures.exact
    ∙ ap (λ u. nat_le (upper_at g.row.F c.args.sums.now c.args.i) u) (c.begin_of.ensures.exact ∙ ap (λ (w : Bounds). begin_value c.args.cell w.lo) c.whole.ensures)
    ∙ passed-by_value g.row.F c.args.sums.now c.args.cell c.args.i
