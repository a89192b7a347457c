use Rattle.std.proofs.Common.{◌∙◌, ap, arith}
use Rattle.std.specs.Prelude.{slice_index}
use Rattle.bz_model.specs.declared.cell.Bounds.{Bounds}
use Rattle.oracle_memo.specs.Memos.{drawn_in}
use Rattle.oracle_memo.proofs.RowByRow.{before-same, written-more, others-stay}
use Rattle.oracle_memo.proofs.rows.write_row.Goals as goal

pub loop-e-preserved : goal.loop-e-preserved
loop-e-preserved c = record {
  written = written-more c.args.table.now c.loop-e.table _ c.args.start c.loop-e.e _ c.args.low.now c.args.high.now c.loop-e.invariant.written (omega arith)
      (c.drawn_in.ensures ∙ ap (λ (b : Bounds). drawn_in b (slice_index c.args.low.now c.loop-e.e) (slice_index c.args.high.now c.loop-e.e)) (c.bounds_before-before.ensures.bounds ∙ before-same c.args.table.now c.loop-e.table _ c.args.start c.loop-e.e c.requires.before c.loop-e-test.true c.loop-e.invariant.others));
  others = others-stay c.args.table.now c.loop-e.table c.args.start c.loop-e.e _ c.loop-e.invariant.others;
}
