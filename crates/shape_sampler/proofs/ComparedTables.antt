-- What draws keep, where no node is marked.
use Rattle.std.proofs.Common.{ℕ}
use Rattle.bz_model.specs.declared.cell.Bounds.{Bounds}
use Rattle.bz_model.specs.Spec.{Spec}
use Rattle.choice_draw.specs.Marks.{IsMarked}
use Rattle.choice_draw.proofs.Comparing as unions
use Rattle.count_draw.proofs.ComparingCounts as counts
use Rattle.shape_sampler.specs.declared.tables.DrawTables.{DrawTables}
use Rattle.shape_sampler.specs.declared.tables.DrawMarks.{DrawMarks}
use Rattle.shape_sampler.specs.Compared.{AreTablesCompared}

-- Where no node is marked, none was compared.
pub none-compared : (s : Spec) (f : ℕ) (table : (level node : ℕ) → Bounds) (highest : ℕ) (tables : DrawTables) (marks : DrawMarks) → ((node : ℕ) → ¬ IsMarked marks.unions node) → ((node : ℕ) → ¬ IsMarked marks.counts node) → AreTablesCompared s f table highest tables marks
none-compared s f table highest tables marks none no_count = record {
  unions = unions.none-compared s table highest tables.unions marks.unions none;
  counts = counts.none-compared s f table highest tables.counts marks.counts no_count;
}
