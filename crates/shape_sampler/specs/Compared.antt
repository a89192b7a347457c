-- What draws keep, and whose bounds of it were compared with a table's.
use Rattle.std.specs.Prelude.{ℕ}
use Rattle.bz_model.specs.declared.cell.Bounds.{Bounds}
use Rattle.bz_model.specs.Spec.{Spec}
use Rattle.choice_draw.specs.Compared.{AreCompared}
use Rattle.count_draw.specs.ComparedCounts.{AreCountsCompared}
use Rattle.shape_sampler.specs.declared.tables.DrawTables.{DrawTables}
use Rattle.shape_sampler.specs.declared.tables.DrawMarks.{DrawMarks}

-- What is kept for each marked node was decided by a table's bounds on level 1, which is raised.
pub record AreTablesCompared (s : Spec) (f : ℕ) (table : (level node : ℕ) → Bounds)
    (highest : ℕ) (tables : DrawTables) (marks : DrawMarks) : Type 0 where
  pub unions : AreCompared s table highest tables.unions marks.unions
  pub counts : AreCountsCompared s f table highest tables.counts marks.counts
