use Rattle.std.proofs.Common.{◌≡◌, ℕ, ◌<◌, false, Some}
use Rattle.std.specs.Prelude.{slice_get}
use Rattle.bz_model.specs.Spec.{body_of}
use Rattle.rank_tables.specs.Grids.{cell}
use Rattle.rank_tables.proofs.filling.take_bodies.Given as goal

abbrev pub invariant-loop-c : goal.invariant-loop-c
invariant-loop-c l = record {
  taken : (k body : ℕ) → k < l.c → body_of l.system k ≡ Some body → slice_get l.classes k ≡ Some (cell l.rows body l.fn.n);
  same : l.changed ≡ false → l.classes ≡ l.initial.classes;
}
