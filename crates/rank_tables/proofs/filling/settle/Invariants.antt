use Rattle.std.proofs.Common.{◌≡◌, length}
use Rattle.rank_tables.specs.Filling.{ChangesSize, count_of_class}
use Rattle.rank_tables.proofs.Settling.{AreReachedAt}
use Rattle.rank_tables.proofs.filling.settle.Given as goal

abbrev pub invariant-passes : goal.invariant-passes
invariant-passes l = record {
  in_rows : ChangesSize l.fn.n l.initial.rows l.rows;
  in_tails : ChangesSize l.fn.n l.initial.tails l.tails;
  long : length l.classes.items ≡ length l.system.names;
  reached : AreReachedAt l.system l.fn.n (count_of_class l.classes.items);
}
