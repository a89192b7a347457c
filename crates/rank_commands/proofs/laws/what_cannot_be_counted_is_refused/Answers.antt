use Rattle.rank_commands.proofs.Complete.{count_refused, unrank_refused, rank_refused}
use Rattle.rank_commands.proofs.laws.what_cannot_be_counted_is_refused.Goals as goal

pub returns : goal.returns
returns c = record {
  count = λ s most e n status text ticks mode plain many memory h. count_refused s status text ticks memory most e n mode plain many h;
  unrank = λ s n r e m status text ticks mode plain many memory h. unrank_refused s status text ticks memory n r e m mode plain many h;
  rank = λ s tokens labels e n status text ticks few many memory h. rank_refused s status text ticks memory tokens labels e n few many h;
}
