use Rattle.rank_commands.specs.CountCommand.{CountedTo}
use Rattle.rank_commands.specs.UnrankCommand.{Unranked}
use Rattle.rank_commands.specs.RankCommand.{RankedIn}
use Rattle.call_stages.proofs.Completing.{specified-only}
use Rattle.rank_commands.proofs.laws.a_fit_specification_goes_on.Goals as goal

pub returns : goal.returns
returns c = record {
  count = λ f file s most status text ticks fit memory h. specified-only f file s (CountedTo most) status text ticks fit memory h;
  unrank = λ f file s n r status text ticks fit memory h. specified-only f file s (Unranked n r) status text ticks fit memory h;
  rank = λ f file object s status text ticks fit memory h. specified-only f file s (RankedIn f object) status text ticks fit memory h;
}
