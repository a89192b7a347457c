-- No outcome of these commands has the status of refused words.
use Rattle.std.proofs.Common.{◌≡◌, ℕ, List}
use Rattle.std.specs.Prelude.{Option}
use Rattle.bz_model.specs.Spec.{Spec}
use Rattle.object_store.specs.declared.token.Token.{Token}
use Rattle.object_store.specs.Tokens.{size_of}
use Rattle.call_stages.specs.Outcomes.{Outcome}
use Rattle.call_stages.specs.Stages.{Files}
use Rattle.call_stages.specs.declared.status.Status.{Status}
use Rattle.call_stages.proofs.Completing.{says-other}
use Rattle.object_stage.specs.ObjectStage.{ObjectRead}
use Rattle.object_stage.proofs.OneObject.{object-no-words}
use Rattle.rank_commands.specs.RankStages.{Rankable, Counted, SizeJudged}
use Rattle.rank_commands.specs.RankStages as stages
use Rattle.rank_commands.specs.CountCommand.{CountsPrinted, CountedTo}
use Rattle.rank_commands.specs.CountCommand as counts
use Rattle.rank_commands.specs.UnrankCommand.{ObjectOfRank, Unranked}
use Rattle.rank_commands.specs.UnrankCommand as unranking
use Rattle.rank_commands.specs.RankCommand.{RankPrinted, ObjectRanked, RankedIn}
use Rattle.rank_commands.specs.RankCommand as ranking

-- No outcome has that status.
abbrev pub IsWordless : Outcome → Type 0
IsWordless P = (status : Status) (text : List ℕ) (ticks : ℕ) → P status text ticks → status ≡ Status.WordsRefused → ⊥

rankable-no-words : (s : Spec) (next : Outcome) → IsWordless next → IsWordless (Rankable s next)
rankable-no-words s next on status text ticks (stages.labelled mode says) is = says-other Status.RankRefused Status.WordsRefused status _ text _ ticks (λ e. absurd (cc)) is says
rankable-no-words s next on status text ticks (stages.ranged e mode first says) is = says-other Status.RankRefused Status.WordsRefused status _ text _ ticks (λ e. absurd (cc)) is says
rankable-no-words s next on status text ticks (stages.no_memory says) is = says-other Status.OutOfMemory Status.WordsRefused status _ text _ ticks (λ e. absurd (cc)) is says
rankable-no-words s next on status text ticks (stages.plain mode plain p) is = on status text ticks p is

counted-no-words : (s : Spec) (most : ℕ) (next : Outcome) → IsWordless next → IsWordless (Counted s most next)
counted-no-words s most next on status text ticks (stages.too_many e n many says) is = says-other Status.RankRefused Status.WordsRefused status _ text _ ticks (λ e. absurd (cc)) is says
counted-no-words s most next on status text ticks (stages.no_memory says) is = says-other Status.OutOfMemory Status.WordsRefused status _ text _ ticks (λ e. absurd (cc)) is says
counted-no-words s most next on status text ticks (stages.counted small p) is = on status text ticks p is

-- `count`, once the specification is judged
pub count-no-words : (most : ℕ) (s : Spec) → IsWordless (CountedTo most s)
count-no-words most s = rankable-no-words s (Counted s most (CountsPrinted s most)) (counted-no-words s most (CountsPrinted s most) go)
  where
    go : IsWordless (CountsPrinted s most)
    go status text ticks (counts.printed count are says) is = says-other Status.Done Status.WordsRefused status _ text _ ticks (λ e. absurd (cc)) is says
    go status text ticks (counts.no_memory says) is = says-other Status.OutOfMemory Status.WordsRefused status _ text _ ticks (λ e. absurd (cc)) is says

-- `unrank`, once the specification is judged
pub unrank-no-words : (n r : ℕ) (s : Spec) → IsWordless (Unranked n r s)
unrank-no-words n r s = rankable-no-words s (Counted s n (ObjectOfRank s n r)) (counted-no-words s n (ObjectOfRank s n r) go)
  where
    go : IsWordless (ObjectOfRank s n r)
    go status text ticks (unranking.beyond body count is_body counted le says) is = says-other Status.RankRefused Status.WordsRefused status _ text _ ticks (λ e. absurd (cc)) is says
    go status text ticks (unranking.no_memory says) is = says-other Status.OutOfMemory Status.WordsRefused status _ text _ ticks (λ e. absurd (cc)) is says
    go status text ticks (unranking.printed body o belongs is_body ranked says) is = says-other Status.Done Status.WordsRefused status _ text _ ticks (λ e. absurd (cc)) is says

-- an object that was read
object-ranked-no-words : (s : Spec) (tokens : List Token) (labels : Option (List ℕ)) → IsWordless (ObjectRanked s tokens labels)
object-ranked-no-words s tokens labels status text ticks (stages.too_large large says) is = says-other Status.ObjectRefused Status.WordsRefused status _ text _ ticks (λ e. absurd (cc)) is says
object-ranked-no-words s tokens labels status text ticks (stages.no_memory says) is = says-other Status.OutOfMemory Status.WordsRefused status _ text _ ticks (λ e. absurd (cc)) is says
object-ranked-no-words s tokens labels status text ticks (stages.fits fits p) is = counted-no-words s (size_of tokens) (RankPrinted s tokens) go status text ticks p is
  where
    go : IsWordless (RankPrinted s tokens)
    go status text ticks (ranking.printed body count r is_body counted ranked says) is = says-other Status.Done Status.WordsRefused status _ text _ ticks (λ e. absurd (cc)) is says
    go status text ticks (ranking.no_memory says) is = says-other Status.OutOfMemory Status.WordsRefused status _ text _ ticks (λ e. absurd (cc)) is says

-- `rank`, once the specification is judged
pub rank-no-words : (f : Files) (object : List ℕ) (s : Spec) → IsWordless (RankedIn f object s)
rank-no-words f object s = rankable-no-words s (ObjectRead f s object (ObjectRanked s)) (λ status text ticks p is. object-no-words f s object (ObjectRanked s) (λ tokens labels status text ticks q. object-ranked-no-words s tokens labels status text ticks q) status text ticks p is)
