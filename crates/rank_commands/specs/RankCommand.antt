-- The command `rank`.
use Rattle.std.specs.Prelude.{◌≡◌, ℕ, List, [], ◌++◌, decimal, codes, Option, Some}
use Rattle.bz_model.specs.Spec.{Spec, body_of}
use Rattle.object_store.specs.declared.token.Token.{Token}
use Rattle.object_store.specs.Tokens.{size_of}
use Rattle.rank_tables.specs.RankOrder.{IsCount}
use Rattle.rank_tables.specs.Shapes.{IsRankOf}
use Rattle.call_stages.specs.Lines.{feed, end_done_line}
use Rattle.call_stages.specs.Outcomes.{Outcome, Says}
use Rattle.call_stages.specs.Stages.{Files, Specified}
use Rattle.call_stages.specs.declared.status.Status.{Status}
use Rattle.object_stage.specs.ObjectStage.{ObjectRead}
use Rattle.rank_commands.specs.RankStages.{Rankable, Counted, SizeJudged}

-- The rank of an object among those of its size, and the last line.
abbrev pub rank_text : (r count : ℕ) → List ℕ
rank_text r count =
    codes "rank " ++ (decimal r ++ (codes " of " ++ (decimal count ++ (feed ++ end_done_line))))

-- The rank of the object with these tokens is printed, and how many objects of its size the first
-- class has.
pub data RankPrinted (s : Spec) (tokens : List Token) (status : Status) (text : List ℕ) (ticks : ℕ)
    : Type 0 where
  printed : (body count r : ℕ) → body_of s 0 ≡ Some body → IsCount s body (size_of tokens) count
      → IsRankOf s 0 tokens r → Says Status.Done (rank_text r count) 0 status text ticks
      → RankPrinted s tokens status text ticks
  no_memory : Says Status.OutOfMemory [] 0 status text ticks
      → RankPrinted s tokens status text ticks

-- What comes of `rank FILE OBJ` once the object is read: its size is judged, and the objects are
-- counted for the sizes up to its own.
abbrev pub ObjectRanked : Spec → List Token → (labels : Option (List ℕ)) → Outcome
ObjectRanked s tokens labels = SizeJudged tokens (Counted s (size_of tokens) (RankPrinted s tokens))

-- What comes of it once the specification is judged.
abbrev pub RankedIn : Files → (object : List ℕ) → Spec → Outcome
RankedIn f object s = Rankable s (ObjectRead f s object (ObjectRanked s))

-- `rank FILE OBJ`: a specification is read and judged, an object of its first class is read, and
-- its rank is printed.
abbrev pub CarriesRank : Files → (file object : List ℕ) → Outcome
CarriesRank f file object = Specified f file (RankedIn f object)
