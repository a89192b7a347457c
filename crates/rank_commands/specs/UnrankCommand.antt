-- The command `unrank`.
use Rattle.std.specs.Prelude.{◌≡◌, ℕ, ◌≤◌, List, [], ◌++◌, codes, Some}
use Rattle.bz_model.specs.Spec.{Spec, body_of}
use Rattle.bz_model.specs.Object.{Object, Belongs}
use Rattle.bz_model.specs.ObjectText.{object_text}
use Rattle.rank_tables.specs.RankOrder.{IsCount, IsRanked}
use Rattle.call_stages.specs.Lines.{feed, end_done_line}
use Rattle.call_stages.specs.Outcomes.{Outcome, Says}
use Rattle.call_stages.specs.Stages.{Files, Specified}
use Rattle.call_stages.specs.declared.status.Status.{Status}
use Rattle.rank_commands.specs.RankStages.{Rankable, Counted}

-- No object of the size has this rank.
abbrev pub number_line : List ℕ
number_line = codes "refused rank number" ++ feed

-- The text of an object without labels, and the last line.
abbrev pub object_page : (s : Spec) (body : ℕ) (o : Object) → Belongs s body o → List ℕ
object_page s body o belongs = object_text s body o belongs [] ++ (feed ++ end_done_line)

-- The rank is judged: the first class has no more objects of the size than that, or the object of
-- this rank is printed.
pub data ObjectOfRank (s : Spec) (n r : ℕ) (status : Status) (text : List ℕ) (ticks : ℕ) : Type 0
  where
    beyond : (body count : ℕ) → body_of s 0 ≡ Some body → IsCount s body n count → count ≤ r
        → Says Status.RankRefused number_line 0 status text ticks
        → ObjectOfRank s n r status text ticks
    no_memory : Says Status.OutOfMemory [] 0 status text ticks
        → ObjectOfRank s n r status text ticks
    printed : (body : ℕ) (o : Object) (belongs : Belongs s body o) → body_of s 0 ≡ Some body
        → IsRanked s body n r o
        → Says Status.Done (object_page s body o belongs) 0 status text ticks
        → ObjectOfRank s n r status text ticks

-- What comes of `unrank FILE N R` once the specification is judged.
abbrev pub Unranked : (n r : ℕ) → Spec → Outcome
Unranked n r s = Rankable s (Counted s n (ObjectOfRank s n r))

-- `unrank FILE N R`: a specification is read and judged, its objects are counted for the sizes up
-- to N, and the object of its first class of size N and rank R is printed.
abbrev pub CarriesUnrank : Files → (file : List ℕ) → (n r : ℕ) → Outcome
CarriesUnrank f file n r = Specified f file (Unranked n r)
