-- When the answer is certain: what is read of the files, and which specifications can be counted.
use Rattle.std.specs.Prelude.{◌≡◌, ℕ, ◌≤◌, List, [], length}
use Rattle.bz_model.specs.Spec.{Spec, Mode}
use Rattle.bz_model.specs.Object.{Object, Belongs}
use Rattle.bz_model.specs.ObjectText.{object_text}
use Rattle.rank_tables.specs.Refusals.{HasPlainRanges, HasSmallCounts}
use Rattle.call_stages.specs.Stages.{Files, IsCalm}
use Rattle.call_stages.specs.declared.status.Status.{Status}
use Rattle.object_stage.specs.ObjectStage.{without_feed}
use Rattle.rank_commands.specs.CountCommand.{CountedTo}
use Rattle.rank_commands.specs.UnrankCommand.{Unranked}
use Rattle.rank_commands.specs.RankCommand.{RankedIn}

-- The specification is unlabelled and has plain ranges alone, and no count for a size up to the
-- greatest passes 2^128 - 1.
pub record CanBeCounted (s : Spec) (most : ℕ) : Type 0 where
  pub unlabelled : s.mode ≡ Mode.Unlabelled
  pub plain : HasPlainRanges s
  pub small : HasSmallCounts s most

-- The file is known to have the text of this object, with or without a line feed at its end, and no
-- read of it failed in the call.
pub record IsTextIn (f : Files) (file : List ℕ) (s : Spec) (body : ℕ) (o : Object)
    (belongs : Belongs s body o) : Type 0 where
  pub calm : IsCalm f file
  pub few : length calm.bytes ≤ 16777216
  pub is_text : without_feed calm.bytes ≡ object_text s body o belongs []

-- What comes of one of the commands once the specification is judged.
pub data ComesOf (f : Files) (s : Spec) (status : Status) (text : List ℕ) (ticks : ℕ) : Type 0 where
  of_count : (most : ℕ) → CountedTo most s status text ticks → ComesOf f s status text ticks
  of_unrank : (n r : ℕ) → Unranked n r s status text ticks → ComesOf f s status text ticks
  of_rank : (object : List ℕ) → RankedIn f object s status text ticks
      → ComesOf f s status text ticks
