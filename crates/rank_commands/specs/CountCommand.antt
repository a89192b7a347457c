-- The command `count`.
use Rattle.std.specs.Prelude.{◌≡◌, ℕ, suc, ◌≤◌, List, [], ◌++◌, decimal, codes, Some}
use Rattle.bz_model.specs.Spec.{Spec, body_of}
use Rattle.rank_tables.specs.RankOrder.{IsCount}
use Rattle.call_stages.specs.Lines.{feed, end_done_line, lines_below}
use Rattle.call_stages.specs.Outcomes.{Outcome, Says}
use Rattle.call_stages.specs.Stages.{Files, Specified}
use Rattle.call_stages.specs.declared.status.Status.{Status}
use Rattle.rank_commands.specs.RankStages.{Rankable, Counted}

-- The line of a size: how many objects of the size there are.
abbrev pub size_line : (count : ℕ → ℕ) → (size : ℕ) → List ℕ
size_line count n = codes "size " ++ (decimal n ++ (codes " " ++ (decimal (count n) ++ feed)))

-- The lines of the sizes from 0 to the greatest, and the last line.
abbrev pub counts_text : (count : ℕ → ℕ) → (most : ℕ) → List ℕ
counts_text count most = lines_below (size_line count) (suc most) ++ end_done_line

-- For each size up to the greatest, the first class has as many distinct objects.
pub record AreCountsTo (s : Spec) (most : ℕ) (count : ℕ → ℕ) : Type 0 where
  pub body : ℕ
  pub is_body : body_of s 0 ≡ Some body
  pub counts : (n : ℕ) → n ≤ most → IsCount s body n (count n)

-- The counts of the first class are printed.
pub data CountsPrinted (s : Spec) (most : ℕ) (status : Status) (text : List ℕ) (ticks : ℕ) : Type 0
  where
    printed : (count : ℕ → ℕ) → AreCountsTo s most count
        → Says Status.Done (counts_text count most) 0 status text ticks
        → CountsPrinted s most status text ticks
    no_memory : Says Status.OutOfMemory [] 0 status text ticks
        → CountsPrinted s most status text ticks

-- What comes of `count FILE N` once the specification is judged.
abbrev pub CountedTo : (most : ℕ) → Spec → Outcome
CountedTo most s = Rankable s (Counted s most (CountsPrinted s most))

-- `count FILE N`: a specification is read and judged, its objects are counted for the sizes up to
-- N, and the counts of its first class are printed.
abbrev pub CarriesCount : Files → (file : List ℕ) → (most : ℕ) → Outcome
CarriesCount f file most = Specified f file (CountedTo most)
