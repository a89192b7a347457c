-- What a table tells, and why none is made.
use Rattle.std.specs.Prelude.{◌≡◌, ◌≢◌, ℕ, suc, ◌<◌, ◌≤◌, length, Some, None}
use Rattle.bz_model.specs.Spec.{Spec, Mode, body_of}
use Rattle.rank_tables.specs.RankOrder.{IsCount}
use Rattle.rank_tables.specs.Filling.{HasTails}
use Rattle.rank_tables.specs.Grids.{Cells, cell, number_at}
use Rattle.rank_tables.specs.Refusals.{IsFirstNotPlain, HasPlainRanges, IsTooMany}
use Rattle.rank_tables.specs.TableRule.{IsTable}
use Rattle.rank_tables.specs.declared.rank_tables.RankFault.{RankFault}
use Rattle.rank_tables.specs.declared.rank_tables.RankFault.TheVariants.{Labelled, Ranged, TooMany}
use Rattle.rank_tables.specs.declared.rank_tables.RankFault.TheVariants.{OutOfMemory}

-- The numbers of all nodes and sizes and, for each part of a product, those of the lists of one
-- object of it and of each part behind it.
pub record Table : Type 0 where
  pub counts : Cells
  pub tails : Cells

-- The number of a node at a size.
abbrev pub count_told : Table → ℕ → ℕ → ℕ
count_told table e n = number_at table.counts e n

-- No number is missing, and there are at most 501 sizes.
pub record AreKnown (g : Cells) : Type 0 where
  pub few : g.sizes ≤ 501
  pub known : (e n : ℕ) → e < g.nodes → n < g.sizes → cell g e n ≢ None

-- The specification is unlabelled and has plain ranges alone, and the table has the counts of all
-- its nodes for the sizes up to the greatest, by the table rule, and the numbers of the tails of
-- its products.
pub record AreCounts (s : Spec) (most : ℕ) (table : Table) : Type 0 where
  pub unlabelled : s.mode ≡ Mode.Unlabelled
  pub plain : HasPlainRanges s
  pub each_node : table.counts.nodes ≡ length s.nodes
  pub each_size : table.counts.sizes ≡ suc most
  pub counts : (e n : ℕ) → e < length s.nodes → n ≤ most → IsCount s e n (count_told table e n)
  pub each_row : IsTable s most (count_told table)
  pub each_tail : (n : ℕ) → n ≤ most → HasTails s table.counts table.tails n

-- Why no table is made: the specification is labelled; else the first node whose range isn't plain;
-- else the first size and node with too many objects.
abbrev pub TellsRankFault : Spec → ℕ → RankFault → Type 0
TellsRankFault s most Labelled = s.mode ≡ Mode.Labelled
TellsRankFault s most (Ranged e) = (s.mode ≡ Mode.Unlabelled) × IsFirstNotPlain s e.0
TellsRankFault s most (TooMany e n) = (s.mode ≡ Mode.Unlabelled) × HasPlainRanges s
    × IsTooMany s most e.0 n
TellsRankFault s most OutOfMemory = Unit {0}

-- The number is below the count of the class's body at the size.
pub record IsNumberOf (s : Spec) (c size number : ℕ) : Type 0 where
  pub body : ℕ
  pub is_body : body_of s c ≡ Some body
  pub count : ℕ
  pub is_count : IsCount s body size count
  pub below : number < count
