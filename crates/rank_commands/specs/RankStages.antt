-- The stages of the commands that count and rank objects. Each has what comes next as a parameter.
use Rattle.std.specs.Prelude.{◌≡◌, ℕ, ◌<◌, ◌≤◌, List, [], ◌++◌, decimal, codes}
use Rattle.bz_model.specs.Spec.{Spec, Mode}
use Rattle.object_store.specs.declared.token.Token.{Token}
use Rattle.object_store.specs.Tokens.{size_of}
use Rattle.rank_tables.specs.Refusals.{IsFirstNotPlain, HasPlainRanges, IsTooMany, HasSmallCounts}
use Rattle.call_stages.specs.Lines.{feed}
use Rattle.call_stages.specs.Outcomes.{Outcome, Says}
use Rattle.call_stages.specs.declared.status.Status.{Status}

-- The specification is labelled.
abbrev pub labelled_line : List ℕ
labelled_line = codes "refused rank labelled" ++ feed

-- The first node whose range isn't plain.
abbrev pub range_line : (node : ℕ) → List ℕ
range_line e = codes "refused rank range node " ++ (decimal e ++ feed)

-- The node has too many objects of this size.
abbrev pub too_many_line : (node size : ℕ) → List ℕ
too_many_line e n =
    codes "refused rank too many node " ++ (decimal e ++ (codes " size " ++ (decimal n ++ feed)))

-- The object has this size, which is too great.
abbrev pub too_large_line : (size : ℕ) → List ℕ
too_large_line n = codes "refused object too large " ++ (decimal n ++ feed)

-- A specification that is labelled, or has a range that isn't plain, is refused. Objects of any
-- other can be ranked.
pub data Rankable (s : Spec) (next : Outcome) (status : Status) (text : List ℕ) (ticks : ℕ) : Type 0
  where
    labelled : s.mode ≡ Mode.Labelled → Says Status.RankRefused labelled_line 0 status text ticks
        → Rankable s next status text ticks
    ranged : (e : ℕ) → s.mode ≡ Mode.Unlabelled → IsFirstNotPlain s e
        → Says Status.RankRefused (range_line e) 0 status text ticks
        → Rankable s next status text ticks
    no_memory : Says Status.OutOfMemory [] 0 status text ticks → Rankable s next status text ticks
    plain : s.mode ≡ Mode.Unlabelled → HasPlainRanges s → next status text ticks
        → Rankable s next status text ticks

-- The objects of all nodes are counted for the sizes up to the greatest: a count passes 2^128 - 1,
-- or none does.
pub data Counted (s : Spec) (most : ℕ) (next : Outcome) (status : Status) (text : List ℕ)
    (ticks : ℕ) : Type 0 where
  too_many : (e n : ℕ) → IsTooMany s most e n
      → Says Status.RankRefused (too_many_line e n) 0 status text ticks
      → Counted s most next status text ticks
  no_memory : Says Status.OutOfMemory [] 0 status text ticks → Counted s most next status text ticks
  counted : HasSmallCounts s most → next status text ticks → Counted s most next status text ticks

-- The size of an object is judged: it is above 500, or it isn't.
pub data SizeJudged (tokens : List Token) (next : Outcome) (status : Status) (text : List ℕ)
    (ticks : ℕ) : Type 0 where
  too_large : 500 < size_of tokens
      → Says Status.ObjectRefused (too_large_line (size_of tokens)) 0 status text ticks
      → SizeJudged tokens next status text ticks
  no_memory : Says Status.OutOfMemory [] 0 status text ticks
      → SizeJudged tokens next status text ticks
  fits : size_of tokens ≤ 500 → next status text ticks → SizeJudged tokens next status text ticks
