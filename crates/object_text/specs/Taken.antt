-- What was read of a text so far: tokens and labels, whether the parts of sets and cycles stand in
-- order, and the lists that are open.
use Rattle.std.specs.Prelude.{ℕ, nat_le, nat_eq, Bool, true, ◌&&◌, List, [], ◌∷◌, ◌++◌, take, drop}
use Rattle.std.specs.Prelude.{Option, Some, None}
use Rattle.bz_model.specs.Object.{Object, Objects, none, more}
use Rattle.bz_model.specs.Object.Object.{Unit_, Dot, Pick, Tuple, SeqOf, SetOf, CycOf}
use Rattle.bz_model.specs.Measures.{size}
use Rattle.bz_model.specs.ObjectText.{lesser_label, least_label}
use Rattle.object_store.specs.declared.token.Token.{Token}
use Rattle.object_store.specs.declared.token.Token.TheVariants as token
use Rattle.object_store.specs.Tokens.{tokens_of}
use Rattle.object_text.specs.declared.parsed.Kind.{Kind}
use Rattle.object_text.specs.declared.parsed.Kind.TheVariants.{Sequence, Set, Cycle}

-- The parts of a list stand in order as far as they were read; the mark is the least label of the
-- last part of a set, and that of the first part of a cycle. A part with this least label may come
-- next.
abbrev pub follows_mark : Kind → Option ℕ → ℕ → Bool
follows_mark Set (Some mark) least = nat_le mark least
follows_mark Cycle (Some mark) least = nat_eq (lesser_label mark least) mark
follows_mark kind mark least = true

-- The mark behind a part with this least label.
abbrev pub next_mark : Kind → Option ℕ → ℕ → Option ℕ
next_mark Cycle (Some mark) least = Some mark
next_mark kind mark least = Some least

-- Whether an object with its labels stands in order: each set's parts in the order of their least
-- labels, and each cycle's part with the least label first.
abbrev mutual
  pub in_order : Object → List ℕ → Bool
  in_order Unit_ labels = true
  in_order Dot labels = true
  in_order (Pick i o) labels = in_order o labels
  in_order (Tuple os) labels = parts_in_order Sequence None os labels
  in_order (SeqOf os) labels = parts_in_order Sequence None os labels
  in_order (SetOf os) labels = parts_in_order Set None os labels
  in_order (CycOf os) labels = parts_in_order Cycle None os labels

  -- Whether further parts of a list stand in order, behind those that gave the mark.
  pub parts_in_order : Kind → Option ℕ → Objects → List ℕ → Bool
  parts_in_order kind mark none labels = true
  parts_in_order kind mark (more o os) labels =
      in_order o (take (size o) labels) && (follows_mark kind mark
      (least_label (take (size o) labels)) &&
      parts_in_order kind (next_mark kind mark (least_label (take (size o) labels))) os
      (drop (size o) labels))

-- A list that is open: the tokens before its number of parts, the least label of the whole parts
-- and of what stands before the list in the part around, and the mark of its parts.
pub record OpenList : Type 0 where
  pub kind : Kind
  pub tokens : List Token
  pub least : ℕ
  pub mark : Option ℕ

-- What was read: the tokens since the innermost open list began, all labels, the least label of the
-- part that is read, whether what was read stands in order, and the open lists, the innermost
-- first.
pub record Taken : Type 0 where
  pub tokens : List Token
  pub labels : List ℕ
  pub least : ℕ
  pub ordered : Bool
  pub lists : List OpenList

-- Nothing was read.
abbrev pub nothing : Taken
nothing = record { tokens = []; labels = []; least = 0; ordered = true; lists = [] }

-- One token more.
abbrev pub with_token : Taken → Token → Taken
with_token t k = record {
  tokens = t.tokens ++ k ∷ [];
  labels = t.labels;
  least = t.least;
  ordered =
      t.ordered;
  lists = t.lists;
}

-- One label more.
abbrev pub with_label : Taken → ℕ → Taken
with_label t label = record {
  tokens = t.tokens;
  labels = t.labels ++ label ∷ [];
  least =
      lesser_label t.least label;
  ordered = t.ordered;
  lists = t.lists;
}

-- An object with its labels more.
abbrev pub with_object : Taken → Object → List ℕ → Taken
with_object t o labels = record {
  tokens = t.tokens ++ tokens_of o;
  labels =
      t.labels ++ labels;
  least = lesser_label t.least (least_label labels);
  ordered =
      t.ordered && in_order o labels;
  lists = t.lists;
}

-- A list begins.
abbrev pub opened : Kind → Taken → Taken
opened kind t = record {
  tokens = [];
  labels = t.labels;
  least = 0;
  ordered = t.ordered;
  lists =
      record { kind = kind; tokens = t.tokens; least = t.least; mark = None } ∷ t.lists;
}

-- A part of the innermost list ends.
abbrev pub parted_in : Taken → List OpenList → Taken
parted_in t [] = t
parted_in t (f ∷ lists) = record {
  tokens = t.tokens;
  labels = t.labels;
  least = 0;
  ordered =
      t.ordered && follows_mark f.kind f.mark t.least;
  lists =
      record {
        kind = f.kind;
        tokens = f.tokens;
        least = lesser_label f.least t.least;
        mark =
            next_mark f.kind f.mark t.least;
      } ∷ lists;
}

abbrev pub parted : Taken → Taken
parted t = parted_in t t.lists

-- The innermost list ends with so many parts.
abbrev pub closed_in : ℕ → Taken → List OpenList → Taken
closed_in count t [] = t
closed_in count t (f ∷ lists) = record {
  tokens = f.tokens ++ token.Count count ∷ t.tokens;
  labels =
      t.labels;
  least = f.least;
  ordered = t.ordered;
  lists = lists;
}

abbrev pub closed : ℕ → Taken → Taken
closed count t = closed_in count t t.lists
