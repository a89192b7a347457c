-- The visits of an object in preorder, and what they tell when they are taken from the last to the
-- first.
use Rattle.std.specs.Prelude.{◌≡◌, ℕ, ◌+◌, ◌-◌, ◌*◌, ◌<◌, ◌≤◌, List, [], ◌∷◌, ◌++◌, Option, Some}
use Rattle.std.specs.Prelude.{length, take, drop, slice_get, sum_by, replicate}
use Rattle.bz_model.specs.Spec.{Spec, Node, node_at, body_of}
use Rattle.bz_model.specs.Object.{Object, Objects, none, more, count}
use Rattle.bz_model.specs.Measures.{size}
use Rattle.object_store.specs.Waiting.{joined}
use Rattle.rank_tables.specs.TableRule.{sum_below, tuples}
use Rattle.rank_tables.specs.Places.{IsPlace}

-- A visit is a leaf with its atoms, a union's node with the option, a product's node, or a
-- sequence's node with the number of parts. References aren't visited.
pub data Visit : Type 0 where
  Leaf : (atoms : ℕ) → Visit
  Picked : (union option : ℕ) → Visit
  Tupled : (product : ℕ) → Visit
  Listed : (sequence parts : ℕ) → Visit

-- These are the visits of one object of each node, one object after the other.
pub data AreVisits (s : Spec) : List ℕ → Objects → List Visit → Type 0 where
  done : AreVisits s [] none []
  empty : {e : ℕ} {es : List ℕ} {os : Objects} {vs : List Visit} (word : List ℕ)
      → node_at s e ≡ Some (Node.Empty word) → AreVisits s es os vs
      → AreVisits s (e ∷ es) (more Object.Unit_ os) (Leaf 0 ∷ vs)
  atom : {e : ℕ} {es : List ℕ} {os : Objects} {vs : List Visit} (word : List ℕ)
      → node_at s e ≡ Some (Node.Atom word) → AreVisits s es os vs
      → AreVisits s (e ∷ es) (more Object.Dot os) (Leaf 1 ∷ vs)
  class : {e : ℕ} {es : List ℕ} {o : Object} {os : Objects} {vs : List Visit} (c body : ℕ)
      → node_at s e ≡ Some (Node.Class c) → body_of s c ≡ Some body
      → AreVisits s (body ∷ es) (more o os) vs → AreVisits s (e ∷ es) (more o os) vs
  union : {e : ℕ} {es : List ℕ} {o : Object} {os : Objects} {vs : List Visit} (parts : List ℕ)
      (i part : ℕ) → node_at s e ≡ Some (Node.Union parts) → slice_get parts i ≡ Some part
      → AreVisits s (part ∷ es) (more o os) vs
      → AreVisits s (e ∷ es) (more (Object.Pick i o) os) (Picked e i ∷ vs)
  product : {e : ℕ} {es : List ℕ} {os all : Objects} {vs : List Visit} (parts whole : List ℕ)
      (ps : Objects) → node_at s e ≡ Some (Node.Product parts) → length parts ≡ count ps
      → whole ≡ parts ++ es → all ≡ joined ps os → AreVisits s whole all vs
      → AreVisits s (e ∷ es) (more (Object.Tuple ps) os) (Tupled e ∷ vs)
  sequence : {e k : ℕ} {es : List ℕ} {os all : Objects} {vs : List Visit} (part : ℕ)
      (whole : List ℕ) (ps : Objects) → node_at s e ≡ Some (Node.Seq part) → k ≡ count ps
      → whole ≡ replicate k part ++ es → all ≡ joined ps os → AreVisits s whole all vs
      → AreVisits s (e ∷ es) (more (Object.SeqOf ps) os) (Listed e k ∷ vs)

-- What a part tells: its size and its place.
pub record Told : Type 0 where
  pub size : ℕ
  pub place : ℕ

-- The sizes of parts, added.
abbrev pub whole_size : List Told → ℕ
whole_size [] = 0
whole_size (p ∷ ps) = p.size + whole_size ps

-- The place of a list of one object of each part, from what its objects tell.
abbrev pub tuple_place : (ℕ → ℕ → ℕ) → List ℕ → List Told → ℕ
tuple_place t (e ∷ es) (p ∷ ps) =
    sum_below p.size (λ j. t e j * tuples t es (p.size + whole_size ps - j)) + p.place
    * tuples t es (whole_size ps) + tuple_place t es ps
tuple_place t _ _ = 0

-- The place of a list of objects of one part of the sequence e.
abbrev pub list_place : (ℕ → ℕ → ℕ) → (e part : ℕ) → List Told → ℕ
list_place t e part [] = 0
list_place t e part (p ∷ ps) = sum_below p.size (λ j. t part j * t e (p.size + whole_size ps - j))
    + p.place * t e (whole_size ps) + list_place t e part ps

-- The parts of a union, of a product and of a sequence.
abbrev pub union_summands : Option Node → List ℕ
union_summands (Some (Node.Union parts)) = parts
union_summands _ = []

abbrev pub product_parts : Option Node → List ℕ
product_parts (Some (Node.Product parts)) = parts
product_parts _ = []

abbrev pub sequence_part : Option Node → ℕ
sequence_part (Some (Node.Seq part)) = part
sequence_part _ = 0

-- One visit after those behind it: a leaf is put in front, a pick changes the first, a tuple and a
-- list take their parts and are put in front.
abbrev pub with_visit : Spec → (ℕ → ℕ → ℕ) → Visit → List Told → List Told
with_visit s t (Leaf atoms) told = record { size = atoms; place = 0 } ∷ told
with_visit s t (Picked e i) [] = []
with_visit s t (Picked e i) (p ∷ told) =
    record {
      size = p.size;
      place =
          sum_by (λ part. t part p.size) (take i (union_summands (node_at s e))) + p.place;
    } ∷ told
with_visit s t (Tupled e) told =
    record {
      size = whole_size (take (length (product_parts (node_at s e))) told);
      place =
          tuple_place t (product_parts (node_at s e)) (take
          (length (product_parts (node_at s e))) told);
    }
    ∷ drop (length (product_parts (node_at s e))) told
with_visit s t (Listed e k) told =
    record {
      size = whole_size (take k told);
      place =
          list_place t e (sequence_part (node_at s e)) (take k told);
    } ∷ drop k told

-- What is left when all visits were taken, the last one first.
abbrev pub all_visited : Spec → (ℕ → ℕ → ℕ) → List Visit → List Told
all_visited s t [] = []
all_visited s t (v ∷ vs) = with_visit s t v (all_visited s t vs)

-- For each object its size and its place are told.
abbrev pub TellPlaces : Spec → (ℕ → ℕ → ℕ) → List ℕ → Objects → List Told → Type 0
TellPlaces s t [] none [] = Unit {0}
TellPlaces s t (e ∷ es) (more o os) (p ∷ ps) = (p.size ≡ size o) × IsPlace s t e o p.place
    × TellPlaces s t es os ps
TellPlaces s t _ _ _ = ⊥

-- Sizes and places of parts that can be given to objects: each place is below the number of its
-- part at its size, and the sizes make up the whole.
abbrev pub AreTasks : (ℕ → ℕ → ℕ) → List ℕ → ℕ → List Told → Type 0
AreTasks t [] n [] = n ≡ 0
AreTasks t (e ∷ es) n (p ∷ ps) = (p.size ≤ n) × (p.place < t e p.size)
    × AreTasks t es (n - p.size) ps
AreTasks t _ n _ = ⊥
