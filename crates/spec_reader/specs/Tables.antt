-- From definitions to tables: the numbers of nodes and classes.
use Rattle.std.specs.Prelude.{ℕ, suc, ◌-◌, if◌then◌else◌, List, [], ◌∷◌, ◌++◌, length, map, None}
use Rattle.bz_model.specs.Spec.{Spec, Mode, Node, Range}
use Rattle.spec_reader.specs.declared.tokens.Counting.{Counting}
use Rattle.spec_reader.specs.Tokens.{is_same}
use Rattle.spec_reader.specs.Grammar.{Term, Terms, none, more, empty, atom, class, union, product}
use Rattle.spec_reader.specs.Grammar.{counted, listed_terms, Definition}

-- The number of a class is the place of its name among the names; where the name isn't there, it is
-- their number.
abbrev pub class_number : List (List ℕ) → List ℕ → ℕ
class_number [] w = 0
class_number (n ∷ ns) w = if is_same n w then 0 else suc (class_number ns w)

-- A node with its range.
pub record Row : Type 0 where
  pub node : Node
  pub range : Range

-- A node that isn't counted has low 0 and no high.
abbrev pub uncounted : Node → Row
uncounted n = record { node = n; range = record { low = 0; high = None } }

-- The node that counts a part.
abbrev pub counting_node : Counting → ℕ → Node
counting_node Counting.Seq part = Node.Seq part
counting_node Counting.Set part = Node.Set part
counting_node Counting.Cyc part = Node.Cyc part

-- The number of the last node.
abbrev pub last_number : List Row → ℕ
last_number rows = length rows - 1

-- The nodes before, and behind them those of a term: each node after all its parts, parts from left
-- to right. A node's number is its place.
abbrev mutual
  pub with_term : List (List ℕ) → List Row → Term → List Row
  with_term names rows (empty w) = rows ++ uncounted (Node.Empty w) ∷ []
  with_term names rows (atom w) = rows ++ uncounted (Node.Atom w) ∷ []
  with_term names rows (class w) = rows ++ uncounted (Node.Class (class_number names w)) ∷ []
  with_term names rows (union ts) = with_terms names rows ts
      ++ uncounted (Node.Union (numbers names rows ts)) ∷ []
  with_term names rows (product ts) = with_terms names rows ts
      ++ uncounted (Node.Product (numbers names rows ts)) ∷ []
  with_term names rows (counted c r t) = with_term names rows t
      ++ record { node = counting_node c (last_number (with_term names rows t)); range = r } ∷ []

  -- The nodes before, and behind them those of terms.
  pub with_terms : List (List ℕ) → List Row → Terms → List Row
  with_terms names rows none = rows
  with_terms names rows (more t ts) = with_terms names (with_term names rows t) ts

  -- The numbers of terms, each being that of its last node.
  pub numbers : List (List ℕ) → List Row → Terms → List ℕ
  numbers names rows none = []
  numbers names rows (more t ts) = last_number (with_term names rows t)
      ∷ numbers names (with_term names rows t) ts

-- The names that are defined, in order.
abbrev pub names_of : List Definition → List (List ℕ)
names_of ds = map (λ d. d.name) ds

-- What the names stand for.
abbrev pub bodies_of : List Definition → Terms
bodies_of ds = listed_terms (map (λ d. d.body) ds)

-- The tables of definitions: class after class in the order of the definitions, the body of a class
-- being its last node.
abbrev pub tables : Mode → List Definition → Spec
tables m ds = record {
  mode = m;
  names = names_of ds;
  bodies = numbers (names_of ds) [] (bodies_of ds);
  nodes = map (λ r. r.node) (with_terms (names_of ds) [] (bodies_of ds));
  ranges = map (λ r. r.range) (with_terms (names_of ds) [] (bodies_of ds));
}
