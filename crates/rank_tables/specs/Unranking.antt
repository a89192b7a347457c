-- An object from its number: how a number comes apart, which tasks wait, and what fulfils them.
use Rattle.std.specs.Prelude.{◌≡◌, ℕ, ◌+◌, ◌-◌, ◌*◌, ◌<◌, ◌≤◌, List, [], ◌∷◌, ◌++◌, map, length}
use Rattle.std.specs.Prelude.{replicate, take, Some, slice_get, sum_by}
use Rattle.std.specs.List.{AllByRecursion}
use Rattle.bz_model.specs.Spec.{Spec, Node, node_at}
use Rattle.bz_model.specs.Object.{Object, Objects}
use Rattle.bz_model.specs.Measures.{size}
use Rattle.object_store.specs.Tokens.{tokens_of}
use Rattle.object_store.specs.declared.token.Token.{Token}
use Rattle.rank_tables.specs.Places.{IsPlace, IsTuplePlace, IsListPlace}
use Rattle.rank_tables.specs.Filling.{HasTails}
use Rattle.rank_tables.specs.Grids.{Cells, number_at}
use Rattle.rank_tables.specs.TableRule.{sum_below, rule, entries}
use Rattle.rank_tables.specs.Visits.{Told, TellPlaces, AreTasks}
use Rattle.rank_tables.specs.declared.splits.Split.{Split}
use Rattle.rank_tables.specs.declared.splits.Found.{Found}
use Rattle.rank_tables.specs.declared.tasks.Task.{Task}

-- Both grids have a row for each node, the numbers obey the table rule, the part of a sequence has
-- none at size 0, and the tails are those of the products.
pub record AreCountedGrids (s : Spec) (counts tails : Cells) : Type 0 where
  pub each_node : counts.nodes ≡ length s.nodes
  pub tail_nodes : tails.nodes ≡ counts.nodes
  pub tail_sizes : tails.sizes ≡ counts.sizes
  pub few : counts.sizes ≤ 501
  pub rows : (e n : ℕ) (node : Node) → n < counts.sizes → node_at s e ≡ Some node
      → number_at counts e n ≡ rule (entries s (number_at counts)) (number_at counts) e node n
  pub no_zero : (e part : ℕ) → node_at s e ≡ Some (Node.Seq part) → number_at counts part 0 ≡ 0
  pub each_tail : (n : ℕ) → n < counts.sizes → HasTails s counts tails n

-- The number lies in the term of this first size: so many rests for each first object before, and
-- this rest.
pub record IsSplit (f g : ℕ → ℕ) (n r : ℕ) (split : Split) : Type 0 where
  pub within : split.first ≤ n
  pub small : split.place < f split.first
  pub small_rest : split.rest < g (n - split.first)
  pub is : r ≡ sum_below split.first (λ j. f j * g (n - j))
      + (split.place * g (n - split.first) + split.rest)

-- The number lies in the part at this option, so far in.
pub record IsFound (f : ℕ → ℕ) (parts : List ℕ) (r : ℕ) (found : Found) : Type 0 where
  pub part : ℕ
  pub is_part : slice_get parts found.option ≡ Some part
  pub small : found.number < f part
  pub is : r ≡ sum_by f (take found.option parts) + found.number

-- What a task tells of its object: the size and the place.
abbrev pub told_of : Task → Told
told_of task = record { size = task.size; place = task.number }

abbrev pub node_of_task : Task → ℕ
node_of_task task = task.node.0

-- The tasks are for these parts, and whatever objects fulfil them make up a tuple with this place.
pub record AreTupleTasks (s : Spec) (t : ℕ → ℕ → ℕ) (parts : List ℕ) (n r : ℕ) (tasks : List Task)
    : Type 0 where
  pub nodes : map node_of_task tasks ≡ parts
  pub fit : AreTasks t parts n (map told_of tasks)
  pub placed : (os : Objects) → TellPlaces s t parts os (map told_of tasks)
      → IsTuplePlace s t parts os r

-- The tasks are for the part of a sequence, and whatever objects fulfil them make up a list with
-- this place.
pub record AreListTasks (s : Spec) (t : ℕ → ℕ → ℕ) (e part n r : ℕ) (tasks : List Task) : Type 0
  where
    pub nodes : map node_of_task tasks ≡ replicate (length tasks) part
    pub fit : AreTasks t (replicate (length tasks) part) n (map told_of tasks)
    pub placed : (os : Objects)
        → TellPlaces s t (replicate (length tasks) part) os (map told_of tasks)
        → IsListPlace s t e part os r

-- The tokens are those of an object of the task's node, with its size and its place.
pub record Fulfils (s : Spec) (t : ℕ → ℕ → ℕ) (task : Task) (tokens : List Token) : Type 0 where
  pub object : Object
  pub place : IsPlace s t task.node.0 object task.number
  pub sized : size object ≡ task.size
  pub spelled : tokens_of object ≡ tokens

-- The tokens are those of one object for each task, one object after the other.
pub data FulfilEach (s : Spec) (t : ℕ → ℕ → ℕ) : List Task → List Token → Type 0 where
  done : FulfilEach s t [] []
  next : {task : Task} {tasks : List Task} {tokens : List Token} (first rest : List Token)
      → tokens ≡ first ++ rest → Fulfils s t task first → FulfilEach s t tasks rest
      → FulfilEach s t (task ∷ tasks) tokens

-- A task can be fulfilled: its number is below that of its node at its size.
pub record IsTask (nodes sizes : ℕ) (t : ℕ → ℕ → ℕ) (task : Task) : Type 0 where
  pub node : task.node.0 < nodes
  pub fits : task.size < sizes
  pub small : task.number < t task.node.0 task.size

-- A task was replaced by others and some tokens: whatever fulfils the others makes up, behind the
-- tokens, what fulfils the task.
pub record IsReplaced (s : Spec) (sizes : ℕ) (t : ℕ → ℕ
    → ℕ) (task : Task) (before after : List Task) (old new : List Token) : Type 0 where
  pub tasks : List Task
  pub tokens : List Token
  pub put : after ≡ tasks ++ before
  pub written : new ≡ old ++ tokens
  pub can : AllByRecursion (IsTask (length s.nodes) sizes t) tasks
  pub made : (ts : List Token) → FulfilEach s t tasks ts → Fulfils s t task (tokens ++ ts)
