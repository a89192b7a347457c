-- When a chooser decides ideally.
use Rattle.std.specs.Prelude.{◌≡◌, ℕ, ◌<◌, ◌≤◌, Bool, true, false, length, List, Option, Some, None}
use Rattle.bz_model.specs.declared.cell.Cell.{Cell}
use Rattle.bz_model.specs.Fraction.{Fraction}
use Rattle.bz_model.specs.declared.cell.Bounds.{Bounds}
use Rattle.bz_model.specs.Spec.{Spec, Node, node_at}
use Rattle.bz_model.specs.Object.{Objects, Object}
use Rattle.bz_model.specs.Measures.{HasZero}
use Rattle.bz_model.specs.Ideal.{IsIdealOption}
use Rattle.bz_model.specs.Making.{IsCounted}
use Rattle.bz_model.specs.Cell.{IsCell, IsInCell}
use Rattle.choice_draw.specs.Decision.{Choice, union_decision}
use Rattle.count_draw.specs.Decision.{count_decision}
use Rattle.shape_sampler.specs.Visit.{Chooser}

-- A chooser decides ideally at x where an option that a cell decides is the ideal option of every
-- number of the cell; where a union's option is one of its parts, and Over isn't decided there;
-- where a number of parts is within the room; where Over is decided only if no option up to the
-- room is ideal for any number of the cell; where Over isn't decided for parts that take no room;
-- and where it tells rightly which parts of such nodes have an object of size 0.
pub record DecidesIdeally (c : Chooser) (x : Fraction) : Type 0 where
  pub takes : (e room i : ℕ) (cell : Cell) → IsCell cell.k cell.b
      → c.decide e room cell ≡ Some (Choice.Take i) → (u : Fraction) → IsInCell cell.k cell.b u
      → IsIdealOption c.spec x u e i
  pub part : (e room i : ℕ) (cell : Cell) (parts : List ℕ)
      → node_at c.spec e ≡ Some (Node.Union parts) → c.decide e room cell ≡ Some (Choice.Take i)
      → i < length parts
  pub no_over : (e room : ℕ) (cell : Cell) (parts : List ℕ)
      → node_at c.spec e ≡ Some (Node.Union parts) → ¬ (c.decide e room cell ≡ Some Choice.Over)
  pub within : (e room i : ℕ) (cell : Cell) → c.decide e room cell ≡ Some (Choice.Take i)
      → (part : ℕ) (node : Node) (form : Objects → Object) → node_at c.spec e ≡ Some node
      → IsCounted node part form → i ≤ room
  pub over : (e room : ℕ) (cell : Cell) → IsCell cell.k cell.b
      → c.decide e room cell ≡ Some Choice.Over → (u : Fraction) → IsInCell cell.k cell.b u
      → (i : ℕ) → i ≤ room → ¬ (IsIdealOption c.spec x u e i)
  pub no_over_free : (e part : ℕ) (cell : Cell) (node : Node) (form : Objects → Object)
      → node_at c.spec e ≡ Some node → IsCounted node part form → c.is_free part ≡ true
      → ¬ (c.decide e 64 cell ≡ Some Choice.Over)
  pub free : (e part : ℕ) (node : Node) (form : Objects → Object) → node_at c.spec e ≡ Some node
      → IsCounted node part form → c.is_free part ≡ true → HasZero c.spec part
  pub taking : (e part : ℕ) (node : Node) (form : Objects → Object) → node_at c.spec e ≡ Some node
      → IsCounted node part form → c.is_free part ≡ false → ¬ (HasZero c.spec part)

-- What a cell decides at a node by a table of bounds, in units of 2^-f: an option of a union, or a
-- number of parts of a sequence, set or cycle within the room; nothing at another node.
abbrev pub decision_by : Spec → (f : ℕ) → (table : (level node : ℕ) → Bounds) → (e room : ℕ)
    → Option Node → Cell → Option Choice
decision_by s f table e room (Some (Node.Union parts)) = union_decision s table e
decision_by s f table e room (Some (Node.Seq part)) = count_decision s f table e room
decision_by s f table e room (Some (Node.Set part)) = count_decision s f table e room
decision_by s f table e room (Some (Node.Cyc part)) = count_decision s f table e room
decision_by s f table e room _ = λ cell. None

-- The chooser of a specification by a table of bounds, in units of 2^-f, that is told which nodes
-- have an object of size 0.
abbrev pub chooser_of : Spec → (f : ℕ) → (table : (level node : ℕ) → Bounds) → (is_free : (node : ℕ)
    → Bool) → Chooser
chooser_of s f table is_free =
    record {
      spec = s;
      decide = λ e room. decision_by s f table e room (node_at s e);
      is_free =
          is_free;
    }
