-- What the definitions see of the code's types.
use Rattle.std.specs.Prelude.{ℕ, map}
use Rattle.bz_model.specs.Spec as system
use Rattle.bz_model.specs.Spec.{Node}
use Rattle.class_system.specs.declared.expr.Expr.{Expr}
use Rattle.class_system.specs.declared.expr.Expr.TheVariants as expr
use Rattle.class_system.specs.declared.ids.ExprId.{ExprId}
use Rattle.class_system.specs.declared.ranges.Range.{Range}
use Rattle.class_system.specs.declared.draft.Mode.{Mode}
use Rattle.class_system.specs.declared.draft.Mode.TheVariants.{Unlabelled, Labelled}

-- A node's number.
abbrev pub number : ExprId → ℕ
number e = e.0

-- A node with its parts' numbers.
abbrev pub spec_node : Expr → Node
spec_node (expr.Empty w) = Node.Empty w
spec_node (expr.Atom w) = Node.Atom w
spec_node (expr.Class c) = Node.Class c.0
spec_node (expr.Union ps) = Node.Union (map number ps)
spec_node (expr.Product ps) = Node.Product (map number ps)
spec_node (expr.Seq e) = Node.Seq e.0
spec_node (expr.Set e) = Node.Set e.0
spec_node (expr.Cyc e) = Node.Cyc e.0

-- A range.
abbrev pub spec_range : Range → system.Range
spec_range r = record { low = r.low; high = r.high }

-- A mode.
abbrev pub spec_mode : Mode → system.Mode
spec_mode Unlabelled = system.Mode.Unlabelled
spec_mode Labelled = system.Mode.Labelled
