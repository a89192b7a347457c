-- The parts of a node of the code's table.
use Rattle.std.proofs.Common.{◌≡◌, ℕ, ◌<◌, List, [], ◌∷◌, map, length, get_or, Option, Some, arith, sym, ◌∙◌, ap, subst}
use Rattle.std.proofs.lemmas.Option.{same_Some}
use Rattle.bz_model.specs.Spec.{Spec, Node, node_at}
use Rattle.bz_laws.specs.Sound.{EachPart}
use Rattle.class_system.specs.Sound.{IsSound}
use Rattle.class_system.specs.Views.{spec_node, number}
use Rattle.class_system.specs.declared.expr.Expr.{Expr}
use Rattle.class_system.specs.declared.ids.ExprId.{ExprId}
use Rattle.class_system.proofs.Soundness.{part_in_range}
use Rattle.rank_tables.specs.Capped.{Tells}
use Rattle.rank_tables.specs.Grids.{Cells, cell, AreSuffixes}
use Rattle.rank_tables.specs.TableRule.{tuples, rule}
use Rattle.rank_tables.proofs.LaidOut.{each-part}

-- If node e of the specification is that of an expression x, and x equals y, then node e is that of
-- y.
pub node-is : (s : Spec) (e : ℕ) (x y : Expr) → node_at s e ≡ Some (spec_node x) → x ≡ y → node_at s e ≡ Some (spec_node y)
node-is s e x y at is = at ∙ ap (λ z. Some (spec_node z)) is

-- The parts of a node are nodes.
pub parts-inside : (s : Spec) → IsSound s → (e N : ℕ) (node : Node) → node_at s e ≡ Some node → N ≡ length s.nodes → EachPart (λ p. p < N) node
parts-inside s sound e N node at same = each-part (λ p. p < N) node (λ i p there. let k = part_in_range s sound e p node at (record { place = i; is_there = there }) in omega arith)

-- What is told of a node whose kind is known.
pub tells-kind : (s : Spec) (entry t : ℕ → ℕ → ℕ) (e n : ℕ) (kind : Node) (v : Option ℕ) → node_at s e ≡ Some kind → Tells v (rule entry t e kind n) → (node : Node) → node_at s e ≡ Some node → Tells v (rule entry t e node n)
tells-kind s entry t e n kind v at h node is = subst (λ k. Tells v (rule entry t e k n)) (same_Some kind node (sym at ∙ is)) h

-- Where some parts, at least one, have right tails at size n, the tail of the first tells the
-- number of tuples of all of them.
pub first-tail : (t : ℕ → ℕ → ℕ) (g : Cells) (items : List ExprId) (d : ExprId) (n : ℕ) → 0 < length items → AreSuffixes t g (map number items) n → Tells (cell g (get_or items 0 d).0 n) (tuples t (map number items) n)
first-tail t g [] d n some h = absurd (omega arith)
first-tail t g (p ∷ items) d n some h = h.0
