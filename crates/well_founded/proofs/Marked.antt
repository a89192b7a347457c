-- Marks widened one node after the other.
use Rattle.std.proofs.Common.{◌≡◌, ℕ, zero, suc, ◌+◌, ◌<◌, ◌≤◌, ◌⊎◌, ◌↔◌, inl, inr, List, [], ◌∷◌, length, map, Bool, true, false, ◌||◌, ◌&&◌, IsTrue, Some, arith, refl, sym, ◌∙◌, subst, ap}
use Rattle.std.specs.Prelude.{replicate}
use Rattle.std.specs.List.{list_any, list_all}
use Rattle.std.proofs.Math.ListN.{set}
use Rattle.std.proofs.lemmas.Bool.{cases_lt}
use Rattle.std.proofs.lemmas.Option.{slice_get_within}
use Rattle.bz_model.specs.Spec.{Spec, Node, node_at}
use Rattle.class_system.specs.Views.{number}
use Rattle.class_system.specs.declared.ids.ExprId.{ExprId}
use Rattle.well_founded.specs.EmptyObjects.{answer_at}
use Rattle.well_founded.specs.Foundedness.{Least}
use Rattle.well_founded.specs.Rounds.{Gets, GetsAt, IsClosed}
use Rattle.well_founded.specs.Marking.{IsMarked, AreMarked, unmarked_count}
use Rattle.well_founded.proofs.Rounds.{some-node, least-round, gets-more, in-closed}
use Rattle.well_founded.proofs.Marks.{any-down, any-up, all-down, all-up}

-- The old marks widened at the nodes below i.
pub record Widened (s : Spec) (A : Type 0) (old new : List Bool) (marked : Bool) (i : ℕ) : Type 0 where
  pub right : (e : ℕ) → IsMarked new e → Least s A e
  pub most : unmarked_count new ≤ unmarked_count old
  pub fewer : marked ≡ true → unmarked_count new < unmarked_count old
  pub closed : marked ≡ false → (e : ℕ) → e < i → GetsAt s A (IsMarked new) e → IsMarked new e

unmarked-set : (m : List Bool) (i : ℕ) → i < length m → answer_at m i ≡ false → unmarked_count (set m i true) < unmarked_count m
unmarked-set [] i h e = absurd (omega arith)
unmarked-set (true ∷ m) zero h e = absurd (cc)
unmarked-set (false ∷ m) zero h e = omega arith
unmarked-set (true ∷ m) (suc i) h e = unmarked-set m i (omega arith) e
unmarked-set (false ∷ m) (suc i) h e = let less = unmarked-set m i (omega arith) e in omega arith

marked-same : (m : List Bool) (i : ℕ) → i < length m → IsMarked (set m i true) i
marked-same [] i h = absurd (omega arith)
marked-same (b ∷ m) zero h = refl
marked-same (b ∷ m) (suc i) h = marked-same m i (omega arith)

marked-before : (m : List Bool) (i e : ℕ) → IsMarked (set m i true) e → (e ≡ i) ⊎ IsMarked m e
marked-before [] i e h = inr h
marked-before (b ∷ m) zero zero h = inl refl
marked-before (b ∷ m) zero (suc e) h = inr h
marked-before (b ∷ m) (suc i) zero h = inr h
marked-before (b ∷ m) (suc i) (suc e) h = elim (marked-before m i e h) [ inl z ↦ inl (ap suc z) | inr k ↦ inr k ]

-- Where the rule gives each marked node, marks left as they are count as widened at the nodes below
-- 0, with none newly marked.
pub widened-start : (s : Spec) (A : Type 0) (old : List Bool) → ((e : ℕ) → IsMarked old e → Least s A e) → Widened s A old old false 0
widened-start s A old f = record { right = f; most = omega arith; fewer = λ z. absurd (cc); closed = λ z e lt g. absurd (omega arith) }

-- The node gets an object, and is marked.
pub widened-set : (s : Spec) (A : Type 0) (old mid new : List Bool) (marked flag : Bool) (i : ℕ) → Widened s A old mid marked i → i < length mid → answer_at mid i ≡ false → GetsAt s A (IsMarked mid) i → new ≡ set mid i true → flag ≡ true → Widened s A old new flag (i + 1)
widened-set s A old mid new marked flag i h within free g is_new is_flag = subst (λ m. Widened s A old m flag (i + 1)) (sym is_new) (record {
  right = λ e k. elim (marked-before mid i e k) [
    | inl z ↦ subst (λ x. Least s A x) (sym z) (least-round s A i g.node g.is_node (gets-more s A (IsMarked mid) (Least s A) h.right i g.node g.gets))
    | inr k ↦ h.right e k
  ];
  most = let less = unmarked-set mid i within free in let most = h.most in omega arith;
  fewer = λ z. let less = unmarked-set mid i within free in let most = h.most in omega arith;
  closed = λ z e lt k. absurd (cc);
})

-- The node is marked already, or gets none.
pub widened-keep : (s : Spec) (A : Type 0) (old mid new : List Bool) (marked flag : Bool) (i : ℕ) → Widened s A old mid marked i → (GetsAt s A (IsMarked mid) i → IsMarked mid i) → new ≡ mid → flag ≡ marked → Widened s A old new flag (i + 1)
widened-keep s A old mid new marked flag i h k is_new is_flag = subst (λ m. Widened s A old m flag (i + 1)) (sym is_new) (record {
  right = h.right;
  most = h.most;
  fewer = λ z. h.fewer (sym is_flag ∙ z);
  closed = λ z e lt g. elim (cases_lt e i) [
    | inl less ↦ h.closed (sym is_flag ∙ z) e less g
    | inr more ↦ (let same : e ≡ i = omega arith in subst (λ x. IsMarked mid x) (sym same) (k (subst (λ x. GetsAt s A (IsMarked mid) x) same g)))
  ];
})

-- A round that marks none is the last.
pub widened-all : (s : Spec) (A : Type 0) (old new : List Bool) (marked : Bool) (i : ℕ) → Widened s A old new marked i → length s.nodes ≤ i → marked ≡ false → IsClosed s A (IsMarked new)
widened-all s A old new marked i h all z = record { round = λ e n q g. let w = slice_get_within s.nodes e n q in h.closed z e (omega arith) (record { node = n; is_node = q; gets = g }) }

-- Marks, one for each node, are exactly those of the rule where the rule gives each marked node and
-- no further round widens them.
pub are-marked : (s : Spec) (A : Type 0) (marks : List Bool) → length marks ≡ length s.nodes → ((e : ℕ) → IsMarked marks e → Least s A e) → IsClosed s A (IsMarked marks) → AreMarked s A marks
are-marked s A marks l f closed = record { one_per_node = l; right = f; all = λ e k. in-closed s A (IsMarked marks) closed k }

pub none-marked : (n e : ℕ) → IsMarked (replicate n false) e → ⊥
none-marked zero e h = absurd (cc)
none-marked (suc n) zero h = absurd (cc)
none-marked (suc n) (suc e) h = none-marked n e h

-- What a node gets is told by its parts' marks.
any-number : (f : ℕ → Bool) (parts : List ExprId) → list_any (λ p. f p.0) parts ≡ list_any f (map number parts)
any-number f [] = refl
any-number f (p ∷ ps) = ap (λ b. f p.0 || b) (any-number f ps)

all-number : (f : ℕ → Bool) (parts : List ExprId) → list_all (λ p. f p.0) parts ≡ list_all f (map number parts)
all-number f [] = refl
all-number f (p ∷ ps) = ap (λ b. f p.0 && b) (all-number f ps)

pub gets-at : (s : Spec) (A : Type 0) (P : ℕ → Type 0) (e : ℕ) (n : Node) → node_at s e ≡ Some n → GetsAt s A P e → Gets s A P e n
gets-at s A P e n q g = subst (λ m. Gets s A P e m) (some-node (sym g.is_node ∙ q)) g.gets

-- For a union, the test that some part is marked says yes exactly where the node gets an object
-- from the marked nodes.
pub gets-union : (s : Spec) (A : Type 0) (marks : List Bool) (e : ℕ) (parts : List ExprId) (b : Bool) → node_at s e ≡ Some (Node.Union (map number parts)) → b ≡ list_any (λ p. answer_at marks p.0) parts → IsTrue b ↔ GetsAt s A (IsMarked marks) e
gets-union s A marks e parts b q z = (down, up)
  where
    down : IsTrue b → GetsAt s A (IsMarked marks) e
    down h = let k = any-down (answer_at marks) (map number parts) (sym (any-number (answer_at marks) parts) ∙ (sym z ∙ h)) in record { node = Node.Union (map number parts); is_node = q; gets = (k.i, k.part, k.is, k.passes) }

    up : GetsAt s A (IsMarked marks) e → IsTrue b
    up g = let k = gets-at s A (IsMarked marks) e (Node.Union (map number parts)) q g in z ∙ (any-number (answer_at marks) parts ∙ any-up (answer_at marks) (map number parts) k.0 k.1 k.2 k.3)

-- For a product, the test that all parts are marked says yes exactly where the node gets an object
-- from the marked nodes.
pub gets-product : (s : Spec) (A : Type 0) (marks : List Bool) (e : ℕ) (parts : List ExprId) (b : Bool) → node_at s e ≡ Some (Node.Product (map number parts)) → b ≡ list_all (λ p. answer_at marks p.0) parts → IsTrue b ↔ GetsAt s A (IsMarked marks) e
gets-product s A marks e parts b q z = (down, up)
  where
    down : IsTrue b → GetsAt s A (IsMarked marks) e
    down h = record { node = Node.Product (map number parts); is_node = q; gets = all-down (answer_at marks) (map number parts) (sym (all-number (answer_at marks) parts) ∙ (sym z ∙ h)) }

    up : GetsAt s A (IsMarked marks) e → IsTrue b
    up g = z ∙ (all-number (answer_at marks) parts ∙ all-up (answer_at marks) (map number parts) (gets-at s A (IsMarked marks) e (Node.Product (map number parts)) q g))
