-- The way through bodies of classes to a node that is no class.
use Rattle.std.proofs.Common.{◌≡◌, ℕ, suc, ◌<◌, ◌≤◌, [], ◌∷◌, length, arith, refl, sym, ◌∙◌, subst, zero, Some}
use Rattle.bz_model.specs.Spec.{Spec, Node, node_at, body_of}
use Rattle.bz_model.specs.Object.{none, more}
use Rattle.class_system.specs.Sound.{IsSound}
use Rattle.object_store.specs.Tokens.{tokens_all}
use Rattle.object_store.specs.Walk.{Expands}
use Rattle.object_store.proofs.Descent.{Descent, descent-start, descent-expand, too_long}
use Rattle.class_system.specs.Views.{spec_node}
use Rattle.class_system.specs.declared.expr.Expr.{Expr}
use Rattle.class_system.specs.declared.expr.Expr.TheVariants as expr
use Rattle.class_system.specs.declared.ids.ClassId.{ClassId}
use Rattle.object_text.specs.Expected.{HasObjects, NoClass, SameTexts}
use Rattle.object_text.proofs.ObjectTexts.{class-in, class-out}

-- Each node has the same texts as itself.
pub same-start : (s : Spec) (e : ℕ) → SameTexts s e e
same-start s e = record { to = λ text o l h. h; from = λ text o l h. h }

-- If a node has the same texts as the node of a class, it has the same texts as the class's body.
pub same-body : (s : Spec) (e f c body : ℕ) → SameTexts s e f → node_at s f ≡ Some (Node.Class c) → body_of s c ≡ Some body → SameTexts s e body
same-body s e f c body h at b = record {
  to = λ text o l k. class-out s f c body at b text o l (h.to text o l k);
  from = λ text o l k. h.from text o l (class-in s f c body at b text o l k);
}

-- A way down begins at any node of the specification, with as many nodes left to pass as there are
-- nodes.
pub way-start : (s : Spec) (e : ℕ) → e < length s.nodes → Descent s (e ∷ []) (e ∷ []) (length s.nodes)
way-start s e below = descent-start s (e ∷ []) (below, tt)

-- Where each node has an object, a way down from one node to another has at least one node left to
-- pass.
pub way-goes : (s : Spec) → HasObjects s → (start e left : ℕ) → start < length s.nodes → Descent s (start ∷ []) (e ∷ []) left → 1 ≤ left
way-goes s have start e zero below d =
    let o = have.object_of start below in
    absurd (too_long s (start ∷ []) e [] d (tokens_all (more o.0 none)) (record { objects = more o.0 none; belong = (o.1, tt); spelled = refl }))
way-goes s have start e (suc left) below d = omega arith

-- For a sound specification, a way down that leads to a class's node leads on to the class's body,
-- with one node less left to pass.
pub way-on : (s : Spec) → IsSound s → (start e c body left : ℕ) → node_at s e ≡ Some (Node.Class c) → body_of s c ≡ Some body → 1 ≤ left → Descent s (start ∷ []) (e ∷ []) left → (less : ℕ) → left ≡ suc less → Descent s (start ∷ []) (body ∷ []) less
way-on s sound start e c body left at b some d less eq = descent-expand s sound (start ∷ []) e less [] (body ∷ []) (Expands.class c body at b refl) (same d)
  where
    same : Descent s (start ∷ []) (e ∷ []) left → Descent s (start ∷ []) (e ∷ []) (suc less)
    same d = subst (λ n. Descent s (start ∷ []) (e ∷ []) n) eq d

-- a node that is seen as a class's is one
pub class-of : (n : Expr) (c : ℕ) → spec_node n ≡ Node.Class c → (x : ClassId) × (n ≡ expr.Class x)
class-of (expr.Class x) c e = (x, refl)
class-of (expr.Empty w) c e = absurd (cc)
class-of (expr.Atom w) c e = absurd (cc)
class-of (expr.Union ps) c e = absurd (cc)
class-of (expr.Product ps) c e = absurd (cc)
class-of (expr.Seq p) c e = absurd (cc)
class-of (expr.Set p) c e = absurd (cc)
class-of (expr.Cyc p) c e = absurd (cc)

-- A node that is shown as an expression other than a class isn't the node of a class.
pub no-class : (s : Spec) (e : ℕ) (n : Expr) → node_at s e ≡ Some (spec_node n) → ((x : ClassId) → n ≡ expr.Class x → ⊥) → NoClass s e
no-class s e n at never = record { no_class = λ c is. let k = class-of n c (some-same (spec_node n) (Node.Class c) (sym at ∙ is)) in never k.0 k.1 }
  where
    some-same : (a b : Node) → Some a ≡ Some b → a ≡ b
    some-same a b e = cc
