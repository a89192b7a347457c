-- The ways to references, one node after the other.
use Rattle.std.proofs.Common.{◌≡◌, ℕ, ◌+◌, ◌<◌, ◌≤◌, ◌↔◌, inl, inr, List, [], ◌∷◌, ◌++◌, length, map, Bool, Some, arith, refl, sym, ◌∙◌, subst, ap}
use Rattle.std.proofs.lemmas.Bool.{cases_lt}
use Rattle.std.proofs.lemmas.Option.{slice_get_within}
use Rattle.bz_model.specs.Spec.{Spec, Node, node_at}
use Rattle.class_system.specs.Views.{number}
use Rattle.class_system.specs.declared.ids.ExprId.{ExprId}
use Rattle.well_founded.specs.declared.class_set.ClassSet.{ClassSet}
use Rattle.well_founded.specs.Foundedness.{IsPartOfNode, Under}
use Rattle.well_founded.proofs.Orderly.{IsOrderly}
use Rattle.well_founded.specs.Marking.{AreMarked}
use Rattle.well_founded.specs.Rounds.{PassesToClass, PassesAt}
use Rattle.well_founded.specs.Ways.{IsIn, Points, OnePoints}
use Rattle.well_founded.proofs.Rounds.{some-node, under-round, under-passes}
use Rattle.well_founded.proofs.Refused.{node-there}
use Rattle.well_founded.proofs.Rows.{set-count, points-last, points-earlier}

-- A set for each node below e, of the classes that it is on the way to.
pub record PassedTo (s : Spec) (sets : List ClassSet) (e : ℕ) : Type 0 where
  pub one_each : length sets ≡ e
  pub passed : (f d : ℕ) → f < e → Points sets f d ↔ Under s d f

pub passes-at : (s : Spec) (d : ℕ) (P : ℕ → Type 0) (e : ℕ) (n : Node) → node_at s e ≡ Some n → PassesAt s d P e → PassesToClass s d P e n
passes-at s d P e n q g = subst (λ m. PassesToClass s d P e m) (some-node (sym g.is_node ∙ q)) g.passes

-- A node passes more where its parts do.
pub passes-more : (s : Spec) (d : ℕ) (P Q : ℕ → Type 0) (e : ℕ) (n : Node) → ((part : ℕ) → IsPartOfNode n part → P part → Q part) → PassesToClass s d P e n → PassesToClass s d Q e n
passes-more s d P Q e (Node.Empty w) f h = h
passes-more s d P Q e (Node.Atom w) f h = h
passes-more s d P Q e (Node.Class c) f h = h
passes-more s d P Q e (Node.Union parts) f h = (h.0, h.1, h.2, f h.1 (h.0, h.2) h.3)
passes-more s d P Q e (Node.Product parts) f h = (h.0, h.1, h.2, h.3, f h.1 (h.0, h.2) h.4)
passes-more s d P Q e (Node.Seq p) f h = (h.0, h.1, h.2, f p refl h.3)
passes-more s d P Q e (Node.Set p) f h = (h.0, h.1, h.2, f p refl h.3)
passes-more s d P Q e (Node.Cyc p) f h = (h.0, h.1, h.2, f p refl h.3)

-- What a product passes, by the marks of its parts.
pub passes-product : (s : Spec) (marks : List Bool) (sets : List ClassSet) (e : ℕ) (parts : List ExprId) → AreMarked s ⊥ marks → node_at s e ≡ Some (Node.Product (map number parts)) → (d : ℕ) → OnePoints marks sets (map number parts) d ↔ PassesAt s d (λ part. Points sets part d) e
passes-product s marks sets e parts are q d = (
  λ k. record { node = Node.Product (map number parts); is_node = q; passes = (k.0, k.1, k.2, λ j p g ne. are.right p (k.3 j p g ne), k.4) },
  λ g. let k = passes-at s d (λ part. Points sets part d) e (Node.Product (map number parts)) q g in (k.0, k.1, k.2, λ j p g ne. are.all p (k.3 j p g ne), k.4),
)

-- One more node.
module _ (s : Spec) (orderly : IsOrderly s) (sets : List ClassSet) (set : ClassSet) (e : ℕ) (h : PassedTo s sets e) (within : e < length s.nodes) (step : (d : ℕ) → IsIn set d ↔ PassesAt s d (λ part. Points sets part d) e) where
  under-here : (d : ℕ) → IsIn set d ↔ Under s d e
  under-here d = (down, up)
    where
      down : IsIn set d → Under s d e
      down k = let g = (step d).0 k in under-round s d e g.node g.is_node (passes-more s d (λ part. Points sets part d) (Under s d) e g.node (λ part i p. (h.passed part d (orderly.below e part g.node g.is_node i)).0 p) g.passes)

      up : Under s d e → IsIn set d
      up u =
          let n = node-there s e within in
          (step d).1 (record { node = n.0; is_node = n.1; passes = passes-more s d (Under s d) (λ part. Points sets part d) e n.0 (λ part i v. (h.passed part d (orderly.below e part n.0 n.1 i)).1 v) (under-passes s d e n.0 n.1 u) })

  points-here : (d : ℕ) → Points (sets ++ (set ∷ [])) e d ↔ IsIn set d
  points-here d = subst (λ i. Points (sets ++ (set ∷ [])) i d ↔ IsIn set d) h.one_each (points-last sets set d)

  points-below : (f d : ℕ) → f < e → Points (sets ++ (set ∷ [])) f d ↔ Points sets f d
  points-below f d lt = points-earlier sets set f d (let l = h.one_each in omega arith)

  pub passed-more : PassedTo s (sets ++ (set ∷ [])) (e + 1)
  passed-more = record {
    one_each = set-count sets set ∙ ap (λ n. n + 1) h.one_each;
    passed = λ f d lt. elim (cases_lt f e) [
      | inl less ↦ (λ p. (h.passed f d less).0 ((points-below f d less).0 p), λ u. (points-below f d less).1 ((h.passed f d less).1 u))
      | inr more ↦ subst (λ x. Points (sets ++ (set ∷ [])) x d ↔ Under s d x) (same-number f (omega arith)) (λ p. (under-here d).0 ((points-here d).0 p), λ u. (points-here d).1 ((under-here d).1 u))
    ];
  }
    where
      same-number : (f : ℕ) → f ≡ e → e ≡ f
      same-number f q = sym q

pub passed-start : (s : Spec) → PassedTo s [] 0
passed-start s = record { one_each = refl; passed = λ f d lt. absurd (omega arith) }

under-there : {s : Spec} {d e : ℕ} → Under s d e → e < length s.nodes
under-there {s} {d} {e} (Under.here q) = slice_get_within s.nodes e (Node.Class d) q
under-there {s} {d} {e} (Under.in_union parts i part q g u) = slice_get_within s.nodes e (Node.Union parts) q
under-there {s} {d} {e} (Under.in_product before part after q l r u) = slice_get_within s.nodes e (Node.Product (before ++ (part ∷ after))) q
under-there {s} {d} {e} (Under.in_counted k h u) = slice_get_within s.nodes e k.node k.is_node

-- All nodes.
pub passed-all : (s : Spec) (sets : List ClassSet) (e : ℕ) → length s.nodes ≤ e → PassedTo s sets e → (f d : ℕ) → Points sets f d ↔ Under s d f
passed-all s sets e all h f d = (
  λ p. (let w = slice_get_within sets f p.row p.is_row in let l = h.one_each in (h.passed f d (omega arith)).0 p),
  λ u. (let w = under-there u in (h.passed f d (omega arith)).1 u),
)
