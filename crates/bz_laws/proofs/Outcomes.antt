-- From a room and a list of numbers a node makes at most one thing, and leaves the same numbers.
use Rattle.std.proofs.Common.{◌≡◌, ℕ, zero, suc, ◌≤◌, ◌⊎◌, inl, inr, List, [], ◌∷◌, refl, sym, ◌∙◌, ap, subst, Option, Some, replicate}
use Rattle.std.specs.Prelude.{slice_get}
use Rattle.bz_model.specs.Fraction.{Fraction}
use Rattle.bz_model.specs.Spec.{Spec, Node, node_at, body_of}
use Rattle.bz_model.specs.Object.{Object, Objects}
use Rattle.bz_model.specs.Measures.{HasZero}
use Rattle.bz_model.specs.Ideal.{IsIdealOption}
use Rattle.bz_model.specs.Making.{Made, Just, Over, AllMade, All, AllOver, wrap, wrap_all, also, IsCounted, Makes, MakesEach}
use Rattle.bz_model.specs.Making as making
use Rattle.bz_laws.proofs.Options.{unique}

-- a counted node takes a number: it makes its part as often as the ideal option says, or is over
abbrev CountedAs : Spec → Fraction → ℕ → (Objects → Object) → ℕ → ℕ → List Fraction → Made → List Fraction → Type 0
CountedAs s x part form e room [] r left = ⊥
CountedAs s x part form e room (u ∷ us) r left =
    ((i : ℕ) × (m : AllMade) × IsIdealOption s x u e i × ((i ≤ room) ⊎ HasZero s part) × MakesEach s x (replicate i part) room us m left × (r ≡ wrap_all form m))
    ⊎ (((i : ℕ) → i ≤ room → ¬ (IsIdealOption s x u e i)) × (¬ (HasZero s part)) × (r ≡ Over) × (left ≡ us))

-- what a node makes, told by the node
abbrev MadeAs : (s : Spec) (x : Fraction) → Node → ℕ → ℕ → List Fraction → Made → List Fraction → Type 0
MadeAs s x (Node.Empty w) e room us r left = (r ≡ Just Object.Unit_ room) × (left ≡ us)
MadeAs s x (Node.Atom w) e zero us r left = (r ≡ Over) × (left ≡ us)
MadeAs s x (Node.Atom w) e (suc room) us r left = (r ≡ Just Object.Dot room) × (left ≡ us)
MadeAs s x (Node.Class c) e room us r left = (body : ℕ) × (body_of s c ≡ Some body) × Makes s x body room us r left
MadeAs s x (Node.Product parts) e room us r left = (m : AllMade) × MakesEach s x parts room us m left × (r ≡ wrap_all Object.Tuple m)
MadeAs s x (Node.Union parts) e room [] r left = ⊥
MadeAs s x (Node.Union parts) e room (u ∷ us) r left = (i : ℕ) × (part : ℕ) × (m : Made) × IsIdealOption s x u e i × (slice_get parts i ≡ Some part) × Makes s x part room us m left × (r ≡ wrap (Object.Pick i) m)
MadeAs s x (Node.Seq p) e room us r left = CountedAs s x p Object.SeqOf e room us r left
MadeAs s x (Node.Set p) e room us r left = CountedAs s x p Object.SetOf e room us r left
MadeAs s x (Node.Cyc p) e room us r left = CountedAs s x p Object.CycOf e room us r left

counted_as : (s : Spec) (x : Fraction) (node : Node) (part : ℕ) (form : Objects → Object) (e room : ℕ) (us : List Fraction) (r : Made) (left : List Fraction) → IsCounted node part form → CountedAs s x part form e room us r left → MadeAs s x node e room us r left
counted_as s x (Node.Seq p) part form e room us r left c h = subst (λ f. CountedAs s x p f e room us r left) c.1 (subst (λ q. CountedAs s x q form e room us r left) (sym c.0) h)
counted_as s x (Node.Set p) part form e room us r left c h = subst (λ f. CountedAs s x p f e room us r left) c.1 (subst (λ q. CountedAs s x q form e room us r left) (sym c.0) h)
counted_as s x (Node.Cyc p) part form e room us r left c h = subst (λ f. CountedAs s x p f e room us r left) c.1 (subst (λ q. CountedAs s x q form e room us r left) (sym c.0) h)
counted_as s x _ part form e room us r left c h = elim c [ ]

same_node : (s : Spec) (e : ℕ) (n m : Node) → node_at s e ≡ Some n → node_at s e ≡ Some m → n ≡ m
same_node s e n m h k = cc

-- any making at a known node is told by it
made_as : (s : Spec) (x : Fraction) {e room : ℕ} {us left : List Fraction} {r : Made} (n : Node) → node_at s e ≡ Some n → Makes s x e room us r left → MadeAs s x n e room us r left
made_as s x {e} {room} {us} n at (making.empty word node) = subst (λ k. MadeAs s x k e room us (Just Object.Unit_ room) us) (same_node s e (Node.Empty word) n node at) (refl, refl)
made_as s x {e} {us = us} n at (making.atom {room = room} word node) = subst (λ k. MadeAs s x k e (suc room) us (Just Object.Dot room) us) (same_node s e (Node.Atom word) n node at) (refl, refl)
made_as s x {e} {us = us} n at (making.no_room word node) = subst (λ k. MadeAs s x k e 0 us Over us) (same_node s e (Node.Atom word) n node at) (refl, refl)
made_as s x {e} {room} {us} {left} {r} n at (making.class c body node b k) = subst (λ k. MadeAs s x k e room us r left) (same_node s e (Node.Class c) n node at) (body, b, k)
made_as s x {e} {room} {left = left} {r = r} n at (making.union {u = u} {us = us} parts i part m node ideal p k eq) = subst (λ k. MadeAs s x k e room (u ∷ us) r left) (same_node s e (Node.Union parts) n node at) (i, part, m, ideal, p, k, eq)
made_as s x {e} {room} {us} {left} {r} n at (making.product parts m node k eq) = subst (λ k. MadeAs s x k e room us r left) (same_node s e (Node.Product parts) n node at) (m, k, eq)
made_as s x {e} {room} {left = left} {r = r} n at (making.counted {u = u} {us = us} node part i form m here c ideal small k eq) = subst (λ k. MadeAs s x k e room (u ∷ us) r left) (same_node s e node n here at) (counted_as s x node part form e room (u ∷ us) r left c (inl (i, m, ideal, small, k, eq)))
made_as s x {e} {room} n at (making.too_many {u = u} {us = us} node part form here c never no_zero) = subst (λ k. MadeAs s x k e room (u ∷ us) Over us) (same_node s e node n here at) (counted_as s x node part form e room (u ∷ us) Over us c (inr (never, no_zero, refl, refl)))

counted_from : (s : Spec) (x : Fraction) (node : Node) (part : ℕ) (form : Objects → Object) (e room : ℕ) (us : List Fraction) (r : Made) (left : List Fraction) → IsCounted node part form → MadeAs s x node e room us r left → CountedAs s x part form e room us r left
counted_from s x (Node.Seq p) part form e room us r left c h = subst (λ f. CountedAs s x part f e room us r left) (sym c.1) (subst (λ q. CountedAs s x q Object.SeqOf e room us r left) c.0 h)
counted_from s x (Node.Set p) part form e room us r left c h = subst (λ f. CountedAs s x part f e room us r left) (sym c.1) (subst (λ q. CountedAs s x q Object.SetOf e room us r left) c.0 h)
counted_from s x (Node.Cyc p) part form e room us r left c h = subst (λ f. CountedAs s x part f e room us r left) (sym c.1) (subst (λ q. CountedAs s x q Object.CycOf e room us r left) c.0 h)
counted_from s x _ part form e room us r left c h = elim c [ ]

-- Two values of one optional number are the same number.
pub same_number : (p : Option ℕ) (a b : ℕ) → p ≡ Some a → p ≡ Some b → a ≡ b
same_number p a b h k = cc

object_of : (o p : Object) (a b : ℕ) → Just o a ≡ Just p b → o ≡ p
object_of o p a b h = cc

room_of : (o p : Object) (a b : ℕ) → Just o a ≡ Just p b → a ≡ b
room_of o p a b h = cc

not_over : (o : Object) (a : ℕ) → Just o a ≡ Over → ⊥
not_over o a h = cc

mutual
  pub one_outcome : (s : Spec) (x : Fraction) {e room : ℕ} {us left rest : List Fraction} {r q : Made} → Makes s x e room us r left → Makes s x e room us q rest → (r ≡ q) × (left ≡ rest)
  one_outcome s x (making.empty word node) k = let h = made_as s x (Node.Empty word) node k in (sym h.0, sym h.1)
  one_outcome s x (making.atom word node) k = let h = made_as s x (Node.Atom word) node k in (sym h.0, sym h.1)
  one_outcome s x (making.no_room word node) k = let h = made_as s x (Node.Atom word) node k in (sym h.0, sym h.1)
  one_outcome s x {room = room} {us = us} {rest = rest} {q = q} (making.class c body node b d) k =
      let h = made_as s x (Node.Class c) node k in
      one_outcome s x d (subst (λ n. Makes s x n room us q rest) (same_number (body_of s c) h.0 body h.1 b) h.2)
  one_outcome s x {e} {room} {rest = rest} (making.union {u = u} {us = us} parts i part m node ideal p d eq) k =
      let h = made_as s x (Node.Union parts) node k in
      let same : h.0 ≡ i = unique s x u e h.0 i h.3 ideal in
      let here : slice_get parts i ≡ Some h.1 = subst (λ j. slice_get parts j ≡ Some h.1) same h.4 in
      let r = one_outcome s x d (subst (λ n. Makes s x n room us h.2 rest) (same_number (slice_get parts i) h.1 part here p) h.5) in
      (eq ∙ ap (wrap (Object.Pick i)) r.0 ∙ ap (λ j. wrap (Object.Pick j) h.2) (sym same) ∙ sym h.6, r.1)
  one_outcome s x (making.product parts m node d eq) k =
      let h = made_as s x (Node.Product parts) node k in
      let r = one_outcome_each s x d h.1 in
      (eq ∙ ap (wrap_all Object.Tuple) r.0 ∙ sym h.2, r.1)
  one_outcome s x {e} {room} {left = left} {rest = rest} {r = r} {q = q} (making.counted {u = u} {us = us} node part i form m here c ideal small d eq) k = go (λ n h. one_outcome_each s x d h) (counted_from s x node part form e room (u ∷ us) q rest c (made_as s x node here k))
    where
      go : ((n : AllMade) → MakesEach s x (replicate i part) room us n rest → (m ≡ n) × (left ≡ rest)) → CountedAs s x part form e room (u ∷ us) q rest → (r ≡ q) × (left ≡ rest)
      go again (inl h) =
          let same : h.0 ≡ i = unique s x u e h.0 i h.2 ideal in
          let each : MakesEach s x (replicate i part) room us h.1 rest = subst (λ j. MakesEach s x (replicate j part) room us h.1 rest) same h.4 in
          let t = again h.1 each in
          (eq ∙ ap (wrap_all form) t.0 ∙ sym h.5, t.1)
      go again (inr h) = elim small [ inl le ↦ absurd (h.0 i le ideal) | inr z ↦ absurd (h.1 z) ]
  one_outcome s x {e} {room} {rest = rest} {q = q} (making.too_many {u = u} {us = us} node part form here c never no_zero) k = go (counted_from s x node part form e room (u ∷ us) q rest c (made_as s x node here k))
    where
      go : CountedAs s x part form e room (u ∷ us) q rest → (Over ≡ q) × (us ≡ rest)
      go (inl h) = elim h.3 [ inl le ↦ absurd (never h.0 le h.2) | inr z ↦ absurd (no_zero z) ]
      go (inr h) = (sym h.2, sym h.3)

  pub one_outcome_each : (s : Spec) (x : Fraction) {es : List ℕ} {room : ℕ} {us left rest : List Fraction} {r q : AllMade} → MakesEach s x es room us r left → MakesEach s x es room us q rest → (r ≡ q) × (left ≡ rest)
  one_outcome_each s x making.done making.done = (refl, refl)
  one_outcome_each s x {rest = rest} (making.first {es = es} {after = after} o between m h d eq) (making.first {after = then} p middle n k t eq') =
      let a = one_outcome s x h k in
      let same : o ≡ p = object_of o p between middle a.0 in
      let room : between ≡ middle = room_of o p between middle a.0 in
      let next : MakesEach s x es between after n rest = subst (λ vs. MakesEach s x es between vs n rest) (sym a.1) (subst (λ b. MakesEach s x es b then n rest) (sym room) t) in
      let r = one_outcome_each s x d next in
      (eq ∙ ap (also o) r.0 ∙ ap (λ z. also z n) same ∙ sym eq', r.1)
  one_outcome_each s x (making.first o between m h d eq) (making.over k) = let a = one_outcome s x h k in absurd (not_over o between a.0)
  one_outcome_each s x (making.over h) (making.first o between m k d eq) = let a = one_outcome s x h k in absurd (not_over o between (sym a.0))
  one_outcome_each s x (making.over h) (making.over k) = let a = one_outcome s x h k in (refl, a.1)
