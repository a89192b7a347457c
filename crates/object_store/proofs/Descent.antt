-- Going down from a node through classes and first parts of products, which have no token of their own: in a node that has an object no such way comes back to a node, so it is short.
use Rattle.std.proofs.Common.{◌≡◌, ◌↔◌, ℕ, zero, suc, ◌+◌, ◌<◌, ◌≤◌, inl, inr, List, [], ◌∷◌, ◌++◌, length, arith, sym, subst, true, false, eqb, Some}
use Rattle.std.specs.List.{list_any, IsDistinct, AllByRecursion}
use Rattle.std.proofs.lemmas.Bool.Decides.{eqb_tells}
use Rattle.std.proofs.lemmas.Map.Keys.{IsDistinct-cons}
use Rattle.std.proofs.lemmas.Map.Steps.{length-le_from_distinct_below}
use Rattle.bz_model.specs.Spec.{Spec, Node, node_at, range_at, node_of, range_of}
use Rattle.bz_model.specs.Object.{Object, none, more, Has, ClassHas, HasWithin, Belongs}
use Rattle.bz_model.specs.Object.Object.{Unit_, Dot, Pick, Tuple, SeqOf, SetOf, CycOf}
use Rattle.bz_model.specs.Measures.{tree_nodes}
use Rattle.bz_laws.proofs.Nodes.{known}
use Rattle.bz_laws.proofs.Samples.{AllByRecursion-append}
use Rattle.class_system.specs.Sound.{IsSound}
use Rattle.object_store.specs.declared.token.Token.{Token}
use Rattle.object_store.specs.Tokens.{AreOf}
use Rattle.object_store.specs.Walk.{AllBelow, Expands}
pub use Rattle.object_store.specs.Descent.{StepsDownTo, LeadsDownTo, LeadTo, Descent}
use Rattle.object_store.proofs.InRange.{body-below, two-parts, product-parts}
use Rattle.object_store.proofs.NextToken.{first, of-class, of-product}

-- A node has an object whose height and tree nodes are at most m together.
pub record HasSmall (s : Spec) (e m : ℕ) : Type 0 where
  pub height : ℕ
  pub object : Object
  pub within : HasWithin s height (Some e) object
  pub small : height + tree_nodes object ≤ m

some_node : (o : Object) → 0 < tree_nodes o
some_node Unit_ = omega arith
some_node Dot = omega arith
some_node (Pick i o) = omega arith
some_node (Tuple os) = omega arith
some_node (SeqOf os) = omega arith
some_node (SetOf os) = omega arith
some_node (CycOf os) = omega arith

module _ (s : Spec) where
  never_none : (e : ℕ) → ¬ (HasSmall s e 0)
  never_none e h = let a = some_node h.object in let b = h.small in omega arith

  -- a step down is to a smaller object
  step_down : {e f : ℕ} (m : ℕ) → StepsDownTo s e f → HasSmall s e (suc m) → HasSmall s f m
  step_down {e} {f} m (StepsDownTo.to_body c at b) k = go k.height (known s (ClassHas s k.height) e at k.object k.within) k.small
    where
      go : (h : ℕ) → ClassHas s h c k.object → h + tree_nodes k.object ≤ suc m → HasSmall s f m
      go zero w l = elim w [ ]
      go (suc h) w l = record { height = h; object = k.object; within = subst (λ n. Has s (ClassHas s h) (node_of s n) (range_of s n) k.object) b w; small = omega arith }
  step_down {e} {f} m (StepsDownTo.to_part parts at) k = go k.object (known s (ClassHas s k.height) e at k.object k.within) k.small
    where
      go : (o : Object) → Has s (ClassHas s k.height) (Some (Node.Product (f ∷ parts))) (range_at s e) o → k.height + tree_nodes o ≤ suc m → HasSmall s f m
      go (Tuple (more o os)) h l = record { height = k.height; object = o; within = h.0; small = omega arith }
      go (Tuple none) h l = elim h [ ]
      go _ h l = elim h [ ]

  step_smaller : {e f : ℕ} (m : ℕ) → StepsDownTo s e f → HasSmall s e m → (k : ℕ) × (k < m) × HasSmall s f k
  step_smaller {e} zero t h = absurd (never_none e h)
  step_smaller (suc m) t h = (m, omega arith, step_down m t h)

  leads_smaller : {e f : ℕ} (m : ℕ) → LeadsDownTo s e f → HasSmall s e m → (k : ℕ) × (k < m) × HasSmall s f k
  leads_smaller m (LeadsDownTo.one t) h = step_smaller m t h
  leads_smaller m (LeadsDownTo.further l t) h =
      let a = leads_smaller m l h in
      let b = step_smaller a.0 t a.2 in
      let lower = a.1 in
      let lowest = b.1 in
      (b.0, omega arith, b.2)

  no_loop_below : {e : ℕ} (n m : ℕ) → m < n → LeadsDownTo s e e → ¬ (HasSmall s e m)
  no_loop_below zero m lt l h = omega arith
  no_loop_below (suc n) m lt l h = let a = leads_smaller m l h in let lower = a.1 in no_loop_below n a.0 (omega arith) l a.2

  -- a node that leads back to itself has no object
  pub no_loop : {e : ℕ} → LeadsDownTo s e e → (o : Object) → ¬ (Belongs s e o)
  no_loop {e} l o b = no_loop_below (suc (b.0 + tree_nodes o)) (b.0 + tree_nodes o) (omega arith) l (record { height = b.0; object = o; within = b.1; small = omega arith })

none_twice : IsDistinct eqb []
unfolding IsDistinct
none_twice = tt

module _ (s : Spec) where
  lead_on : {e f : ℕ} (passed : List ℕ) → StepsDownTo s e f → AllByRecursion (λ p. LeadsDownTo s p e) passed → AllByRecursion (λ p. LeadsDownTo s p f) passed
  lead_on [] t h = tt
  lead_on (p ∷ passed) t h = (LeadsDownTo.further h.0 t, lead_on passed t h.1)

  apart : {e : ℕ} (passed : List ℕ) → ¬ (LeadsDownTo s e e) → AllByRecursion (λ p. LeadsDownTo s p e) passed → AllByRecursion (λ y. eqb e y ≡ false) passed
  apart [] never h = tt
  apart {e} (p ∷ passed) never h = elim (eqb_tells e p) [
    | inl q ↦ absurd (never (subst (λ z. LeadsDownTo s z e) (sym q.1) h.0))
    | inr q ↦ (q.0, apart passed never h.1)
  ]

  still_distinct : {e : ℕ} {es : List ℕ} (passed : List ℕ) (ts : List Token) → AreOf s (e ∷ es) ts → AllByRecursion (λ p. LeadsDownTo s p e) passed → IsDistinct eqb passed → IsDistinct eqb (e ∷ passed)
  still_distinct {e} {es} passed ts are lead d = IsDistinct-cons eqb e passed (apart passed (λ l. let f = first s e es ts are in no_loop s l f.object f.belongs) lead) d

  later : (q c : ℕ) (cs : List ℕ) → eqb q c ≡ false → list_any (eqb q) (c ∷ cs) ≡ true → list_any (eqb q) cs ≡ true
  later q c cs e h = rw e at h

  any-below : (n : ℕ) (cs : List ℕ) → AllBelow n cs → (q : ℕ) → list_any (eqb q) cs ≡ true → q < n
  any-below n [] b q h = absurd (cc)
  any-below n (c ∷ cs) b q h = elim (eqb_tells q c) [
    | inl e ↦ subst (λ z. z < n) (sym e.1) b.0
    | inr e ↦ any-below n cs b.1 q (later q c cs e.0 h)
  ]

  -- where as many nodes were passed as there are, and one more is below them, there is no object
  pub too_long : (start : List ℕ) (e : ℕ) (es : List ℕ) → Descent s start (e ∷ es) 0 → (ts : List Token) → ¬ (AreOf s start ts)
  too_long start e es d ts are =
      let distinct = still_distinct d.passed ts ((d.same ts).0 are) d.lead (d.distinct ts are) in
      let few = length-le_from_distinct_below (e ∷ d.passed) (length s.nodes) distinct (any-below (length s.nodes) (e ∷ d.passed) (d.in_range.0, d.below)) in
      let all = d.few in
      omega arith

  -- one step further down
  pub descent-step : (start : List ℕ) (e f left : ℕ) (es fs : List ℕ) → StepsDownTo s e f → AllBelow (length s.nodes) (f ∷ fs) → ((ts : List Token) → AreOf s (e ∷ es) ts ↔ AreOf s (f ∷ fs) ts) → Descent s start (e ∷ es) (suc left) → Descent s start (f ∷ fs) left
  descent-step start e f left es fs t range same d = record {
    same = λ ts. (λ h. (same ts).0 ((d.same ts).0 h), λ h. (d.same ts).1 ((same ts).1 h));
    in_range = range;
    passed = e ∷ d.passed;
    few = let all = d.few in omega arith;
    lead = (LeadsDownTo.one t, lead_on d.passed t d.lead);
    below = (d.in_range.0, d.below);
    distinct = λ ts are. still_distinct d.passed ts ((d.same ts).0 are) d.lead (d.distinct ts are);
  }

  pub descent-start : (start : List ℕ) → AllBelow (length s.nodes) start → Descent s start start (length s.nodes)
  descent-start start range = record {
    same = λ ts. (λ h. h, λ h. h);
    in_range = range;
    passed = [];
    few = omega arith;
    lead = led start;
    below = tt;
    distinct = λ ts are. none_twice;
  }
    where
      led : (es : List ℕ) → LeadTo s [] es
      led [] = tt
      led (e ∷ es) = tt

-- A node with a token ends the way down; what lies behind a class or a product goes on.
module _ (s : Spec) (sound : IsSound s) where
  pub expanded : (e : ℕ) (es now : List ℕ) → Expands s e es now → (ts : List Token) → AreOf s (e ∷ es) ts ↔ AreOf s now ts
  expanded e es now (Expands.class c body at b put) ts = let of = of-class s e c body es at b ts in (λ h. subst (λ fs. AreOf s fs ts) (sym put) (of.0 h), λ h. of.1 (subst (λ fs. AreOf s fs ts) put h))
  expanded e es now (Expands.product parts at put) ts = let of = of-product s e parts es at ts in (λ h. subst (λ fs. AreOf s fs ts) (sym put) (of.0 h), λ h. of.1 (subst (λ fs. AreOf s fs ts) put h))

  pub descent-expand : (start : List ℕ) (e left : ℕ) (es now : List ℕ) → Expands s e es now → Descent s start (e ∷ es) (suc left) → Descent s start now left
  descent-expand start e left es now (Expands.class c body at b put) d =
      subst (λ fs. Descent s start fs left) (sym put) (descent-step s start e body left es es (StepsDownTo.to_body c at b) (body-below s sound c body b, d.in_range.1) (of-class s e c body es at b) d)
  descent-expand start e left es now (Expands.product parts at put) d = subst (λ fs. Descent s start fs left) (sym put) (go parts at (two-parts s sound e parts at) (product-parts s sound e parts at))
    where
      go : (ps : List ℕ) → node_at s e ≡ Some (Node.Product ps) → 2 ≤ length ps → AllBelow (length s.nodes) ps → Descent s start (ps ++ es) left
      go [] at two range = absurd (omega arith)
      go (p ∷ ps) at two range = descent-step s start e p left es (ps ++ es) (StepsDownTo.to_part ps at) (range.0, AllByRecursion-append (λ f. f < length s.nodes) ps es range.1 d.in_range.1) (of-product s e (p ∷ ps) es at) d
