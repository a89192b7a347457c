-- The steps of a walk are the visits of the object.
use Rattle.std.proofs.Common.{◌≡◌, ℕ, suc, List, [], ◌∷◌, ◌++◌, map, length, refl, sym, ◌∙◌, ap, subst, append_assoc}
use Rattle.std.proofs.lemmas.List.{append-nil}
use Rattle.bz_model.specs.Spec.{Spec, Mode, Node}
use Rattle.bz_model.specs.Object.{Object, Objects, none, more, count}
use Rattle.class_system.specs.Sound.{IsSound}
use Rattle.class_system.specs.declared.ids.ExprId.{ExprId}
use Rattle.object_store.specs.Tokens.{BelongEach, IsOf}
use Rattle.object_store.specs.Waiting.{AreWaiting, Shows, ShowsClass, ShowsTuple, ShowsLeaf, ShowsPick, ShowsList, joined}
use Rattle.object_store.specs.Walking.{Walking, IsVisitOfWalk, IsEnd}
use Rattle.object_store.specs.declared.token.Token.{Token}
use Rattle.object_store.specs.declared.visit.Visit as seen
use Rattle.object_store.specs.declared.visit.Visit.TheVariants as seen_at
use Rattle.object_store.proofs.Waiting.{nothing-waits}
use Rattle.rank_tables.specs.RankSteps.{visit_of, step_at, AreStepsOf}
use Rattle.rank_tables.specs.Visits.{Visit, AreVisits}
use Rattle.rank_tables.specs.declared.rank_steps.Step.{Step}
use Rattle.rank_tables.proofs.Rankable.{two-modes}

-- Whatever visits the objects that wait have, behind the steps so far they are those of the whole.
pub record IsWalked (s : Spec) (body : ℕ) (o : Object) (walk : Walking) (steps : List Step) : Type 0 where
  pub system : walk.system ≡ s
  pub objects : Objects
  pub waits : AreWaiting s walk.waiting objects walk.left
  pub whole : (vs : List Visit) → AreVisits s walk.waiting objects vs → AreVisits s (body ∷ []) (more o none) (map visit_of steps ++ vs)

-- A walk that starts with an object's body waiting and no steps taken is a walk over that object.
pub walked-start : (s : Spec) (body : ℕ) (o : Object) (walk : Walking) → walk.system ≡ s → walk.waiting ≡ body ∷ [] → AreWaiting s walk.waiting (more o none) walk.left → IsWalked s body o walk []
walked-start s body o walk system waiting waits = record { system = system; objects = more o none; waits = waits; whole = λ vs h. subst (λ es. AreVisits s es (more o none) vs) waiting h }

as-many : (s : Spec) (es : List ℕ) (os : Objects) → BelongEach s es os → length es ≡ count os
as-many s [] none h = refl
as-many s (e ∷ es) (more o os) h = ap suc (as-many s es os h.1)
as-many s _ _ h = elim h [ ]

-- What waits after a visit, and how its visits go on.
record GoesOn (s : Spec) (e : ℕ) (es : List ℕ) (os : Objects) (new : List Visit) (fs : List ℕ) (us : List Token) : Type 0 where
  objects : Objects
  waits : AreWaiting s fs objects us
  on : (vs : List Visit) → AreVisits s fs objects vs → AreVisits s (e ∷ es) os (new ++ vs)

module _ (s : Spec) (sound : IsSound s) (unlabelled : s.mode ≡ Mode.Unlabelled) where
  class-on : (e body : ℕ) (es : List ℕ) (os : Objects) (ts : List Token) (fs : List ℕ) (us : List Token) → ShowsClass s e es os ts body fs us → GoesOn s e es os [] fs us
  class-on e body es none ts fs us k = absurd (let none_there : BelongEach s (body ∷ es) none = subst (λ z. BelongEach s z none) k.put k.waits.belong in none_there)
  class-on e body es (more o os) ts fs us k = record { objects = more o os; waits = k.waits; on = λ vs h. AreVisits.class k.class body k.is_node k.is_body (subst (λ z. AreVisits s z (more o os) vs) k.put h) }

  tuple-on : (e : ℕ) (es : List ℕ) (os : Objects) (ts : List Token) (fs : List ℕ) (us : List Token) → ShowsTuple s e es os ts fs us → GoesOn s e es os (Visit.Tupled e ∷ []) fs us
  tuple-on e es os ts fs us k = record { objects = joined k.members k.others; waits = k.waits; on = λ vs h. subst (λ z. AreVisits s (e ∷ es) z (Visit.Tupled e ∷ vs)) (sym k.is_tuple) (AreVisits.product k.parts fs k.members k.is_node (as-many s k.parts k.members k.belong) k.put refl h) }

  empty-on : (e : ℕ) (es : List ℕ) (os : Objects) (ts : List Token) (t : Token) (fs : List ℕ) (us : List Token) → ShowsLeaf Node.Empty Object.Unit_ t s e es os ts fs us → GoesOn s e es os (Visit.Leaf 0 ∷ []) fs us
  empty-on e es os ts t fs us k = record { objects = k.others; waits = k.waits; on = λ vs h. subst (λ z. AreVisits s (e ∷ es) z (Visit.Leaf 0 ∷ vs)) (sym k.is_leaf) (AreVisits.empty k.word k.is_node (subst (λ z. AreVisits s z k.others vs) k.put h)) }

  atom-on : (e : ℕ) (es : List ℕ) (os : Objects) (ts : List Token) (t : Token) (fs : List ℕ) (us : List Token) → ShowsLeaf Node.Atom Object.Dot t s e es os ts fs us → GoesOn s e es os (Visit.Leaf 1 ∷ []) fs us
  atom-on e es os ts t fs us k = record { objects = k.others; waits = k.waits; on = λ vs h. subst (λ z. AreVisits s (e ∷ es) z (Visit.Leaf 1 ∷ vs)) (sym k.is_leaf) (AreVisits.atom k.word k.is_node (subst (λ z. AreVisits s z k.others vs) k.put h)) }

  pick-on : (e option part : ℕ) (es : List ℕ) (os : Objects) (ts : List Token) (fs : List ℕ) (us : List Token) → ShowsPick s e es os ts option part fs us → GoesOn s e es os (Visit.Picked e option ∷ []) fs us
  pick-on e option part es os ts fs us k = record { objects = more k.object k.others; waits = k.waits; on = λ vs h. subst (λ z. AreVisits s (e ∷ es) z (Visit.Picked e option ∷ vs)) (sym k.is_pick) (AreVisits.union k.parts option part k.is_node k.is_part (subst (λ z. AreVisits s z (more k.object k.others) vs) k.put h)) }

  list-on : (e parts part : ℕ) (es : List ℕ) (os : Objects) (ts : List Token) (fs : List ℕ) (us : List Token) → ShowsList Node.Seq Object.SeqOf s e es os ts parts part fs us → GoesOn s e es os (Visit.Listed e parts ∷ []) fs us
  list-on e parts part es os ts fs us k = record { objects = joined k.members k.others; waits = k.waits; on = λ vs h. subst (λ z. AreVisits s (e ∷ es) z (Visit.Listed e parts ∷ vs)) (sym k.is_list) (AreVisits.sequence part fs k.members k.is_node (sym k.counted) k.put refl h) }

  goes-on : (e : ExprId) (v : seen.Visit) (es : List ℕ) (os : Objects) (ts : List Token) (fs : List ℕ) (us : List Token) → Shows s e.0 es os ts v fs us → GoesOn s e.0 es os (map visit_of (step_at e v)) fs us
  goes-on e (seen_at.Class body) es os ts fs us k = class-on e.0 body.0 es os ts fs us k
  goes-on e seen_at.Product es os ts fs us k = tuple-on e.0 es os ts fs us k
  goes-on e seen_at.Empty es os ts fs us k = empty-on e.0 es os ts _ fs us k
  goes-on e seen_at.Atom es os ts fs us k = atom-on e.0 es os ts _ fs us k
  goes-on e (seen_at.Union option part) es os ts fs us k = pick-on e.0 option part.0 es os ts fs us k
  goes-on e (seen_at.Seq parts part) es os ts fs us k = list-on e.0 parts part.0 es os ts fs us k
  goes-on e (seen_at.Set parts part) es os ts fs us k = absurd (two-modes (sym unlabelled ∙ sound.modes.at e.0 (Node.Set part.0) k.is_node))
  goes-on e (seen_at.Cyc parts part) es os ts fs us k = absurd (two-modes (sym unlabelled ∙ sound.modes.at e.0 (Node.Cyc part.0) k.is_node))

  map-append : (xs ys : List Step) → map visit_of (xs ++ ys) ≡ map visit_of xs ++ map visit_of ys
  map-append [] ys = refl
  map-append (x ∷ xs) ys = ap (λ z. visit_of x ∷ z) (map-append xs ys)

  -- one visit more
  pub walked-on : (body : ℕ) (o : Object) (before now : Walking) (e : ExprId) (v : seen.Visit) (steps new : List Step) → IsVisitOfWalk before now e.0 v → new ≡ steps ++ step_at e v → IsWalked s body o before steps → IsWalked s body o now new
  walked-on body o before now e v steps new k put from =
      let shown : Shows before.system e.0 k.others from.objects before.left v now.waiting now.left = k.shows from.objects (subst (λ z. AreWaiting z before.waiting from.objects before.left) (sym from.system) from.waits) in
      let g = goes-on e v k.others from.objects before.left now.waiting now.left (subst (λ z. Shows z e.0 k.others from.objects before.left v now.waiting now.left) from.system shown) in
      record {
        system = k.system ∙ from.system;
        objects = g.objects;
        waits = g.waits;
        whole = λ vs h. subst (AreVisits s (body ∷ []) (more o none)) (same vs) (from.whole (map visit_of (step_at e v) ++ vs) (subst (λ z. AreVisits s z from.objects (map visit_of (step_at e v) ++ vs)) (sym k.first) (g.on vs h)));
      }
    where
      same : (vs : List Visit) → map visit_of steps ++ (map visit_of (step_at e v) ++ vs) ≡ map visit_of new ++ vs
      same vs = sym (append_assoc (map visit_of steps) (map visit_of (step_at e v)) vs) ∙ ap (λ z. z ++ vs) (sym (map-append steps (step_at e v)) ∙ ap (map visit_of) (sym put))

-- The end of the walk.
pub walked-end : (s : Spec) (tokens : List Token) (shape : IsOf s 0 tokens) (before now : Walking) (steps : List Step) → IsEnd before now → IsWalked s shape.body shape.object before steps → AreStepsOf s 0 tokens steps
walked-end s tokens shape before now steps k from = record {
  shape = shape;
  visits = subst (AreVisits s (shape.body ∷ []) (more shape.object none)) (append-nil (map visit_of steps))
      (from.whole [] (subst (λ es. AreVisits s es from.objects []) (sym k.nothing) (subst (λ os. AreVisits s [] os []) (sym (nothing-waits s from.objects before.left (subst (λ es. AreWaiting s es from.objects before.left) k.nothing from.waits)).0) AreVisits.done)));
}
