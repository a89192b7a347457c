-- How far the weights have come after each visit of a walk over an object.
use Rattle.std.proofs.Common.{◌≡◌, ℕ, suc, ◌+◌, ◌*◌, ◌≤◌, ◌<◌, ◌^◌, List, [], ◌∷◌, ◌++◌, length, arith, refl, sym, ◌∙◌, ap, subst, append_assoc, append-nil, length-append}
use Rattle.std.specs.Prelude.{ℤ}
use Rattle.bz_model.specs.Spec.{Spec}
use Rattle.bz_model.specs.Object.{Object, Objects, none, more, count}
use Rattle.object_store.specs.declared.token.Token.{Token}
use Rattle.object_store.specs.declared.visit.Visit.{Visit}
use Rattle.object_store.specs.declared.visit.Visit.TheVariants as visit
use Rattle.class_system.specs.Sound.{IsSound}
use Rattle.object_store.specs.Tokens.{BelongEach, IsOf}
use Rattle.object_store.specs.Waiting.{joined, AreWaiting, Shows}
use Rattle.object_store.specs.Walking.{Walking, IsVisitOfWalk, HasNoObjects}
use Rattle.chance_law.specs.declared.scaled.Scaled.{Scaled}
use Rattle.chance_law.specs.declared.weights.Weights.{Weights}
use Rattle.chance_law.specs.Scaled.{IsNearZero, one}
use Rattle.chance_law.specs.Factors.{Factor, factors, all_factors, over_two_to}
use Rattle.chance_law.specs.Chance.{LeadsDown, LeadsUp}
use Rattle.chance_law.specs.Weights.{AreWithin, AreWeightsOf, HasCome, IsOnTheWay, visit_factors}
use Rattle.chance_law.proofs.FewFactors.{few-factors}

-- The factors of two lists, one after the other.
join-factors : (os ps : Objects) → all_factors (joined os ps) ≡ all_factors os ++ all_factors ps
join-factors none ps = refl
join-factors (more o os) ps = ap (λ fs. factors o ++ fs) (join-factors os ps) ∙ sym (append_assoc (factors o) (all_factors os) (all_factors ps))

-- The objects that wait after a visit have the factors that the visit leaves.
record Left (s : Spec) (v : Visit) (os : Objects) (fs : List ℕ) (us : List Token) : Type 0 where
  objects : Objects
  waits : AreWaiting s fs objects us
  split : all_factors os ≡ visit_factors v ++ all_factors objects

left-after : (s : Spec) (e : ℕ) (es : List ℕ) (os : Objects) (ts : List Token) (v : Visit) (fs : List ℕ) (us : List Token) → Shows s e es os ts v fs us → Left s v os fs us
left-after s e es os ts (visit.Class body) fs us h = record { objects = os; waits = h.waits; split = refl }
left-after s e es os ts visit.Product fs us h = record { objects = joined h.members h.others; waits = h.waits; split = ap all_factors h.is_tuple ∙ sym (join-factors h.members h.others) }
left-after s e es os ts visit.Empty fs us h = record { objects = h.others; waits = h.waits; split = ap all_factors h.is_leaf }
left-after s e es os ts visit.Atom fs us h = record { objects = h.others; waits = h.waits; split = ap all_factors h.is_leaf }
left-after s e es os ts (visit.Union option part) fs us h = record { objects = more h.object h.others; waits = h.waits; split = ap all_factors h.is_pick }
left-after s e es os ts (visit.Seq parts part) fs us h = record { objects = joined h.members h.others; waits = h.waits; split = ap all_factors h.is_list ∙ sym (join-factors h.members h.others) }
left-after s e es os ts (visit.Set parts part) fs us h = record {
  objects = joined h.members h.others;
  waits = h.waits;
  split = ap all_factors h.is_list ∙ append_assoc (over_two_to (count h.members)) (all_factors h.members) (all_factors h.others) ∙ ap (λ gs. over_two_to (count h.members) ++ gs) (sym (join-factors h.members h.others)) ∙ ap (λ k. over_two_to k ++ all_factors (joined h.members h.others)) h.counted;
}
left-after s e es os ts (visit.Cyc parts part) fs us h = record {
  objects = joined h.members h.others;
  waits = h.waits;
  split = ap all_factors h.is_list ∙ ap (λ gs. Factor.Over (count h.members) ∷ gs) (sym (join-factors h.members h.others)) ∙ ap (λ k. Factor.Over k ∷ all_factors (joined h.members h.others)) h.counted;
}

-- What leads through some factors and then through others leads through all of them.
pub leads-down : (x : Scaled) (fs gs : List Factor) (s t w : Scaled) → LeadsDown x s fs t → LeadsDown x t gs w → LeadsDown x s (fs ++ gs) w
leads-down x [] gs s t w h k = subst (λ z. LeadsDown x z gs w) (sym h) k
leads-down x (f ∷ fs) gs s t w h k = (h.0, h.1, leads-down x fs gs h.0 t w h.2 k)

-- What leads up through some factors and then up through others leads up through all of them,
-- rounded up at each step.
pub leads-up : (x : Scaled) (fs gs : List Factor) (s t w : Scaled) → LeadsUp x s fs t → LeadsUp x t gs w → LeadsUp x s (fs ++ gs) w
leads-up x [] gs s t w h k = subst (λ z. LeadsUp x z gs w) (sym h) k
leads-up x (f ∷ fs) gs s t w h k = (h.0, h.1, leads-up x fs gs h.0 t w h.2 k)

-- The weights come on by the factors of a visit.
comes : (x w now : Weights) (o : Object) (os ps : Objects) (fs : List Factor) → all_factors os ≡ fs ++ all_factors ps → HasCome x w o os → LeadsDown x.lo w.lo fs now.lo → LeadsUp x.hi w.hi fs now.hi → HasCome x now o ps
comes x w now o os ps fs split h d u = record {
  down = λ v k. h.down v (subst (λ gs. LeadsDown x.lo w.lo gs v) (sym split) (leads-down x.lo fs (all_factors ps) w.lo now.lo v d k));
  up = λ v k. h.up v (subst (λ gs. LeadsUp x.hi w.hi gs v) (sym split) (leads-up x.hi fs (all_factors ps) w.hi now.hi v u k));
}

-- At the start the object itself waits, and both weights are 1.
pub begins : (s : Spec) (x w : Weights) (o : Object) (es : List ℕ) (ts : List Token) → AreWaiting s es (more o none) ts → w.lo ≡ one → w.hi ≡ one → AreWithin 512 w → IsOnTheWay s x o es ts w
begins s x w o es ts waits lo hi within = record {
  objects = more o none;
  waits = waits;
  come = record {
    down = λ v k. subst (λ gs. LeadsDown x.lo one gs v) (append-nil (factors o)) (subst (λ z. LeadsDown x.lo z (factors o ++ []) v) lo k);
    up = λ v k. subst (λ gs. LeadsUp x.hi one gs v) (append-nil (factors o)) (subst (λ z. LeadsUp x.hi z (factors o ++ []) v) hi k);
  };
  done = 0;
  counted = let all = ap length (append-nil (factors o)) in omega (arith, all);
  within = within;
}

-- A visit goes on.
pub goes-on : (s : Spec) (x w now : Weights) (o : Object) (e : ℕ) (es ws fs : List ℕ) (ts us : List Token) (v : Visit) (h : IsOnTheWay s x o ws ts w) → Shows s e es h.objects ts v fs us → LeadsDown x.lo w.lo (visit_factors v) now.lo → LeadsUp x.hi w.hi (visit_factors v) now.hi → ((bound : ℕ) → AreWithin bound w → AreWithin (bound + 512 * length (visit_factors v)) now) → IsOnTheWay s x o fs us now
goes-on s x w now o e es ws fs ts us v h shows d u within =
    let l = left-after s e es h.objects ts v fs us shows in
    let all : length (all_factors h.objects) ≡ length (visit_factors v) + length (all_factors l.objects) = ap length l.split ∙ length-append (visit_factors v) (all_factors l.objects) in
    let counted = h.counted in
    let bound : 512 * suc h.done + 512 * length (visit_factors v) ≡ 512 * suc (h.done + length (visit_factors v)) = omega arith in
    record {
      objects = l.objects;
      waits = l.waits;
      come = comes x w now o h.objects l.objects (visit_factors v) l.split h.come d u;
      done = h.done + length (visit_factors v);
      counted = omega arith;
      within = subst (λ n. AreWithin n now) bound (within (512 * suc h.done) h.within);
    }

-- At the end nothing waits, and the weights are the object's.
pub ends : (s : Spec) (x w : Weights) (o : Object) (es : List ℕ) (ts : List Token) → es ≡ [] → IsOnTheWay s x o es ts w → AreWeightsOf x o w
ends s x w o es ts empty h =
    let nothing = none_waits h.objects (subst (λ gs. AreWaiting s gs h.objects ts) empty h.waits) in
    record {
      down = h.come.down w.lo (subst (λ os. LeadsDown x.lo w.lo (all_factors os) w.lo) (sym nothing) refl);
      up = h.come.up w.hi (subst (λ os. LeadsUp x.hi w.hi (all_factors os) w.hi) (sym nothing) refl);
    }
  where
    none_waits : (os : Objects) → AreWaiting s [] os ts → os ≡ none
    none_waits none k = refl
    none_waits (more o os) k = elim k.belong [ ]

-- Exponents that are near stay near where the bound grows.
pub wider : (m n : ℕ) (w : Weights) → m ≤ n → AreWithin m w → AreWithin n w
wider m n w le h = record {
  lo_scaled = h.lo_scaled;
  hi_scaled = h.hi_scaled;
  lo_near = near h.lo_near;
  hi_near = near h.hi_near;
}
  where
    near : {e : ℤ} → IsNearZero m e → IsNearZero n e
    near k = record { above = (let a = k.above in omega arith); below = (let b = k.below in omega arith) }

-- A visit of the walk goes on.
pub goes-on-walk : (s : Spec) (x w now : Weights) (o : Object) (before after : Walking) (e : ℕ) (v : Visit) → before.system ≡ s → IsVisitOfWalk before after e v → IsOnTheWay s x o before.waiting before.left w → LeadsDown x.lo w.lo (visit_factors v) now.lo → LeadsUp x.hi w.hi (visit_factors v) now.hi → ((bound : ℕ) → AreWithin bound w → AreWithin (bound + 512 * length (visit_factors v)) now) → IsOnTheWay s x o after.waiting after.left now
goes-on-walk s x w now o before after e v same visit h d u within =
    let waits = subst (λ z. AreWaiting z before.waiting h.objects before.left) (sym same) h.waits in
    let shows = subst (λ z. Shows z e visit.others h.objects before.left v after.waiting after.left) same (visit.shows h.objects waits) in
    goes-on s x w now o e visit.others before.waiting after.waiting before.left after.left v h shows d u within

-- Objects wait, so a walk on its way doesn't come to tokens of no object.
pub never-without : (s : Spec) (x w : Weights) (o : Object) (before after : Walking) → before.system ≡ s → HasNoObjects before after → ¬ (IsOnTheWay s x o before.waiting before.left w)
never-without s x w o before after same none_there h = none_there.never (record { objects = h.objects; belong = subst (λ z. BelongEach z before.waiting h.objects) (sym same) h.waits.belong; spelled = h.waits.spelled })

-- Fewer than 2^32 tokens have fewer than 2^33 factors, so the exponents are near.
pub still-near : (s : Spec) → IsSound s → (x w : Weights) (c : ℕ) (all : List Token) (of : IsOf s c all) → length all < 2 ^ 32 → (es : List ℕ) (ts : List Token) → IsOnTheWay s x of.object es ts w → AreWithin (2 ^ 50) w
still-near s sound x w c all of few es ts h =
    let factors_few = few-factors s sound of.body of.object of.belongs in
    let as_many = ap length of.spelled in
    let counted = h.counted in
    wider (512 * suc h.done) (2 ^ 50) w (omega arith) h.within
