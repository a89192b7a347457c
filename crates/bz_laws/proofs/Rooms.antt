-- The room is mere rejection: what is made with some room is made with any room that it fits, and is over in any that it doesn't.
use Rattle.std.proofs.Common.{◌≡◌, ℕ, zero, suc, ◌+◌, ◌-◌, ◌<◌, ◌≤◌, ◌⊎◌, inl, inr, List, [], ◌∷◌, ◌++◌, arith, refl, sym, ◌∙◌, ap, subst, Some, replicate}
use Rattle.std.specs.Prelude.{slice_get}
use Rattle.std.proofs.Math.Decide.{dec_le}
use Rattle.std.proofs.lemmas.List.{append_assoc}
use Rattle.bz_model.specs.Fraction.{Fraction}
use Rattle.bz_model.specs.Spec.{Spec, Node, node_at}
use Rattle.bz_model.specs.Object.{Object, Objects, none, more}
use Rattle.bz_model.specs.Measures.{size, sizes, HasZero}
use Rattle.bz_model.specs.Ideal.{IsIdealOption}
use Rattle.bz_model.specs.Making.{Made, Just, Over, AllMade, All, AllOver, wrap, wrap_all, also, IsCounted, Makes, MakesEach, MakesFreely}
use Rattle.bz_model.specs.Making as making
use Rattle.bz_laws.proofs.Options.{unique}
use Rattle.bz_laws.proofs.Products.{BelongEach}
use Rattle.bz_laws.proofs.Makings.{AreFine, fine_each}
use Rattle.bz_laws.proofs.Counted.{counted-size}

-- i objects of a part have i atoms or more, or one has none
atoms : (s : Spec) (part i : ℕ) (os : Objects) → BelongEach s (replicate i part) os → (i ≤ sizes os) ⊎ HasZero s part
atoms s part zero none b = inl (omega arith)
atoms s part zero (more o os) b = elim b [ ]
atoms s part (suc i) none b = elim b [ ]
atoms s part (suc i) (more o os) b = go (dec_le 1 (size o)) (atoms s part i os b.1)
  where
    go : Dec (1 ≤ size o) → (i ≤ sizes os) ⊎ HasZero s part → (suc i ≤ size o + sizes os) ⊎ HasZero s part
    go d (inr z) = inr z
    go (yes one) (inl le) = inl (omega arith)
    go (no n) (inl le) = inr (record { object = o; belongs = b.0; no_atom = omega (arith, n) })

abbrev Fits : (s : Spec) (x : Fraction) → ℕ → List Fraction → Made → List Fraction → Type 0
Fits s x e us (Just o r) left = (max : ℕ) → size o ≤ max → Makes s x e max us (Just o (max - size o)) left
Fits s x e us Over left = Unit {0}

abbrev FitEach : (s : Spec) (x : Fraction) → List ℕ → List Fraction → AllMade → List Fraction → Type 0
FitEach s x es us (All os r) left = (max : ℕ) → sizes os ≤ max → MakesEach s x es max us (All os (max - sizes os)) left
FitEach s x es us AllOver left = Unit {0}

fit_union : (s : Spec) (x : Fraction) (e i part : ℕ) (parts : List ℕ) (u : Fraction) (us left : List Fraction) (m : Made) → node_at s e ≡ Some (Node.Union parts) → IsIdealOption s x u e i → slice_get parts i ≡ Some part → Fits s x part us m left → Fits s x e (u ∷ us) (wrap (Object.Pick i) m) left
fit_union s x e i part parts u us left (Just o r) node ideal at f = λ max le. making.union parts i part (Just o (max - size o)) node ideal at (f max le) refl
fit_union s x e i part parts u us left Over node ideal at f = tt

fit_product : (s : Spec) (x : Fraction) (e : ℕ) (parts : List ℕ) (us left : List Fraction) (m : AllMade) → node_at s e ≡ Some (Node.Product parts) → FitEach s x parts us m left → Fits s x e us (wrap_all Object.Tuple m) left
fit_product s x e parts us left (All os r) node f = λ max le. making.product parts (All os (max - sizes os)) node (f max le) refl
fit_product s x e parts us left AllOver node f = tt

fit_counted : (s : Spec) (x : Fraction) (e i part : ℕ) (node : Node) (form : Objects → Object) (u : Fraction) (us left : List Fraction) (m : AllMade) → node_at s e ≡ Some node → IsCounted node part form → IsIdealOption s x u e i → ((os : Objects) (r : ℕ) → m ≡ All os r → (i ≤ sizes os) ⊎ HasZero s part) → FitEach s x (replicate i part) us m left → Fits s x e (u ∷ us) (wrap_all form m) left
fit_counted s x e i part node form u us left (All os r) at c ideal many f =
    let same : size (form os) ≡ sizes os = counted-size node part form os c in
    λ max le.
    let small : (i ≤ max) ⊎ HasZero s part = elim (many os r refl) [ inl k ↦ inl (omega arith) | inr z ↦ inr z ] in
    subst (λ n. Makes s x e max (u ∷ us) (Just (form os) (max - n)) left) (sym same) (making.counted node part i form (All os (max - sizes os)) at c ideal small (f max (omega arith)) refl)
fit_counted s x e i part node form u us left AllOver at c ideal many f = tt

fit_also : (s : Spec) (x : Fraction) (e : ℕ) (es : List ℕ) (o : Object) (between : ℕ) (us after left : List Fraction) (m : AllMade) → Fits s x e us (Just o between) after → FitEach s x es after m left → FitEach s x (e ∷ es) us (also o m) left
fit_also s x e es o between us after left (All os r) f g = λ max le.
    let rest : (max - size o) - sizes os ≡ max - (size o + sizes os) = omega arith in
    subst (λ n. MakesEach s x (e ∷ es) max us (All (more o os) n) left) rest (making.first o (max - size o) (All os ((max - size o) - sizes os)) (f max (omega arith)) (g (max - size o) (omega arith)) refl)
fit_also s x e es o between us after left AllOver f g = tt

mutual
  -- what is made is made with any room that it fits
  pub fits : (s : Spec) (x : Fraction) {e room : ℕ} {us left : List Fraction} {m : Made} → Makes s x e room us m left → Fits s x e us m left
  fits s x {e} {us = us} (making.empty word node) = λ max le. let all : max ≡ max - 0 = omega arith in subst (λ n. Makes s x e max us (Just Object.Unit_ n) us) all (making.empty word node)
  fits s x {e} {us = us} (making.atom word node) = λ max le. let one : suc (max - 1) ≡ max = omega arith in subst (λ n. Makes s x e n us (Just Object.Dot (max - 1)) us) one (making.atom word node)
  fits s x (making.no_room word node) = tt
  fits s x {e} {us = us} {left = left} {m = m} (making.class c body node at k) = through m (fits s x k)
    where
      through : (m : Made) → Fits s x body us m left → Fits s x e us m left
      through (Just o r) f = λ max le. making.class c body node at (f max le)
      through Over f = tt
  fits s x {e} {left = left} (making.union {u = u} {us = us} parts i part m node ideal at k eq) = subst (λ q. Fits s x e (u ∷ us) q left) (sym eq) (fit_union s x e i part parts u us left m node ideal at (fits s x k))
  fits s x {e} {us = us} {left = left} (making.product parts m node k eq) = subst (λ q. Fits s x e us q left) (sym eq) (fit_product s x e parts us left m node (fit_each s x k))
  fits s x {e} {room} {left = left} (making.counted {u = u} {us = us} node part i form m at c ideal small k eq) =
      subst (λ q. Fits s x e (u ∷ us) q left) (sym eq) (fit_counted s x e i part node form u us left m at c ideal (λ os r same. atoms s part i os (let b : AreFine s (replicate i part) room (All os r) = subst (AreFine s (replicate i part) room) same (fine_each s x k) in b.0)) (fit_each s x k))
  fits s x (making.too_many node part form at c never no_zero) = tt

  pub fit_each : (s : Spec) (x : Fraction) {es : List ℕ} {room : ℕ} {us left : List Fraction} {m : AllMade} → MakesEach s x es room us m left → FitEach s x es us m left
  fit_each s x {us = us} making.done = λ max le. let all : max ≡ max - 0 = omega arith in subst (λ n. MakesEach s x [] max us (All none n) us) all making.done
  fit_each s x {us = us} {left = left} (making.first {e = e} {es = es} {after = after} o between m h k eq) = subst (λ q. FitEach s x (e ∷ es) us q left) (sym eq) (fit_also s x e es o between us after left m (fits s x h) (fit_each s x k))
  fit_each s x (making.over h) = tt

-- the numbers left are the last ones of the list
abbrev pub IsRest : List Fraction → List Fraction → Type 0
IsRest us left = (taken : List Fraction) × (us ≡ taken ++ left)

rest-trans : (us vs ws : List Fraction) → IsRest us vs → IsRest vs ws → IsRest us ws
rest-trans us vs ws h k = (h.0 ++ k.0, h.1 ∙ ap (λ zs. h.0 ++ zs) k.1 ∙ sym (append_assoc h.0 k.0 ws))

rest-more : (u : Fraction) (us left : List Fraction) → IsRest us left → IsRest (u ∷ us) left
rest-more u us left h = (u ∷ h.0, ap (λ zs. u ∷ zs) h.1)

mutual
  pub rest : (s : Spec) (x : Fraction) {e room : ℕ} {us left : List Fraction} {m : Made} → Makes s x e room us m left → IsRest us left
  rest s x (making.empty word node) = ([], refl)
  rest s x (making.atom word node) = ([], refl)
  rest s x (making.no_room word node) = ([], refl)
  rest s x (making.class c body node at k) = rest s x k
  rest s x {left = left} (making.union {u = u} {us = us} parts i part m node ideal at k eq) = rest-more u us left (rest s x k)
  rest s x (making.product parts m node k eq) = rest_each s x k
  rest s x {left = left} (making.counted {u = u} {us = us} node part i form m at c ideal small k eq) = rest-more u us left (rest_each s x k)
  rest s x (making.too_many {u = u} node part form at c never no_zero) = (u ∷ [], refl)

  pub rest_each : (s : Spec) (x : Fraction) {es : List ℕ} {room : ℕ} {us left : List Fraction} {m : AllMade} → MakesEach s x es room us m left → IsRest us left
  rest_each s x making.done = ([], refl)
  rest_each s x {us = us} {left = left} (making.first {after = after} o between m h k eq) = rest-trans us after left (rest s x h) (rest_each s x k)
  rest_each s x (making.over h) = rest s x h

-- over in a room that it doesn't fit, on no more numbers
abbrev Exceeds : (s : Spec) (x : Fraction) → ℕ → List Fraction → Made → List Fraction → Type 0
Exceeds s x e us (Just o r) left = (max : ℕ) → max < size o → (after : List Fraction) × Makes s x e max us Over after × IsRest after left
Exceeds s x e us Over left = Unit {0}

abbrev ExceedEach : (s : Spec) (x : Fraction) → List ℕ → List Fraction → AllMade → List Fraction → Type 0
ExceedEach s x es us (All os r) left = (max : ℕ) → max < sizes os → (after : List Fraction) × MakesEach s x es max us AllOver after × IsRest after left
ExceedEach s x es us AllOver left = Unit {0}

over_union : (s : Spec) (x : Fraction) (e i part : ℕ) (parts : List ℕ) (u : Fraction) (us left : List Fraction) (m : Made) → node_at s e ≡ Some (Node.Union parts) → IsIdealOption s x u e i → slice_get parts i ≡ Some part → Exceeds s x part us m left → Exceeds s x e (u ∷ us) (wrap (Object.Pick i) m) left
over_union s x e i part parts u us left (Just o r) node ideal at f = λ max le. let g = f max le in (g.0, making.union parts i part Over node ideal at g.1 refl, g.2)
over_union s x e i part parts u us left Over node ideal at f = tt

over_product : (s : Spec) (x : Fraction) (e : ℕ) (parts : List ℕ) (us left : List Fraction) (m : AllMade) → node_at s e ≡ Some (Node.Product parts) → ExceedEach s x parts us m left → Exceeds s x e us (wrap_all Object.Tuple m) left
over_product s x e parts us left (All os r) node f = λ max le. let g = f max le in (g.0, making.product parts AllOver node g.1 refl, g.2)
over_product s x e parts us left AllOver node f = tt

over_counted : (s : Spec) (x : Fraction) (e i part : ℕ) (node : Node) (form : Objects → Object) (u : Fraction) (us left : List Fraction) (m : AllMade) → node_at s e ≡ Some node → IsCounted node part form → IsIdealOption s x u e i → Dec (HasZero s part) → IsRest us left → ExceedEach s x (replicate i part) us m left → Exceeds s x e (u ∷ us) (wrap_all form m) left
over_counted s x e i part node form u us left (All os r) at c ideal known tail f = λ max le. go max (dec_le i max) known (f max (let same : size (form os) ≡ sizes os = counted-size node part form os c in omega arith))
  where
    go : (max : ℕ) → Dec (i ≤ max) → Dec (HasZero s part) → (after : List Fraction) × MakesEach s x (replicate i part) max us AllOver after × IsRest after left → (after : List Fraction) × Makes s x e max (u ∷ us) Over after × IsRest after left
    go max (yes few) d g = (g.0, making.counted node part i form AllOver at c ideal (inl few) g.1 refl, g.2)
    go max (no many) (yes z) g = (g.0, making.counted node part i form AllOver at c ideal (inr z) g.1 refl, g.2)
    go max (no many) (no none_there) g = (us, making.too_many node part form at c (λ j le other. let same : j ≡ i = unique s x u e j i other ideal in many (omega arith)) none_there, tail)
over_counted s x e i part node form u us left AllOver at c ideal known tail f = tt

over_also : (s : Spec) (x : Fraction) (e : ℕ) (es : List ℕ) (o : Object) (between : ℕ) (us after left : List Fraction) (m : AllMade) → Fits s x e us (Just o between) after → Exceeds s x e us (Just o between) after → IsRest after left → ExceedEach s x es after m left → ExceedEach s x (e ∷ es) us (also o m) left
over_also s x e es o between us after left (All os r) fit f tail g = λ max le. go max le (dec_le (size o) max)
  where
    go : (max : ℕ) → max < size o + sizes os → Dec (size o ≤ max) → (then : List Fraction) × MakesEach s x (e ∷ es) max us AllOver then × IsRest then left
    go max le (yes small) = let q = g (max - size o) (omega arith) in (q.0, making.first o (max - size o) AllOver (fit max small) q.1 refl, q.2)
    go max le (no large) = let q = f max (omega (arith, large)) in (q.0, making.over q.1, rest-trans q.0 after left q.2 tail)
over_also s x e es o between us after left AllOver fit f tail g = tt

module _ (s : Spec) (x : Fraction) (zero_or_not : (part : ℕ) → Dec (HasZero s part)) where
  mutual
    -- what is made is over in a room that it doesn't fit, on no more numbers
    pub exceeds : {e room : ℕ} {us left : List Fraction} {m : Made} → Makes s x e room us m left → Exceeds s x e us m left
    exceeds (making.empty word node) = λ max le. absurd (omega arith)
    exceeds {e} {us = us} (making.atom word node) = λ max le. let none_left : 0 ≡ max = omega arith in (us, subst (λ n. Makes s x e n us Over us) none_left (making.no_room word node), ([], refl))
    exceeds (making.no_room word node) = tt
    exceeds {e} {us = us} {left = left} {m = m} (making.class c body node at k) = through m (exceeds k)
      where
        through : (m : Made) → Exceeds s x body us m left → Exceeds s x e us m left
        through (Just o r) f = λ max le. let g = f max le in (g.0, making.class c body node at g.1, g.2)
        through Over f = tt
    exceeds {e} {left = left} (making.union {u = u} {us = us} parts i part m node ideal at k eq) = subst (λ q. Exceeds s x e (u ∷ us) q left) (sym eq) (over_union s x e i part parts u us left m node ideal at (exceeds k))
    exceeds {e} {us = us} {left = left} (making.product parts m node k eq) = subst (λ q. Exceeds s x e us q left) (sym eq) (over_product s x e parts us left m node (exceed_each k))
    exceeds {e} {left = left} (making.counted {u = u} {us = us} node part i form m at c ideal small k eq) = subst (λ q. Exceeds s x e (u ∷ us) q left) (sym eq) (over_counted s x e i part node form u us left m at c ideal (zero_or_not part) (rest_each s x k) (exceed_each k))
    exceeds (making.too_many node part form at c never no_zero) = tt

    pub exceed_each : {es : List ℕ} {room : ℕ} {us left : List Fraction} {m : AllMade} → MakesEach s x es room us m left → ExceedEach s x es us m left
    exceed_each making.done = λ max le. absurd (omega arith)
    exceed_each {us = us} {left = left} (making.first {e = e} {es = es} {after = after} o between m h k eq) = subst (λ q. ExceedEach s x (e ∷ es) us q left) (sym eq) (over_also s x e es o between us after left m (fits s x h) (exceeds h) (rest_each s x k) (exceed_each k))
    exceed_each (making.over h) = tt

decided : {A : Type 0} → A ⊎ (¬ A) → Dec A
decided (inl a) = yes a
decided (inr n) = no n

-- Where it is decided which nodes have an object of size 0, a node that freely makes an object
-- above size max is over at room max, with no fewer numbers left.
pub exceeds_by : (s : Spec) (x : Fraction) (e max : ℕ) (us left : List Fraction) (o : Object) → ((part : ℕ) → HasZero s part ⊎ (¬ (HasZero s part))) → MakesFreely s x e us o left → max < size o → (taken : List Fraction) × Makes s x e max us Over (taken ++ left)
exceeds_by s x e max us left o known h le =
    let r = exceeds s x (λ p. decided (known p)) h.made max le in
    (r.2.0, subst (λ vs. Makes s x e max us Over vs) r.2.1 r.1)
