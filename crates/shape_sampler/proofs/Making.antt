-- What several nodes make, taken apart: the first node and the others, or the first nodes and the others.
use Rattle.std.proofs.Common.{◌≡◌, ◌⊎◌, inl, inr, ℕ, zero, suc, List, [], ◌∷◌, ◌++◌, refl, ◌∙◌, ap, subst, replicate}
use Rattle.bz_model.specs.Fraction.{Fraction}
use Rattle.bz_model.specs.Spec.{Spec}
use Rattle.bz_model.specs.Object.{Object, Objects, none, more, count}
use Rattle.bz_model.specs.Making.{Made, Just, Over, AllMade, All, AllOver, Makes, MakesEach, also}
use Rattle.bz_model.specs.Making as making
use Rattle.object_store.proofs.NextToken.{joined}

-- The first of several made an object, and the others made theirs from what it left.
pub record Leading (s : Spec) (x : Fraction) (e : ℕ) (es : List ℕ) (room : ℕ) (us : List Fraction) (os : Objects) (r : ℕ) (left : List Fraction) : Type 0 where
  pub object : Object
  pub others : Objects
  pub between : ℕ
  pub after : List Fraction
  pub head : Makes s x e room us (Just object between) after
  pub tail : MakesEach s x es between after (All others r) left
  pub split : os ≡ more object others

-- The first nodes made their objects, and the others theirs from what these left.
pub record Parted (s : Spec) (x : Fraction) (es fs : List ℕ) (room : ℕ) (us : List Fraction) (os : Objects) (r : ℕ) (left : List Fraction) : Type 0 where
  pub front : Objects
  pub back : Objects
  pub between : ℕ
  pub after : List Fraction
  pub head : MakesEach s x es room us (All front between) after
  pub tail : MakesEach s x fs between after (All back r) left
  pub split : os ≡ joined front back

-- The first made an object, and one of the others is over.
pub record OverNext (s : Spec) (x : Fraction) (e : ℕ) (es : List ℕ) (room : ℕ) (us left : List Fraction) : Type 0 where
  pub object : Object
  pub between : ℕ
  pub after : List Fraction
  pub head : Makes s x e room us (Just object between) after
  pub tail : MakesEach s x es between after AllOver left

-- One of the others is over, after the first nodes made their objects.
pub record OverLater (s : Spec) (x : Fraction) (es fs : List ℕ) (room : ℕ) (us left : List Fraction) : Type 0 where
  pub front : Objects
  pub between : ℕ
  pub after : List Fraction
  pub head : MakesEach s x es room us (All front between) after
  pub tail : MakesEach s x fs between after AllOver left

module _ (s : Spec) (x : Fraction) where
  leading_of : {e : ℕ} {es : List ℕ} {room : ℕ} {us left : List Fraction} (m : AllMade) → MakesEach s x (e ∷ es) room us m left → (os : Objects) (r : ℕ) → m ≡ All os r → Leading s x e es room us os r left
  leading_of {es = es} {left = left} m (making.first {after = after} o between (All others r') h t q) os r eq = record {
    object = o;
    others = others;
    between = between;
    after = after;
    head = h;
    tail = let e : r' ≡ r = cc in subst (λ k. MakesEach s x es between after (All others k) left) e t;
    split = cc;
  }
  leading_of m (making.first o between AllOver h t q) os r eq = absurd (cc)
  leading_of m (making.over h) os r eq = absurd (cc)

  pub leading : {e : ℕ} {es : List ℕ} {room : ℕ} {us left : List Fraction} {os : Objects} {r : ℕ} → MakesEach s x (e ∷ es) room us (All os r) left → Leading s x e es room us os r left
  leading {os = os} {r = r} k = leading_of (All os r) k os r refl

  -- nothing is made of no node
  pub record Nothing (room : ℕ) (us : List Fraction) (os : Objects) (r : ℕ) (left : List Fraction) : Type 0 where
    pub objects : os ≡ none
    pub same_room : room ≡ r
    pub same_numbers : us ≡ left

  nothing_of : {room : ℕ} {us left : List Fraction} (m : AllMade) → MakesEach s x [] room us m left → (os : Objects) (r : ℕ) → m ≡ All os r → Nothing room us os r left
  nothing_of m making.done os r eq = record { objects = cc; same_room = cc; same_numbers = refl }

  pub nothing : {room : ℕ} {us left : List Fraction} {os : Objects} {r : ℕ} → MakesEach s x [] room us (All os r) left → Nothing room us os r left
  nothing {os = os} {r = r} k = nothing_of (All os r) k os r refl

  never_over_of : {room : ℕ} {us left : List Fraction} (m : AllMade) → MakesEach s x [] room us m left → m ≡ AllOver → ⊥
  never_over_of m making.done eq = cc

  pub never_over : {room : ℕ} {us left : List Fraction} → ¬ (MakesEach s x [] room us AllOver left)
  never_over k = never_over_of AllOver k refl

  over_cases_of : {e : ℕ} {es : List ℕ} {room : ℕ} {us left : List Fraction} (m : AllMade) → MakesEach s x (e ∷ es) room us m left → m ≡ AllOver → Makes s x e room us Over left ⊎ OverNext s x e es room us left
  over_cases_of m (making.over h) eq = inl h
  over_cases_of m (making.first {after = after} o between AllOver h t q) eq = inr (record { object = o; between = between; after = after; head = h; tail = t })
  over_cases_of m (making.first o between (All os r) h t q) eq = absurd (cc)

  -- over in the first, or in a later one
  pub over_cases : {e : ℕ} {es : List ℕ} {room : ℕ} {us left : List Fraction} → MakesEach s x (e ∷ es) room us AllOver left → Makes s x e room us Over left ⊎ OverNext s x e es room us left
  over_cases k = over_cases_of AllOver k refl

  pub parted : (es fs : List ℕ) {room : ℕ} {us left : List Fraction} {os : Objects} {r : ℕ} → MakesEach s x (es ++ fs) room us (All os r) left → Parted s x es fs room us os r left
  parted [] fs {room} {us} {os = os} k = record { front = none; back = os; between = room; after = us; head = making.done; tail = k; split = refl }
  parted (e ∷ es) fs k =
      let l = leading k in
      let p = parted es fs l.tail in
      record {
        front = more l.object p.front;
        back = p.back;
        between = p.between;
        after = p.after;
        head = making.first l.object l.between (All p.front p.between) l.head p.head refl;
        tail = p.tail;
        split = l.split ∙ ap (more l.object) p.split;
      }

  -- over in the first ones, or in the others
  pub over_parted : (es fs : List ℕ) {room : ℕ} {us left : List Fraction} → MakesEach s x (es ++ fs) room us AllOver left → MakesEach s x es room us AllOver left ⊎ OverLater s x es fs room us left
  over_parted [] fs {room} {us} k = inr (record { front = none; between = room; after = us; head = making.done; tail = k })
  over_parted (e ∷ es) fs {room} {us} {left} k = elim (over_cases k) [ inl h ↦ inl (making.over h) | inr n ↦ later n (over_parted es fs n.tail) ]
    where
      later : (n : OverNext s x e (es ++ fs) room us left) → MakesEach s x es n.between n.after AllOver left ⊎ OverLater s x es fs n.between n.after left → MakesEach s x (e ∷ es) room us AllOver left ⊎ OverLater s x (e ∷ es) fs room us left
      later n (inl o) = inl (making.first n.object n.between AllOver n.head o refl)
      later n (inr o) = inr (record { front = more n.object o.front; between = o.between; after = o.after; head = making.first n.object n.between (All o.front o.between) n.head o.head refl; tail = o.tail })

  -- as many objects are made as there are nodes
  pub count-made : (i part : ℕ) {room : ℕ} {us left : List Fraction} {os : Objects} {r : ℕ} → MakesEach s x (replicate i part) room us (All os r) left → count os ≡ i
  count-made zero part k = let n = nothing k in ap count n.objects
  count-made (suc i) part k = let l = leading k in ap count l.split ∙ ap suc (count-made i part l.tail)
