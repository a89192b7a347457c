-- Making without a limit of room is making with some room.
use Rattle.std.proofs.Common.{◌≡◌, ℕ, suc, ◌+◌, ◌-◌, ◌≤◌, inl, List, [], ◌∷◌, arith, refl, sym, subst, Some, replicate}
use Rattle.std.specs.Prelude.{slice_get}
use Rattle.bz_model.specs.Fraction.{Fraction}
use Rattle.bz_model.specs.Spec.{Spec, Node, node_at}
use Rattle.bz_model.specs.Object.{Object, Objects, none, more}
use Rattle.bz_model.specs.Measures.{size, sizes}
use Rattle.bz_model.specs.Ideal.{IsIdealOption}
use Rattle.bz_model.specs.Making.{Made, Just, Over, AllMade, All, AllOver, wrap, wrap_all, also, IsCounted, Makes, MakesEach, MakesFreely}
use Rattle.bz_model.specs.Making as making
use Rattle.bz_laws.specs.WithoutRoom.{MakesAlone, MakeAllAlone}
use Rattle.bz_laws.specs.WithoutRoom as alone
use Rattle.bz_laws.proofs.Counted.{counted-size}
use Rattle.bz_laws.proofs.Outcomes.{one_outcome}

-- the object is made from any room that is enough
record Enough (s : Spec) (x : Fraction) (e : ℕ) (us : List Fraction) (o : Object) (left : List Fraction) : Type 0 where
  need : ℕ
  made : (room : ℕ) → need ≤ room → Makes s x e room us (Just o (room - size o)) left

record EnoughEach (s : Spec) (x : Fraction) (es : List ℕ) (us : List Fraction) (os : Objects) (left : List Fraction) : Type 0 where
  need : ℕ
  made : (room : ℕ) → need ≤ room → MakesEach s x es room us (All os (room - sizes os)) left

same-object : (o p : Object) (r q : ℕ) → Just o r ≡ Just p q → o ≡ p
same-object o p r q e = cc

module _ (s : Spec) (x : Fraction) where
  enough-first : (e : ℕ) (es : List ℕ) (o : Object) (os : Objects) (us after left : List Fraction) → Enough s x e us o after → EnoughEach s x es after os left → EnoughEach s x (e ∷ es) us (more o os) left
  enough-first e es o os us after left h k = record {
    need = h.need + (size o + k.need);
    made = λ room le.
        let rest : (room - size o) - sizes os ≡ room - (size o + sizes os) = omega arith in
        subst (λ n. MakesEach s x (e ∷ es) room us (All (more o os) n) left) rest
        (making.first o (room - size o) (All os ((room - size o) - sizes os)) (h.made room (omega arith)) (k.made (room - size o) (omega arith)) refl);
  }

  enough-counted : (e i part : ℕ) (node : Node) (form : Objects → Object) (os : Objects) (u : Fraction) (us left : List Fraction) → node_at s e ≡ Some node → IsCounted node part form → IsIdealOption s x u e i → EnoughEach s x (replicate i part) us os left → Enough s x e (u ∷ us) (form os) left
  enough-counted e i part node form os u us left at c ideal k = record {
    need = i + k.need;
    made = λ room le.
        subst (λ n. Makes s x e room (u ∷ us) (Just (form os) (room - n)) left) (sym (counted-size node part form os c))
        (making.counted node part i form (All os (room - sizes os)) at c ideal (inl (omega arith)) (k.made room (omega arith)) refl);
  }

  mutual
    enough : {e : ℕ} {us left : List Fraction} {o : Object} → MakesAlone s x e us o left → Enough s x e us o left
    enough {e} {us} (alone.empty word node) = record {
      need = 0;
      made = λ room le. let all : room ≡ room - 0 = omega arith in subst (λ n. Makes s x e room us (Just Object.Unit_ n) us) all (making.empty word node);
    }
    enough {e} {us} (alone.atom word node) = record {
      need = 1;
      made = λ room le. let one : suc (room - 1) ≡ room = omega arith in subst (λ n. Makes s x e n us (Just Object.Dot (room - 1)) us) one (making.atom word node);
    }
    enough (alone.class c body node at k) = let h = enough k in record { need = h.need; made = λ room le. making.class c body node at (h.made room le) }
    enough {e} {left = left} (alone.union {u = u} {us = us} parts i part o node ideal at k eq) =
        let h = enough k in
        subst (λ q. Enough s x e (u ∷ us) q left) (sym eq) (record { need = h.need; made = λ room le. making.union parts i part (Just o (room - size o)) node ideal at (h.made room le) refl })
    enough {e} {us} {left} (alone.product parts os node k eq) =
        let h = enough-each k in
        subst (λ q. Enough s x e us q left) (sym eq) (record { need = h.need; made = λ room le. making.product parts (All os (room - sizes os)) node (h.made room le) refl })
    enough {e} {left = left} (alone.counted {u = u} {us = us} node part i form os at c ideal k eq) =
        subst (λ q. Enough s x e (u ∷ us) q left) (sym eq) (enough-counted e i part node form os u us left at c ideal (enough-each k))

    enough-each : {es : List ℕ} {us left : List Fraction} {os : Objects} → MakeAllAlone s x es us os left → EnoughEach s x es us os left
    enough-each {us = us} alone.done = record {
      need = 0;
      made = λ room le. let all : room ≡ room - 0 = omega arith in subst (λ n. MakesEach s x [] room us (All none n) us) all making.done;
    }
    enough-each {us = us} {left = left} (alone.first {e = e} {es = es} {after = after} o os h k eq) =
        subst (λ q. EnoughEach s x (e ∷ es) us q left) (sym eq) (enough-first e es o os us after left (enough h) (enough-each k))

  -- what is made without a limit of room is made with some room
  pub alone-freely : {e : ℕ} {us left : List Fraction} {o : Object} → MakesAlone s x e us o left → MakesFreely s x e us o left
  alone-freely {o = o} h = let k = enough h in record { room = k.need; room_left = k.need - size o; made = k.made k.need (omega arith) }

  -- what is made with some room, but for the room
  abbrev Alone : ℕ → List Fraction → Made → List Fraction → Type 0
  Alone e us (Just o r) left = MakesAlone s x e us o left
  Alone e us Over left = Unit {0}

  abbrev AllAlone : List ℕ → List Fraction → AllMade → List Fraction → Type 0
  AllAlone es us (All os r) left = MakeAllAlone s x es us os left
  AllAlone es us AllOver left = Unit {0}

  alone-union : (e i part : ℕ) (parts : List ℕ) (u : Fraction) (us left : List Fraction) (m : Made) → node_at s e ≡ Some (Node.Union parts) → IsIdealOption s x u e i → slice_get parts i ≡ Some part → Alone part us m left → Alone e (u ∷ us) (wrap (Object.Pick i) m) left
  alone-union e i part parts u us left (Just o r) node ideal at k = alone.union parts i part o node ideal at k refl
  alone-union e i part parts u us left Over node ideal at k = tt

  alone-product : (e : ℕ) (parts : List ℕ) (us left : List Fraction) (m : AllMade) → node_at s e ≡ Some (Node.Product parts) → AllAlone parts us m left → Alone e us (wrap_all Object.Tuple m) left
  alone-product e parts us left (All os r) node k = alone.product parts os node k refl
  alone-product e parts us left AllOver node k = tt

  alone-counted : (e i part : ℕ) (node : Node) (form : Objects → Object) (u : Fraction) (us left : List Fraction) (m : AllMade) → node_at s e ≡ Some node → IsCounted node part form → IsIdealOption s x u e i → AllAlone (replicate i part) us m left → Alone e (u ∷ us) (wrap_all form m) left
  alone-counted e i part node form u us left (All os r) at c ideal k = alone.counted node part i form os at c ideal k refl
  alone-counted e i part node form u us left AllOver at c ideal k = tt

  alone-also : (e : ℕ) (es : List ℕ) (o : Object) (us after left : List Fraction) (m : AllMade) → MakesAlone s x e us o after → AllAlone es after m left → AllAlone (e ∷ es) us (also o m) left
  alone-also e es o us after left (All os r) h k = alone.first o os h k refl
  alone-also e es o us after left AllOver h k = tt

  mutual
    made-alone : {e room : ℕ} {us left : List Fraction} {m : Made} → Makes s x e room us m left → Alone e us m left
    made-alone (making.empty word node) = alone.empty word node
    made-alone (making.atom word node) = alone.atom word node
    made-alone (making.no_room word node) = tt
    made-alone {e} {us = us} {left = left} {m = m} (making.class c body node at k) = through m (made-alone k)
      where
        through : (m : Made) → Alone body us m left → Alone e us m left
        through (Just o r) h = alone.class c body node at h
        through Over h = tt
    made-alone {e} {left = left} (making.union {u = u} {us = us} parts i part m node ideal at k eq) = subst (λ q. Alone e (u ∷ us) q left) (sym eq) (alone-union e i part parts u us left m node ideal at (made-alone k))
    made-alone {e} {us = us} {left = left} (making.product parts m node k eq) = subst (λ q. Alone e us q left) (sym eq) (alone-product e parts us left m node (made-all_alone k))
    made-alone {e} {left = left} (making.counted {u = u} {us = us} node part i form m at c ideal small k eq) = subst (λ q. Alone e (u ∷ us) q left) (sym eq) (alone-counted e i part node form u us left m at c ideal (made-all_alone k))
    made-alone (making.too_many node part form at c never no_zero) = tt

    made-all_alone : {es : List ℕ} {room : ℕ} {us left : List Fraction} {m : AllMade} → MakesEach s x es room us m left → AllAlone es us m left
    made-all_alone making.done = alone.done
    made-all_alone {us = us} {left = left} (making.first {e = e} {es = es} {after = after} o between m h k eq) = subst (λ q. AllAlone (e ∷ es) us q left) (sym eq) (alone-also e es o us after left m (made-alone h) (made-all_alone k))
    made-all_alone (making.over h) = tt

  -- what is made with some room is made without a limit of room
  pub freely-alone : {e : ℕ} {us left : List Fraction} {o : Object} → MakesFreely s x e us o left → MakesAlone s x e us o left
  freely-alone h = made-alone h.made

  -- a list of numbers makes at most one object without a limit of room
  pub alone-one : {e : ℕ} {us left rest : List Fraction} {o p : Object} → MakesAlone s x e us o left → MakesAlone s x e us p rest → (o ≡ p) × (left ≡ rest)
  alone-one {o = o} {p = p} h k =
      let a = enough h in
      let b = enough k in
      let room = a.need + b.need in
      let r = one_outcome s x (a.made room (omega arith)) (b.made room (omega arith)) in
      (same-object o p (room - size o) (room - size p) r.0, r.1)
