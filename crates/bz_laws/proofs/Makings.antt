-- What is made: the ideal option is one that an object has, the made object belongs to the node, and the room falls by its size.
use Rattle.std.proofs.Common.{◌≡◌, ℕ, zero, suc, ◌+◌, ◌<◌, ◌≤◌, ◌⊎◌, inl, inr, List, [], ◌∷◌, arith, refl, sym, subst, replicate}
use Rattle.std.specs.List.{AllByRecursion}
use Rattle.std.proofs.Math.Decide.{dec_le}
use Rattle.bz_model.specs.Fraction.{Fraction, AtMost, plus, times, whole, one_in}
use Rattle.bz_model.specs.Spec.{Spec, range_at, node_of, range_of, IsInRange}
use Rattle.bz_model.specs.Object.{Object, Objects, count, Has, ClassHas, Belongs}
use Rattle.bz_model.specs.Measures.{size, sizes}
use Rattle.bz_model.specs.Totals.{IsSample, total}
use Rattle.bz_model.specs.Ideal.{option_of, Before, Upto, IsIdealOption, IsGreatestOption}
use Rattle.bz_model.specs.Making.{Made, Just, Over, AllMade, All, AllOver, wrap, wrap_all, also, IsCounted, Makes, MakesEach}
use Rattle.bz_model.specs.Making as making
use Rattle.bz_laws.proofs.Unions.{into-union}
use Rattle.bz_laws.proofs.Leaves.{class-into}
use Rattle.bz_laws.proofs.Products.{BelongEach, into-product, each-together}
use Rattle.bz_laws.proofs.Counted.{counted-range, counted-size, into-counted, each-all}

-- an object of the node with this option
pub record HasOption (s : Spec) (e i : ℕ) : Type 0 where
  pub object : Object
  pub belongs : Belongs s e object
  pub option : option_of object ≡ i

-- a list up to an option has that option, or is up to the one before
find : (s : Spec) (e i : ℕ) (os : List Object) → AllByRecursion (Upto s e (suc i)) os → HasOption s e (suc i) ⊎ AllByRecursion (Upto s e i) os
find s e i [] h = inr tt
find s e i (o ∷ os) h = go (dec_le (option_of o) i) (find s e i os h.1)
  where
    go : Dec (option_of o ≤ i) → HasOption s e (suc i) ⊎ AllByRecursion (Upto s e i) os → HasOption s e (suc i) ⊎ AllByRecursion (Upto s e i) (o ∷ os)
    go d (inl r) = inl r
    go (yes le) (inr r) = inr ((h.0.0, le), r)
    go (no n) (inr r) = let up = h.0.1 in inl (record { object = o; belongs = h.0.0; option = omega (arith, n) })

first_option : (s : Spec) (x u : Fraction) (e : ℕ) → Before s x u e 0 → HasOption s e 0
first_option s x u e b = go b.list b.sample (b.reached [] (record { distinct = tt; each = tt }))
  where
    go : (os : List Object) → IsSample (Upto s e 0) os → AtMost (plus (times u (whole 0)) (one_in b.gap b.gap_pos)) (total x os) → HasOption s e 0
    go [] k h = absurd (let c = h.cross in let p = u.positive in omega arith)
    go (o ∷ os) k h = let up = k.each.0.1 in record { object = o; belongs = k.each.0.0; option = omega arith }

-- an ideal option is one that an object of the node has
pub ideal-taken : (s : Spec) (x u : Fraction) (e i : ℕ) → IsIdealOption s x u e i → HasOption s e i
ideal-taken s x u e i h = go i h.none_before h.here
  where
    go : (i : ℕ) → ((j : ℕ) → j < i → ¬ (Before s x u e j)) → Before s x u e i ⊎ IsGreatestOption s e i → HasOption s e i
    go i never (inr g) = record { object = g.witness; belongs = g.belongs; option = g.option }
    go zero never (inl b) = first_option s x u e b
    go (suc i) never (inl b) = elim (find s e i b.list b.sample.each) [
      | inl r ↦ r
      | inr r ↦ absurd (never i (omega arith) (record { list = b.list; sample = record { distinct = b.sample.distinct; each = r }; gap = b.gap; gap_pos = b.gap_pos; reached = b.reached }))
    ]

-- what was made belongs to the node, and the room fell by its size
abbrev pub IsFine : Spec → ℕ → ℕ → Made → Type 0
IsFine s e room (Just o left) = Belongs s e o × (left + size o ≡ room)
IsFine s e room Over = Unit {0}

abbrev pub AreFine : Spec → List ℕ → ℕ → AllMade → Type 0
AreFine s es room (All os left) = BelongEach s es os × (left + sizes os ≡ room)
AreFine s es room AllOver = Unit {0}

wrapped : (s : Spec) (e part room i : ℕ) (m : Made) → ((o : Object) → Belongs s part o → Belongs s e (Object.Pick i o)) → IsFine s part room m → IsFine s e room (wrap (Object.Pick i) m)
wrapped s e part room i (Just o left) into h = (into o h.0, h.1)
wrapped s e part room i Over into h = tt

wrapped_all : (s : Spec) (e : ℕ) (es : List ℕ) (room : ℕ) (form : Objects → Object) (m : AllMade) → ((os : Objects) → BelongEach s es os → Belongs s e (form os)) → ((os : Objects) → size (form os) ≡ sizes os) → AreFine s es room m → IsFine s e room (wrap_all form m)
wrapped_all s e es room form (All os left) into same h = (into os h.0, let q = same os in let k : left + sizes os ≡ room = h.1 in omega arith)
wrapped_all s e es room form AllOver into same h = tt

also_fine : (s : Spec) (e : ℕ) (es : List ℕ) (room between : ℕ) (o : Object) (m : AllMade) → IsFine s e room (Just o between) → AreFine s es between m → AreFine s (e ∷ es) room (also o m)
also_fine s e es room between o (All os left) h k = ((h.0, k.0), let a : between + size o ≡ room = h.1 in let b : left + sizes os ≡ between = k.1 in omega arith)
also_fine s e es room between o AllOver h k = tt

mutual
  pub fine : (s : Spec) (x : Fraction) {e room : ℕ} {us left : List Fraction} {m : Made} → Makes s x e room us m left → IsFine s e room m
  fine s x {e} {room} (making.empty word node) = ((0, subst (λ n. Has s (ClassHas s 0) n (range_at s e) Object.Unit_) (sym node) tt), omega arith)
  fine s x {e} (making.atom word node) = ((0, subst (λ n. Has s (ClassHas s 0) n (range_at s e) Object.Dot) (sym node) tt), omega arith)
  fine s x (making.no_room word node) = tt
  fine s x {e} {room} {m = m} (making.class c body node at k) = through m (fine s x k)
    where
      through : (m : Made) → IsFine s body room m → IsFine s e room m
      through (Just o left) h = (class-into s e c body node at o h.0, h.1)
      through Over h = tt
  fine s x {e} {room} (making.union parts i part m node ideal at k eq) = subst (IsFine s e room) (sym eq) (wrapped s e part room i m (λ o b. into-union s e parts node i o (subst (λ p. (h : ℕ) × Has s (ClassHas s h) (node_of s p) (range_of s p) o) (sym at) b)) (fine s x k))
  fine s x {e} {room} (making.product parts m node k eq) = subst (IsFine s e room) (sym eq) (wrapped_all s e parts room Object.Tuple m (into-product s e parts node) (λ os. refl) (fine_each s x k))
  fine s x {e} {room} (making.counted {u = u} node part i form m at c ideal small k eq) = subst (IsFine s e room) (sym eq) (wrapped_all s e (replicate i part) room form m into (λ os. counted-size node part form os c) (fine_each s x k))
    where
      within : IsInRange i (range_at s e)
      within =
          let t = ideal-taken s x u e i ideal in
          let h = counted-range s (ClassHas s t.belongs.0) node part form (range_at s e) t.object c (subst (λ n. Has s (ClassHas s t.belongs.0) n (range_at s e) t.object) at t.belongs.1) in
          subst (λ j. IsInRange j (range_at s e)) t.option h

      into : (os : Objects) → BelongEach s (replicate i part) os → Belongs s e (form os)
      into os b =
          let r = each-together s (replicate i part) os b in
          let q = each-all s (ClassHas s r.0) part i os r.1 in
          let n : IsInRange (count os) (range_at s e) = subst (λ j. IsInRange j (range_at s e)) (sym q.1) within in
          (r.0, subst (λ n. Has s (ClassHas s r.0) n (range_at s e) (form os)) (sym at) (into-counted s (ClassHas s r.0) node part form (range_at s e) os c n q.0))
  fine s x (making.too_many node part form at c never no_zero) = tt

  pub fine_each : (s : Spec) (x : Fraction) {es : List ℕ} {room : ℕ} {us left : List Fraction} {m : AllMade} → MakesEach s x es room us m left → AreFine s es room m
  fine_each s x making.done = (tt, omega arith)
  fine_each s x {room = room} (making.first {e = e} {es = es} o between m h k eq) = subst (AreFine s (e ∷ es) room) (sym eq) (also_fine s e es room between o m (fine s x h) (fine_each s x k))
  fine_each s x (making.over h) = tt
