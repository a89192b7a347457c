-- An object has fewer than twice as many factors as it has tokens.
use Rattle.std.proofs.Common.{◌≡◌, ℕ, zero, suc, ◌+◌, ◌-◌, ◌*◌, ◌≤◌, ◌<◌, List, [], ◌∷◌, length, arith, refl, ap, length-append, Option, Some, None, slice_get}
use Rattle.bz_model.specs.Spec.{Spec, Node, Range, node_at, range_at, node_of, range_of, body_of}
use Rattle.bz_model.specs.Object.{Object, Objects, none, more, count, Has, HaveEach, HaveAll, ClassHas, Belongs}
use Rattle.bz_model.specs.Object.Object.{Unit_, Dot, Pick, Tuple, SeqOf, SetOf, CycOf}
use Rattle.class_system.specs.Sound.{IsSound}
use Rattle.object_store.specs.Tokens.{tokens_of, tokens_all}
use Rattle.chance_law.specs.Factors.{Factor, factors, all_factors, over_two_to}

-- A set of k parts divides fewer than k times, or not at all.
pub length-over : (k : ℕ) → length (over_two_to k) ≡ k - 1
length-over zero = refl
length-over (suc zero) = refl
length-over (suc (suc k)) = let e = length-over (suc k) in let l = length-append (over_two_to (suc k)) (Factor.Over (suc (suc k)) ∷ []) in omega (arith, l)

-- One object has fewer factors than twice its tokens.
pub record IsFew (o : Object) : Type 0 where
  pub few : length (factors o) < 2 * length (tokens_of o)

-- Some objects together: with one more for each.
pub record AreFew (os : Objects) : Type 0 where
  pub few : length (all_factors os) + count os ≤ 2 * length (tokens_all os)

few-none : AreFew none
few-none = record { few = omega arith }

few-more : (o : Object) (os : Objects) → IsFew o → AreFew os → AreFew (more o os)
few-more o os h k =
    let a = h.few in
    let b = k.few in
    let f = length-append (factors o) (all_factors os) in
    let t = length-append (tokens_of o) (tokens_all os) in
    record { few = omega (arith, f, t) }

few-set : (os : Objects) → AreFew os → IsFew (SetOf os)
few-set os h =
    let a = h.few in
    let l = length-over (count os) in
    let f = length-append (over_two_to (count os)) (all_factors os) in
    record { few = omega (arith, l, f) }

module _ (s : Spec) (R : ℕ → Object → Type 0) (classes : (c : ℕ) (o : Object) → R c o → IsFew o) (some_part : (e : ℕ) (parts : List ℕ) → node_at s e ≡ Some (Node.Product parts) → 1 ≤ length parts) where
  part-of : (e : Option ℕ) (parts : List ℕ) → node_of s e ≡ Some (Node.Product parts) → 1 ≤ length parts
  part-of (Some e) parts at = some_part e parts at
  part-of None parts at = absurd (cc)

  as-many : (parts : List ℕ) (os : Objects) → HaveEach s R parts os → count os ≡ length parts
  as-many [] none h = refl
  as-many (p ∷ parts) (more o os) h = ap suc (as-many parts os h.1)
  as-many _ _ h = elim h [ ]

  mutual
    pub few-of : (n : Option Node) (r : Option Range) → ((parts : List ℕ) → n ≡ Some (Node.Product parts) → 1 ≤ length parts) → (o : Object) → Has s R n r o → IsFew o
    few-of (Some (Node.Class c)) r some o h = classes c o h
    few-of (Some (Node.Empty w)) r some Unit_ h = record { few = omega arith }
    few-of (Some (Node.Atom w)) r some Dot h = record { few = omega arith }
    few-of (Some (Node.Union parts)) r some (Pick i o) h = let a = (few-of (node_of s (slice_get parts i)) (range_of s (slice_get parts i)) (part-of (slice_get parts i)) o h).few in record { few = omega arith }
    few-of (Some (Node.Product parts)) r some (Tuple os) h = let a = (few-each parts os h).few in let b = as-many parts os h in let d = some parts refl in record { few = omega arith }
    few-of (Some (Node.Seq part)) r some (SeqOf os) h = let a = (few-all part os h.1).few in record { few = omega arith }
    few-of (Some (Node.Set part)) r some (SetOf os) h = few-set os (few-all part os h.1)
    few-of (Some (Node.Cyc part)) r some (CycOf os) h = let a = (few-all part os h.1).few in record { few = omega arith }
    few-of _ r some _ h = elim h [ ]

    few-each : (parts : List ℕ) (os : Objects) → HaveEach s R parts os → AreFew os
    few-each [] none h = few-none
    few-each (p ∷ parts) (more o os) h = few-more o os (few-of (node_at s p) (range_at s p) (some_part p) o h.0) (few-each parts os h.1)
    few-each _ _ h = elim h [ ]

    few-all : (part : ℕ) (os : Objects) → HaveAll s R part os → AreFew os
    few-all part none h = few-none
    few-all part (more o os) h = few-more o os (few-of (node_at s part) (range_at s part) (some_part part) o h.0) (few-all part os h.1)

module _ (s : Spec) (sound : IsSound s) where
  some_part : (e : ℕ) (parts : List ℕ) → node_at s e ≡ Some (Node.Product parts) → 1 ≤ length parts
  some_part e parts at = let two : 2 ≤ length parts = sound.parts.at e (Node.Product parts) at in omega arith

  of-none : (e : Option ℕ) (parts : List ℕ) → node_of s e ≡ Some (Node.Product parts) → 1 ≤ length parts
  of-none (Some e) parts at = some_part e parts at
  of-none None parts at = absurd (cc)

  class-few : (h c : ℕ) (o : Object) → ClassHas s h c o → IsFew o
  class-few zero c o k = elim k [ ]
  class-few (suc h) c o k = few-of s (ClassHas s h) (class-few h) some_part (node_of s (body_of s c)) (range_of s (body_of s c)) (of-none (body_of s c)) o k

  -- An object of a class has fewer factors than twice its tokens.
  pub few-factors : (e : ℕ) (o : Object) → Belongs s e o → length (factors o) < 2 * length (tokens_of o)
  few-factors e o b = (few-of s (ClassHas s b.0) (class-few b.0) some_part (node_at s e) (range_at s e) (some_part e) o b.1).few
