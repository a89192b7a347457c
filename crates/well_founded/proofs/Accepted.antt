-- What the rule accepts is well founded.
use Rattle.std.proofs.Common.{◌≡◌, ℕ, zero, suc, ◌+◌, ◌*◌, ◌<◌, ◌≤◌, ◌⊎◌, inl, inr, List, [], ◌∷◌, ◌++◌, length, Option, Some, None, arith, refl, sym, ap, ◌∙◌, subst, append_assoc}
use Rattle.std.specs.List.{slice_get}
use Rattle.std.proofs.lemmas.Option.{slice_get_within}
use Rattle.std.proofs.lemmas.Bool.{cases_lt}
use Rattle.std.proofs.Math.Nat.{mul-le-mul_right}
use Rattle.bz_model.specs.Spec.{Spec, Node, Range, node_at, body_of, IsInRange, IsWithinHigh}
use Rattle.bz_model.specs.Object.{Object, Objects, none, more, count}
use Rattle.bz_model.specs.Measures.{size, sizes, tree_nodes, all_nodes}
use Rattle.bz_model.specs.WellFounded.{IsWellFounded}
use Rattle.well_founded.specs.Foundedness.{Counts, IsCountedOf, IsPartOfNode, Least, HasEmpty, Under, HasSome, RepeatsZero, LeadsRound}
use Rattle.well_founded.proofs.Orderly.{IsOrderly, IsFew}
use Rattle.well_founded.proofs.Having.{Of, OfEach, OfAll, of-belongs}
use Rattle.well_founded.proofs.Least.{size-form, tree_nodes-form, least, least-each, some-belongs}
use Rattle.well_founded.proofs.Growth.{join, sizes-join, of-join}
use Rattle.well_founded.proofs.Chains.{Chain, chain-down, chain-into, chain-short}

-- Nothing is refused: each class has an object by the rule, and there is no such node and no such loop.
pub record IsAccepted (s : Spec) : Type 0 where
  pub objects : (c body : ℕ) → body_of s c ≡ Some body → HasSome s body
  pub parts : (e : ℕ) → ¬ (RepeatsZero s e)
  pub loops : (c : ℕ) → ¬ (LeadsRound s c)

-- all objects of size below n have at most so many nodes
record Cap (s : Spec) (n : ℕ) : Type 0 where
  bound : ℕ
  holds : (e : ℕ) (o : Object) → Of s e o → size o < n → tree_nodes o ≤ bound

-- so have the objects of size n of the nodes below E, where the row of classes passed and k together are more than all classes
record Tall (s : Spec) (n k E : ℕ) : Type 0 where
  bound : ℕ
  holds : (cs : List ℕ) → length s.bodies < length cs + k → (e : ℕ) → e < E → (o : Object) → Chain s e cs → Of s e o → size o ≡ n → tree_nodes o ≤ bound

-- a part of a whole of size n is smaller, or it has all of the size
smaller-or : (a b n : ℕ) → a + b ≡ n → (a < n) ⊎ ((a ≡ n) × (b ≡ 0))
smaller-or a zero n h = inr (omega arith, refl)
smaller-or a (suc b) n h = inl (omega arith)

zero-or : (n : ℕ) → (n ≡ 0) ⊎ (0 < n)
zero-or zero = inl refl
zero-or (suc n) = inr (omega arith)

-- where the part has no object of size 0, there are at most as many as the size
as-many : {s : Spec} {part : ℕ} {os : Objects} → ¬ (HasEmpty s part) → OfAll s part os → count os ≤ sizes os
as-many never OfAll.nil = omega arith
as-many {s} {os = os} never (OfAll.cons {o = o} {os = qs} k ks) = elim (zero-or (size o)) [
  | inl z ↦ absurd (never (least s ⊥ k (inr z)))
  | inr p ↦ let h = as-many never ks in omega arith
]

few-parts : (n : ℕ) (high : Option ℕ) → IsWithinHigh n high → IsFew high → (high ≡ None) ⊎ (n ≤ 64)
few-parts n None w f = inl refl
few-parts n (Some high) w f = inr (let a : n ≤ high = w in let b : high ≤ 64 = f in omega arith)

-- how many parts a product has
abbrev parts_in : Option Node → ℕ
parts_in (Some (Node.Product parts)) = length parts
parts_in _ = 0

counted-part : (n : Node) (part : ℕ) → IsCountedOf n part → IsPartOfNode n part
counted-part (Node.Seq p) part z = z
counted-part (Node.Set p) part z = z
counted-part (Node.Cyc p) part z = z
counted-part _ part z = elim z [ ]

of-exists : {s : Spec} {e : ℕ} {o : Object} → Of s e o → e < length s.nodes
of-exists {s} {e} (Of.empty w q z) = slice_get_within s.nodes e (Node.Empty w) q
of-exists {s} {e} (Of.atom w q z) = slice_get_within s.nodes e (Node.Atom w) q
of-exists {s} {e} (Of.class c body q b k) = slice_get_within s.nodes e (Node.Class c) q
of-exists {s} {e} (Of.union parts i part p q g k z) = slice_get_within s.nodes e (Node.Union parts) q
of-exists {s} {e} (Of.product parts os q k z) = slice_get_within s.nodes e (Node.Product parts) q
of-exists {s} {e} (Of.counted part r os k i a z) = slice_get_within s.nodes e k.node k.is_node

at-append : (xs : List ℕ) (p : ℕ) (ps : List ℕ) → slice_get (xs ++ (p ∷ ps)) (length xs) ≡ Some p
at-append [] p ps = refl
at-append (x ∷ xs) p ps = at-append xs p ps

-- beside a part of the whole size there is none, or one of size 0
alone-or : {s : Spec} {part : ℕ} {ys os : Objects} → OfAll s part ys → OfAll s part os → sizes ys + sizes os ≡ 0 → (count ys + count os ≡ 0) ⊎ Least s ⊥ part
alone-or OfAll.nil OfAll.nil z = inl refl
alone-or {s} (OfAll.cons {o = o} k ks) l z = inr (least s ⊥ k (inr (omega arith)))
alone-or {s} OfAll.nil (OfAll.cons {o = o} k ks) z = inr (least s ⊥ k (inr (omega arith)))

-- The parts of an object of size n.
module _ (s : Spec) (sound : IsOrderly s) (n : ℕ) (small : Cap s n) (e : ℕ) (cs : List ℕ) (ch : Chain s e cs) (B : ℕ) (deep : (p : ℕ) → p < e → (o : Object) → Chain s p cs → Of s p o → size o ≡ n → tree_nodes o ≤ B) where
  each-cap : (parts : List ℕ) → node_at s e ≡ Some (Node.Product parts) → (xs : List ℕ) (ys : Objects) → OfEach s xs ys → {rest : List ℕ} {os : Objects} → OfEach s rest os → parts ≡ xs ++ rest → sizes ys + sizes os ≡ n → all_nodes os ≤ length rest * (B + small.bound)
  each-cap parts q xs ys l OfEach.done pe se = omega arith
  each-cap parts q xs ys l (OfEach.first {e = p} {es = ps} {o = o} {os = os} k ks) pe se =
      let q2 : node_at s e ≡ Some (Node.Product (xs ++ (p ∷ ps))) = subst (λ x. node_at s e ≡ Some (Node.Product x)) pe q in
      let lt : p < e = sound.below e p (Node.Product (xs ++ (p ∷ ps))) q2 (length xs, at-append xs p ps) in
      let one : tree_nodes o ≤ B + small.bound = elim (smaller-or (size o) (sizes ys + sizes os) n (omega arith)) [
        | inl less ↦ let a = small.holds p o k less in omega arith
        | inr z ↦
            let both : sizes ys + sizes os ≡ 0 = z.1 in
            let a = deep p lt o (chain-down (λ d u. Under.in_product xs p ps q2 (least-each s ⊥ l (inr (omega arith))) (least-each s ⊥ ks (inr (omega arith))) u) ch) k z.0 in omega arith
      ] in
      let j = sizes-join ys (more o none) in
      let others : all_nodes os ≤ length ps * (B + small.bound) = each-cap parts q (xs ++ (p ∷ [])) (join ys (more o none)) (of-join l (OfEach.first k OfEach.done)) ks (pe ∙ sym (append_assoc xs (p ∷ []) ps)) (omega arith) in
      omega arith

  all-cap : (part : ℕ) (r : Range) (k : Counts s e part r) → part < e → (ys : Objects) → OfAll s part ys → {os : Objects} → OfAll s part os → r.low ≤ count ys + count os → sizes ys + sizes os ≡ n → all_nodes os ≤ count os * (B + small.bound)
  all-cap part r k lt ys l OfAll.nil lo se = omega arith
  all-cap part r k lt ys l (OfAll.cons {o = o} {os = os} x xs) lo se =
      let one : tree_nodes o ≤ B + small.bound = elim (smaller-or (size o) (sizes ys + sizes os) n (omega arith)) [
        | inl less ↦ let a = small.holds part o x less in omega arith
        | inr z ↦ let a = deep part lt o (chain-down (λ d u. Under.in_counted k (beside (alone-or l xs z.1)) u) ch) x z.0 in omega arith
      ] in
      let others : all_nodes os ≤ count os * (B + small.bound) = all-cap part r k lt (more o ys) (OfAll.cons x l) xs (omega arith) (omega arith) in
      omega arith
    where
      beside : (count ys + count os ≡ 0) ⊎ Least s ⊥ part → (r.low ≤ 1) ⊎ Least s ⊥ part
      beside (inl z) = inl (omega arith)
      beside (inr y) = inr y

module _ (s : Spec) (sound : IsOrderly s) (accepted : IsAccepted s) where
  counted-few : {e part : ℕ} {r : Range} {os : Objects} → Counts s e part r → IsInRange (count os) (Some r) → OfAll s part os → count os ≤ 64 + sizes os
  counted-few {e} {part} {r} {os} k i a = elim (few-parts (count os) r.high i.1 (sound.ranges e part r k).few) [
    | inl endless ↦ let h = as-many (λ zero. accepted.parts e (record { part = part; range = r; counts = k; endless = endless; zero = zero })) a in omega arith
    | inr few ↦ omega arith
  ]

  tall-none : (n E : ℕ) → Tall s n 0 E
  tall-none n E = record { bound = 0; holds = λ cs h e le o ch x z. absurd (let a = chain-short ch in omega arith) }

  module _ (n : ℕ) (small : Cap s n) (k : ℕ) (far : Tall s n k (length s.nodes)) where
    node-cap : (E : ℕ) (below : Tall s n (suc k) E) (cs : List ℕ) → length s.bodies < length cs + suc k → (e : ℕ) → e ≡ E → (o : Object) → Chain s e cs → Of s e o → size o ≡ n → tree_nodes o ≤ below.bound + far.bound + 2 + (64 + n + parts_in (node_at s E)) * (below.bound + small.bound)
    node-cap E below cs h e same o ch (Of.empty w q z) sz = let t : tree_nodes o ≡ 1 = ap tree_nodes z in omega arith
    node-cap E below cs h e same o ch (Of.atom w q z) sz = let t : tree_nodes o ≡ 1 = ap tree_nodes z in omega arith
    node-cap E below cs h e same o ch (Of.class c body q b x) sz =
        let a = far.holds (c ∷ cs) (omega arith) body (sound.bodies c body b) o (chain-into (λ d l. accepted.loops d (record { leads = l })) q b ch) x sz in omega arith
    node-cap E below cs h e same o ch (Of.union parts i part p q g x z) sz =
        let lt : part < e = sound.below e part (Node.Union parts) q (i, g) in
        let t : tree_nodes o ≡ suc (tree_nodes p) = ap tree_nodes z in
        let a = below.holds cs h part (omega arith) p (chain-down (λ d u. Under.in_union parts i part q g u) ch) x (sym (ap size z) ∙ sz) in omega arith
    node-cap E below cs h e same o ch (Of.product parts os q x z) sz =
        let t : tree_nodes o ≡ suc (all_nodes os) = ap tree_nodes z in
        let total : sizes os ≡ n = sym (ap size z) ∙ sz in
        let len : length parts ≡ parts_in (node_at s E) = sym (ap parts_in q) ∙ ap (λ y. parts_in (node_at s y)) same in
        let a : all_nodes os ≤ length parts * (below.bound + small.bound) = each-cap s sound n small e cs ch below.bound (λ p lt. below.holds cs h p (omega arith)) parts q [] none OfEach.done x refl (omega arith) in
        let b : all_nodes os ≤ parts_in (node_at s E) * (below.bound + small.bound) = subst (λ y. all_nodes os ≤ y * (below.bound + small.bound)) len a in
        omega arith
    node-cap E below cs h e same o ch (Of.counted part r os c i x z) sz =
        let t : tree_nodes o ≡ suc (all_nodes os) = ap tree_nodes z ∙ tree_nodes-form c.node os in
        let total : sizes os ≡ n = sym (size-form c.node os) ∙ (sym (ap size z) ∙ sz) in
        let lt : part < e = sound.below e part c.node c.is_node (counted-part c.node part c.of_part) in
        let lo : r.low ≤ count os = i.0 in
        let a : all_nodes os ≤ count os * (below.bound + small.bound) = all-cap s sound n small e cs ch below.bound (λ p lt. below.holds cs h p (omega arith)) part r c lt none OfAll.nil x (omega arith) (omega arith) in
        let few : count os ≤ 64 + n = (let f = counted-few c i x in omega arith) in
        let b : count os * (below.bound + small.bound) ≤ (64 + n) * (below.bound + small.bound) = mul-le-mul_right (below.bound + small.bound) few in
        omega arith

    tall-more : (E : ℕ) → Tall s n (suc k) E
    tall-more zero = record { bound = 0; holds = λ cs h e le o ch x z. absurd (omega arith) }
    tall-more (suc E) =
        let below = tall-more E in
        record {
          bound = below.bound + far.bound + 2 + (64 + n + parts_in (node_at s E)) * (below.bound + small.bound);
          holds = λ cs h e le o ch x z. elim (cases_lt e E) [
            | inl lt ↦ let a = below.holds cs h e lt o ch x z in omega arith
            | inr ge ↦ node-cap E below cs h e (omega arith) o ch x z
          ];
        }

  tall : (n : ℕ) → Cap s n → (k : ℕ) → Tall s n k (length s.nodes)
  tall n small zero = tall-none n (length s.nodes)
  tall n small (suc k) = tall-more n small k (tall n small k) (length s.nodes)

  cap-more : (n : ℕ) → Cap s n → Cap s (suc n)
  cap-more n small =
      let t = tall n small (suc (length s.bodies)) in
      record {
        bound = small.bound + t.bound;
        holds = λ e o x lt. elim (cases_lt (size o) n) [
          | inl less ↦ let a = small.holds e o x less in omega arith
          | inr ge ↦ let a = t.holds [] (omega arith) e (of-exists x) o Chain.start x (omega arith) in omega arith
        ];
      }

  cap : (n : ℕ) → Cap s n
  cap zero = record { bound = 0; holds = λ e o x lt. absurd (omega arith) }
  cap (suc n) = cap-more n (cap n)

-- Where nothing is refused, the specification is well founded.
pub accepted-founded : (s : Spec) → IsOrderly s → IsAccepted s → IsWellFounded s
accepted-founded s sound accepted = record {
  inhabited = λ c body q. some-belongs s sound body (accepted.objects c body q);
  bounded = λ c body n q. let k = cap s sound accepted (suc n) in (k.bound, λ o b z. k.holds body o (of-belongs s body o b) (omega arith));
}
