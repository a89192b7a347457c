-- How lists with a property, trees of nodes and a sound specification grow by one element at the end.
use Rattle.std.proofs.Common.{◌≡◌, ℕ, zero, suc, List, [], ◌∷◌, ◌++◌, length, arith, sym, ◌∙◌, ap, subst, refl, inl, inr, ◌⊎◌, Some, slice_get, length-append}
use Rattle.std.proofs.lemmas.Option.{slice_get_within, same_Some}
use Rattle.bz_model.specs.Spec.{Node}
use Rattle.class_system.specs.Each.{Each, EachPair}
use Rattle.class_system.specs.Distinct.{IsMissing, AreDistinct}
use Rattle.class_system.specs.NodeOrder.{parts_of, Spans, SpanEach}
use Rattle.class_system.specs.NodeOrder.Spans.{tree}
use Rattle.class_system.specs.NodeOrder.SpanEach.{done, next}

-- An element stays where a list grows.
pub at-append : {X : Type 0} (xs ys : List X) (i : ℕ) (x : X) → slice_get xs i ≡ Some x → slice_get (xs ++ ys) i ≡ Some x
at-append [] ys i x at = absurd (omega (arith, slice_get_within [] i x at))
at-append (y ∷ xs) ys zero x at = at
at-append (y ∷ xs) ys (suc i) x at = at-append xs ys i x at

-- The last element.
pub at-last : {X : Type 0} (xs : List X) (x : X) → slice_get (xs ++ x ∷ []) (length xs) ≡ Some x
at-last [] x = refl
at-last (y ∷ xs) x = at-last xs x

-- An element of a list with one more is an element of the list, or the one more at the end.
pub at-one_more : {X : Type 0} (xs : List X) (x : X) (i : ℕ) (y : X) → slice_get (xs ++ x ∷ []) i ≡ Some y → (slice_get xs i ≡ Some y) ⊎ ((i ≡ length xs) × (x ≡ y))
at-one_more [] x zero y at = inr (refl, same_Some x y at)
at-one_more [] x (suc i) y at = absurd (omega (arith, slice_get_within [] i y at))
at-one_more (z ∷ xs) x zero y at = inl at
at-one_more (z ∷ xs) x (suc i) y at =
    elim (at-one_more xs x i y at) [ inl there ↦ inl there | inr here ↦ inr (ap suc here.0, here.1) ]

-- Each element of no elements has a property.
pub Each-none : {X : Type 0} (P : X → Type 0) → Each P []
Each-none P = record { at = λ i x at. absurd (omega (arith, slice_get_within [] i x at)) }

-- One more element with the property.
pub Each-more : {X : Type 0} (P : X → Type 0) (xs : List X) (x : X) → Each P xs → P x → Each P (xs ++ x ∷ [])
Each-more P xs x each here = record {
  at = λ i y at.
      elim (at-one_more xs x i y at) [ inl there ↦ each.at i y there | inr last ↦ subst P last.1 here ];
}

-- One more element at the front.
pub Each-cons : {X : Type 0} (P : X → Type 0) (x : X) (xs : List X) → P x → Each P xs → Each P (x ∷ xs)
Each-cons {X} P x xs here each = record { at = go }
  where
    go : (i : ℕ) (y : X) → slice_get (x ∷ xs) i ≡ Some y → P y
    go zero y at = subst P (same_Some x y at) here
    go (suc i) y at = each.at i y at

-- One more pair at the end.
pub EachPair-more : {X Y : Type 0} (R : X → Y → Type 0) (xs : List X) (ys : List Y) (x : X) (y : Y) → EachPair R xs ys → R x y → EachPair R (xs ++ x ∷ []) (ys ++ y ∷ [])
EachPair-more R xs ys x y each here = record {
  lengths = simp length-append (omega (arith, each.lengths));
  at = λ i a b at_a at_b. elim (at-one_more xs x i a at_a) [
    | inl there ↦ elim (at-one_more ys y i b at_b) [
      | inl there_too ↦ each.at i a b there there_too
      | inr last ↦ absurd (omega (arith, slice_get_within xs i a there, each.lengths, last.0))
    ]
    | inr last ↦ elim (at-one_more ys y i b at_b) [
      | inl there ↦ absurd (omega (arith, slice_get_within ys i b there, each.lengths, last.0))
      | inr last_too ↦ subst (λ z. R z b) last.1 (subst (λ z. R x z) last_too.1 here)
    ]
  ];
}

-- Trees stay where nodes are appended.
mutual
  pub Spans-append : (nodes more : List Node) (first e : ℕ) → Spans nodes first e → Spans (nodes ++ more) first e
  Spans-append nodes more first e (tree n is each) = tree n (at-append nodes more e n is) (SpanEach-append nodes more first (parts_of n) e each)

  pub SpanEach-append : (nodes more : List Node) (first : ℕ) (parts : List ℕ) (end : ℕ) → SpanEach nodes first parts end → SpanEach (nodes ++ more) first parts end
  SpanEach-append nodes more first [] end (done same) = done same
  SpanEach-append nodes more first (part ∷ parts) end (next here rest) = next (Spans-append nodes more first part here) (SpanEach-append nodes more (suc part) parts end rest)

-- One more tree after trees in a row.
pub SpanEach-more : (nodes : List Node) (first : ℕ) (parts : List ℕ) (end e : ℕ) → SpanEach nodes first parts end → Spans nodes end e → SpanEach nodes first (parts ++ e ∷ []) (suc e)
SpanEach-more nodes first [] end e (done same) last = next (subst (λ k. Spans nodes k e) (sym same) last) (done refl)
SpanEach-more nodes first (part ∷ parts) end e (next here rest) last = next here (SpanEach-more nodes (suc part) parts end e rest last)

-- A node appended after the trees of its parts makes their tree.
pub Spans-node : (nodes : List Node) (first : ℕ) (n : Node) → SpanEach nodes first (parts_of n) (length nodes) → Spans (nodes ++ n ∷ []) first (length nodes)
Spans-node nodes first n each = tree n (at-last nodes n) (SpanEach-append nodes (n ∷ []) first (parts_of n) (length nodes) each)

-- One more name that is missing keeps names apart.
pub AreDistinct-more : (names : List (List ℕ)) (name : List ℕ) → AreDistinct names → IsMissing name names → AreDistinct (names ++ name ∷ [])
AreDistinct-more names name apart missing = record {
  once = λ i j other at_i at_j.
      elim (at-one_more names name i other at_i) [
        | inl there ↦ elim (at-one_more names name j other at_j) [
          | inl there_too ↦ apart.once i j other there there_too
          | inr last ↦ absurd (missing.nowhere i (subst (λ w. slice_get names i ≡ Some w) (sym last.1) there))
        ]
        | inr last ↦ elim (at-one_more names name j other at_j) [
          | inl there ↦ absurd (missing.nowhere j (subst (λ w. slice_get names j ≡ Some w) (sym last.1) there))
          | inr last_too ↦ last.0 ∙ sym last_too.0
        ]
      ];
}
