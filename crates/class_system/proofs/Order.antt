-- What the order of the nodes gives: parts stand below their node, and each node is placed.
use Rattle.std.proofs.Common.{◌≡◌, ℕ, suc, ◌<◌, ◌≤◌, ◌⊎◌, List, [], ◌∷◌, arith, sym, ◌∙◌, ap, subst, refl, inl, inr, Some, slice_get, zero}
use Rattle.std.proofs.lemmas.Option.{slice_get_within, same_Some}
use Rattle.std.proofs.lemmas.Bool.{cases_lt}
use Rattle.bz_model.specs.Spec.{Node}
use Rattle.class_system.specs.NodeOrder.{parts_of, HasPart, Spans, SpanEach}
use Rattle.class_system.specs.NodeOrder.Spans.{tree}
use Rattle.class_system.specs.NodeOrder.SpanEach.{done, next}

-- A tree's first node is at most its last, and trees end no lower than they begin.
mutual
  pub first_le : (nodes : List Node) (first e : ℕ) → Spans nodes first e → first ≤ e
  first_le nodes first e (tree n is each) = begin_le nodes first (parts_of n) e each

  pub begin_le : (nodes : List Node) (first : ℕ) (parts : List ℕ) (end : ℕ) → SpanEach nodes first parts end → first ≤ end
  begin_le nodes first [] end (done same) = omega (arith, same)
  begin_le nodes first (part ∷ parts) end (next here rest) = omega (arith, first_le nodes first part here, begin_le nodes (suc part) parts end rest)

-- The last nodes of trees in a row lie between the begin and the end.
pub lies_between : (nodes : List Node) (first : ℕ) (parts : List ℕ) (end : ℕ) → SpanEach nodes first parts end → (i part : ℕ) → slice_get parts i ≡ Some part → (first ≤ part) × (part < end)
lies_between nodes first [] end (done same) i part at = absurd (omega (arith, slice_get_within [] i part at))
lies_between nodes first (p ∷ parts) end (next here rest) zero part at =
    let same : p ≡ part = same_Some p part at in
    (omega (arith, first_le nodes first p here), omega (arith, begin_le nodes (suc p) parts end rest))
lies_between nodes first (p ∷ parts) end (next here rest) (suc i) part at =
    let later = lies_between nodes (suc p) parts end rest i part at in
    (omega (arith, later.0, first_le nodes first p here), later.1)

-- Each part stands below its node, within a tree and within trees in a row.
mutual
  pub below_in : (nodes : List Node) (first e : ℕ) → Spans nodes first e → (k part : ℕ) (n : Node) → first ≤ k → k ≤ e → slice_get nodes k ≡ Some n → HasPart n part → part < k
  below_in nodes first e (tree m is each) k part n from to at has =
      elim (cases_lt k e) [
        | inl before ↦ below_in_each nodes first (parts_of m) e each k part n from before at has
        | inr last ↦
            let same : k ≡ e = omega arith in
            let here : n ≡ m = same_Some n m (sym at ∙ ap (slice_get nodes) same ∙ is) in
            let place : slice_get (parts_of m) has.place ≡ Some part = subst (λ (x : Node). slice_get (parts_of x) has.place ≡ Some part) here has.is_there in
            omega (arith, (lies_between nodes first (parts_of m) e each has.place part place).1)
      ]

  pub below_in_each : (nodes : List Node) (first : ℕ) (parts : List ℕ) (end : ℕ) → SpanEach nodes first parts end → (k part : ℕ) (n : Node) → first ≤ k → k < end → slice_get nodes k ≡ Some n → HasPart n part → part < k
  below_in_each nodes first [] end (done same) k part n from to at has = absurd (omega arith)
  below_in_each nodes first (p ∷ parts) end (next here rest) k part n from to at has =
      elim (cases_lt p k) [
        | inl after ↦ below_in_each nodes (suc p) parts end rest k part n (omega arith) to at has
        | inr within ↦ below_in nodes first p here k part n from within at has
      ]

-- A node with a part of this number.
pub record IsPlaced (nodes : List Node) (part : ℕ) : Type 0 where
  pub above : ℕ
  pub node : Node
  pub is_there : slice_get nodes above ≡ Some node
  pub has : HasPart node part

-- Each node of a tree but its last is a part of some node, and so is each node of trees in a row but the last ones of the trees.
mutual
  pub placed_in : (nodes : List Node) (first e : ℕ) → Spans nodes first e → (k : ℕ) → first ≤ k → k ≤ e → (k ≡ e) ⊎ IsPlaced nodes k
  placed_in nodes first e (tree m is each) k from to =
      elim (cases_lt k e) [
        | inl before ↦ elim (placed_in_each nodes first (parts_of m) e each k from before) [
          | inl root ↦ inr (record { above = e; node = m; is_there = is; has = record { place = root.0; is_there = root.1 } })
          | inr placed ↦ inr placed
        ]
        | inr last ↦ inl (omega arith)
      ]

  pub placed_in_each : (nodes : List Node) (first : ℕ) (parts : List ℕ) (end : ℕ) → SpanEach nodes first parts end → (k : ℕ) → first ≤ k → k < end → ((i : ℕ) × (slice_get parts i ≡ Some k)) ⊎ IsPlaced nodes k
  placed_in_each nodes first [] end (done same) k from to = absurd (omega arith)
  placed_in_each nodes first (p ∷ parts) end (next here rest) k from to =
      elim (cases_lt p k) [
        | inl after ↦ elim (placed_in_each nodes (suc p) parts end rest k after to) [
          | inl root ↦ inl (suc root.0, root.1)
          | inr placed ↦ inr placed
        ]
        | inr within ↦ elim (placed_in nodes first p here k from within) [
          | inl same ↦ inl (0, ap Some (sym same))
          | inr placed ↦ inr placed
        ]
      ]

-- The parts of a node within trees in a row stand from their first node on.
mutual
  pub from_in : (nodes : List Node) (first e : ℕ) → Spans nodes first e → (k part : ℕ) (n : Node) → first ≤ k → k ≤ e → slice_get nodes k ≡ Some n → HasPart n part → first ≤ part
  from_in nodes first e (tree m is each) k part n from to at has =
      elim (cases_lt k e) [
        | inl before ↦ from_in_each nodes first (parts_of m) e each k part n from before at has
        | inr last ↦
            let same : k ≡ e = omega arith in
            let here : n ≡ m = same_Some n m (sym at ∙ ap (slice_get nodes) same ∙ is) in
            (lies_between nodes first (parts_of m) e each has.place part (subst (λ (x : Node). slice_get (parts_of x) has.place ≡ Some part) here has.is_there)).0
      ]

  pub from_in_each : (nodes : List Node) (first : ℕ) (parts : List ℕ) (end : ℕ) → SpanEach nodes first parts end → (k part : ℕ) (n : Node) → first ≤ k → k < end → slice_get nodes k ≡ Some n → HasPart n part → first ≤ part
  from_in_each nodes first [] end (done same) k part n from to at has = absurd (omega arith)
  from_in_each nodes first (p ∷ parts) end (next here rest) k part n from to at has =
      elim (cases_lt p k) [
        | inl after ↦ omega (arith, first_le nodes first p here, from_in_each nodes (suc p) parts end rest k part n after to at has)
        | inr within ↦ from_in nodes first p here k part n from within at has
      ]

-- The last node of one of some trees in a row is a part of none of their nodes.
pub no_part : (nodes : List Node) (first : ℕ) (parts : List ℕ) (end : ℕ) → SpanEach nodes first parts end → (i root k : ℕ) (n : Node) → slice_get parts i ≡ Some root → first ≤ k → k < end → slice_get nodes k ≡ Some n → HasPart n root → ⊥
no_part nodes first [] end (done same) i root k n is_root from to at has = omega arith
no_part nodes first (p ∷ parts) end (next here rest) zero root k n is_root from to at has =
    elim (cases_lt p k) [
      | inl after ↦ omega (arith, same_Some p root is_root, from_in_each nodes (suc p) parts end rest k root n after to at has)
      | inr within ↦ omega (arith, same_Some p root is_root, below_in nodes first p here k root n from within at has)
    ]
no_part nodes first (p ∷ parts) end (next here rest) (suc i) root k n is_root from to at has =
    elim (cases_lt p k) [
      | inl after ↦ no_part nodes (suc p) parts end rest i root k n is_root after to at has
      | inr within ↦ omega (arith, (lies_between nodes (suc p) parts end rest i root is_root).0, below_in nodes first p here k root n from within at has)
    ]

-- No two trees in a row have one last node.
pub once_among : (nodes : List Node) (first : ℕ) (parts : List ℕ) (end : ℕ) → SpanEach nodes first parts end → (i j root : ℕ) → slice_get parts i ≡ Some root → slice_get parts j ≡ Some root → i ≡ j
once_among nodes first [] end (done same) i j root at_i at_j = absurd (omega (arith, slice_get_within [] i root at_i))
once_among nodes first (p ∷ parts) end (next here rest) zero zero root at_i at_j = refl
once_among nodes first (p ∷ parts) end (next here rest) zero (suc j) root at_i at_j =
    absurd (omega (arith, same_Some p root at_i, (lies_between nodes (suc p) parts end rest j root at_j).0))
once_among nodes first (p ∷ parts) end (next here rest) (suc i) zero root at_i at_j =
    absurd (omega (arith, same_Some p root at_j, (lies_between nodes (suc p) parts end rest i root at_i).0))
once_among nodes first (p ∷ parts) end (next here rest) (suc i) (suc j) root at_i at_j =
    ap suc (once_among nodes (suc p) parts end rest i j root at_i at_j)

-- A place of a part, at a node from a first one on and before an end.
pub record PartPlace (nodes : List Node) (first end part : ℕ) : Type 0 where
  pub above : ℕ
  pub node : Node
  pub place : ℕ
  pub from : first ≤ above
  pub to : above < end
  pub is_there : slice_get nodes above ≡ Some node
  pub is_part : slice_get (parts_of node) place ≡ Some part

-- Two places of a part are at one node and the same among its parts.
pub record IsOnePlace {nodes : List Node} {first end part : ℕ} (a b : PartPlace nodes first end part) : Type 0 where
  pub above : a.above ≡ b.above
  pub place : a.place ≡ b.place

-- A place between nearer bounds.
abbrev narrowed : (nodes : List Node) {first end part : ℕ} (nearer_first nearer_end : ℕ) (a : PartPlace nodes first end part) → nearer_first ≤ a.above → a.above < nearer_end → PartPlace nodes nearer_first nearer_end part
narrowed nodes nearer_first nearer_end a from to = record { above = a.above; node = a.node; place = a.place; from = from; to = to; is_there = a.is_there; is_part = a.is_part }

-- A place at a tree's last node is one among its parts.
root_of : (nodes : List Node) (first e : ℕ) (m : Node) → slice_get nodes e ≡ Some m → {part : ℕ} (a : PartPlace nodes first (suc e) part) → e ≤ a.above → slice_get (parts_of m) a.place ≡ Some part
root_of nodes first e m is {part} a last =
    let same : a.above ≡ e = omega (arith, a.to) in
    let here : a.node ≡ m = same_Some a.node m (sym a.is_there ∙ ap (slice_get nodes) same ∙ is) in
    subst (λ (x : Node). slice_get (parts_of x) a.place ≡ Some part) here a.is_part

-- One part has no places both in a first tree and in those after it.
apart : (nodes : List Node) (first p : ℕ) (parts : List ℕ) (end : ℕ) → Spans nodes first p → SpanEach nodes (suc p) parts end → (part : ℕ) (a b : PartPlace nodes first end part) → p < a.above → b.above ≤ p → ⊥
apart nodes first p parts end here rest part a b after within =
    let later : suc p ≤ part = from_in_each nodes (suc p) parts end rest a.above part a.node after a.to a.is_there (record { place = a.place; is_there = a.is_part }) in
    let earlier : part < b.above = below_in nodes first p here b.above part b.node b.from within b.is_there (record { place = b.place; is_there = b.is_part }) in
    omega arith

-- Within a tree, and within trees in a row, a node has one place as a part.
mutual
  pub one_place_in : (nodes : List Node) (first e : ℕ) → Spans nodes first e → (part : ℕ) (a b : PartPlace nodes first (suc e) part) → IsOnePlace a b
  one_place_in nodes first e (tree m is each) part a b =
      elim (cases_lt a.above e) [
        | inl a_before ↦ elim (cases_lt b.above e) [
          | inl b_before ↦
              let one = one_place_in_each nodes first (parts_of m) e each part (narrowed nodes first e a a.from a_before) (narrowed nodes first e b b.from b_before) in
              record { above = one.above; place = one.place }
          | inr b_last ↦ absurd (no_part nodes first (parts_of m) e each b.place part a.above a.node (root_of nodes first e m is b b_last) a.from a_before a.is_there (record { place = a.place; is_there = a.is_part }))
        ]
        | inr a_last ↦ elim (cases_lt b.above e) [
          | inl b_before ↦ absurd (no_part nodes first (parts_of m) e each a.place part b.above b.node (root_of nodes first e m is a a_last) b.from b_before b.is_there (record { place = b.place; is_there = b.is_part }))
          | inr b_last ↦ record {
            above = omega (arith, a.to, b.to);
            place = once_among nodes first (parts_of m) e each a.place b.place part (root_of nodes first e m is a a_last) (root_of nodes first e m is b b_last);
          }
        ]
      ]

  pub one_place_in_each : (nodes : List Node) (first : ℕ) (parts : List ℕ) (end : ℕ) → SpanEach nodes first parts end → (part : ℕ) (a b : PartPlace nodes first end part) → IsOnePlace a b
  one_place_in_each nodes first [] end (done same) part a b = absurd (omega (arith, a.from, a.to))
  one_place_in_each nodes first (p ∷ parts) end (next here rest) part a b =
      elim (cases_lt p a.above) [
        | inl a_after ↦ elim (cases_lt p b.above) [
          | inl b_after ↦
              let one = one_place_in_each nodes (suc p) parts end rest part (narrowed nodes (suc p) end a a_after a.to) (narrowed nodes (suc p) end b b_after b.to) in
              record { above = one.above; place = one.place }
          | inr b_within ↦ absurd (apart nodes first p parts end here rest part a b a_after b_within)
        ]
        | inr a_within ↦ elim (cases_lt p b.above) [
          | inl b_after ↦ absurd (apart nodes first p parts end here rest part b a b_after a_within)
          | inr b_within ↦
              let one = one_place_in nodes first p here part (narrowed nodes first (suc p) a a.from (omega arith)) (narrowed nodes first (suc p) b b.from (omega arith)) in
              record { above = one.above; place = one.place }
        ]
      ]
