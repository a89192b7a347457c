-- The tables are well founded.
use Rattle.std.proofs.Common.{◌≡◌, ℕ, zero, suc, ◌+◌, ◌*◌, ◌<◌, ◌≤◌, List, [], ◌∷◌, ◌++◌, map, refl, sym, ◌∙◌, ap, subst, arith, Some, slice_get}
use Rattle.std.specs.Prelude.{slice_index}
use Rattle.std.specs.List.{range_with_len}
use Rattle.std.proofs.lemmas.List.FromFn.{length-map-range_with_len}
use Rattle.std.proofs.lemmas.Option.{same_Some, slice_get_within}
use Rattle.bz_model.specs.Spec.{Node, node_at, body_of}
use Rattle.bz_model.specs.WellFounded.{IsWellFounded}
use Rattle.class_system.specs.Each.{Each}
use Rattle.class_system.specs.NodeOrder.{parts_of}
use Rattle.well_founded.specs.Foundedness.{IsCountedOf, Counts, Least, LeastEach, HasSome, Under, StepsTo, Leads, RepeatsZero, LeadsRound}
use Rattle.well_founded.specs.Foundedness as rule
use Rattle.well_founded.proofs.Accepted.{accepted-founded}
use Rattle.well_founded.proofs.Orderly.{orderly}
use Rattle.bulk_command.specs.BulkTables.{class_nodes, all_nodes, tables_of}
use Rattle.bulk_command.proofs.Blocks.{at-block, at-mapped, each-blocks, each-six}
use Rattle.bulk_command.proofs.Sounds.{is-sound}

-- a node of a class
node-of : (m class j e : ℕ) (n : Node) → class < m → e ≡ 6 * class + j → slice_get (class_nodes m class) j ≡ Some n → node_at (tables_of m) e ≡ Some n
node-of m class j e n less same is = ap (slice_get (all_nodes m)) same ∙ at-block (class_nodes m) (λ i. refl) m class j n less is

-- the body of a class is its last node
body-is : (m c body : ℕ) → body_of (tables_of m) c ≡ Some body → (c < m) × (body ≡ 6 * c + 5)
body-is m c body is =
    let bodies = map (λ class. 6 * class + 5) (range_with_len 0 m) in
    let less : c < m = subst (λ n. c < n) (length-map-range_with_len (λ class. 6 * class + 5) 0 m) (slice_get_within bodies c body is) in
    (less, same_Some body (6 * c + 5) (sym is ∙ at-mapped (λ class. 6 * class + 5) m c less))

-- each class has the empty object
has-some : (m c body : ℕ) → body_of (tables_of m) c ≡ Some body → HasSome (tables_of m) body
has-some m c body is =
    let b = body-is m c body is in
    rule.union ((6 * c) ∷ (6 * c + 4) ∷ []) 0 (6 * c) (node-of m c 5 body (Node.Union ((6 * c) ∷ (6 * c + 4) ∷ [])) b.0 b.1 refl) refl
    (rule.empty [] (node-of m c 0 (6 * c) (Node.Empty []) b.0 (omega arith) refl))

-- no node is counted
none-counted : (m : ℕ) → Each (λ n. (part : ℕ) → ¬ (IsCountedOf n part)) (all_nodes m)
none-counted m = each-blocks (λ n. (part : ℕ) → ¬ (IsCountedOf n part)) (class_nodes m) m (λ i less. each-six (λ n. (part : ℕ) → ¬ (IsCountedOf n part)) _ _ _ _ _ _ (λ part h. h) (λ part h. h) (λ part h. h) (λ part h. h) (λ part h. h) (λ part h. h))

no-repeat : (m e : ℕ) → ¬ (RepeatsZero (tables_of m) e)
no-repeat m e h = (none-counted m).at e h.counts.node h.counts.is_node h.part h.counts.of_part

-- a node that is an atom
atom-not-under : (m d e : ℕ) → node_at (tables_of m) e ≡ Some (Node.Atom []) → ¬ (Under (tables_of m) d e)
atom-not-under m d e is (rule.here k) = let same : Node.Atom [] ≡ Node.Class d = same_Some (Node.Atom []) (Node.Class d) (sym is ∙ k) in absurd (cc)
atom-not-under m d e is (rule.in_union parts i part k at under) = let same : Node.Atom [] ≡ Node.Union parts = same_Some (Node.Atom []) (Node.Union parts) (sym is ∙ k) in absurd (cc)
atom-not-under m d e is (rule.in_product before part after k x y under) = let same : Node.Atom [] ≡ Node.Product (before ++ (part ∷ after)) = same_Some (Node.Atom []) (Node.Product (before ++ (part ∷ after))) (sym is ∙ k) in absurd (cc)
atom-not-under m d e is (rule.in_counted {part = part} counts few under) = (none-counted m).at e counts.node counts.is_node part counts.of_part

atom-not-empty : (m e : ℕ) → node_at (tables_of m) e ≡ Some (Node.Atom []) → ¬ (Least (tables_of m) ⊥ e)
atom-not-empty m e is (rule.empty word k) = let same : Node.Atom [] ≡ Node.Empty word = same_Some (Node.Atom []) (Node.Empty word) (sym is ∙ k) in absurd (cc)
atom-not-empty m e is (rule.atom word k never) = never
atom-not-empty m e is (rule.class c body k at some) = let same : Node.Atom [] ≡ Node.Class c = same_Some (Node.Atom []) (Node.Class c) (sym is ∙ k) in absurd (cc)
atom-not-empty m e is (rule.union parts i part k at some) = let same : Node.Atom [] ≡ Node.Union parts = same_Some (Node.Atom []) (Node.Union parts) (sym is ∙ k) in absurd (cc)
atom-not-empty m e is (rule.product parts k each) = let same : Node.Atom [] ≡ Node.Product parts = same_Some (Node.Atom []) (Node.Product parts) (sym is ∙ k) in absurd (cc)
atom-not-empty m e is (rule.free {part = part} counts low) = (none-counted m).at e counts.node counts.is_node part counts.of_part
atom-not-empty m e is (rule.counted {part = part} counts some) = (none-counted m).at e counts.node counts.is_node part counts.of_part

-- a product begins with an atom, so that no class is met in it without one
first-part : (m d e : ℕ) (before after others : List ℕ) (part : ℕ) → node_at (tables_of m) e ≡ Some (Node.Atom []) → e ∷ others ≡ before ++ (part ∷ after) → LeastEach (tables_of m) ⊥ before → ¬ (Under (tables_of m) d part)
first-part m d e [] after others part is same each under = atom-not-under m d part (ap (node_at (tables_of m)) (sym (ap (λ es. slice_index es 0) same)) ∙ is) under
first-part m d e (b ∷ before) after others part is same (rule.first none each) under = atom-not-empty m b (ap (node_at (tables_of m)) (sym (ap (λ es. slice_index es 0) same)) ∙ is) none

product-not-under : (m c d : ℕ) → c < m → ¬ (Under (tables_of m) d (6 * c + 4))
product-not-under m c d less h = go (6 * c + 4) (node-of m c 4 (6 * c + 4) product less refl refl) h
  where
    product : Node
    product = Node.Product ((6 * c + 1) ∷ (6 * c + 2) ∷ (6 * c + 3) ∷ [])

    go : (e : ℕ) → node_at (tables_of m) e ≡ Some (Node.Product ((6 * c + 1) ∷ (6 * c + 2) ∷ (6 * c + 3) ∷ [])) → ¬ (Under (tables_of m) d e)
    go e is (rule.here k) = let same : Node.Product ((6 * c + 1) ∷ (6 * c + 2) ∷ (6 * c + 3) ∷ []) ≡ Node.Class d = same_Some _ (Node.Class d) (sym is ∙ k) in absurd (cc)
    go e is (rule.in_union parts i part k at under) = let same : Node.Product ((6 * c + 1) ∷ (6 * c + 2) ∷ (6 * c + 3) ∷ []) ≡ Node.Union parts = same_Some _ (Node.Union parts) (sym is ∙ k) in absurd (cc)
    go e is (rule.in_product before part after k x y under) =
        let same : Node.Product ((6 * c + 1) ∷ (6 * c + 2) ∷ (6 * c + 3) ∷ []) ≡ Node.Product (before ++ (part ∷ after)) = same_Some _ _ (sym is ∙ k) in
        first-part m d (6 * c + 1) before after ((6 * c + 2) ∷ (6 * c + 3) ∷ []) part (node-of m c 1 (6 * c + 1) (Node.Atom []) less refl refl) (ap parts_of same) x under
    go e is (rule.in_counted {part = part} counts few under) = (none-counted m).at e counts.node counts.is_node part counts.of_part

empty-not-under : (m d e : ℕ) → node_at (tables_of m) e ≡ Some (Node.Empty []) → ¬ (Under (tables_of m) d e)
empty-not-under m d e is (rule.here k) = let same : Node.Empty [] ≡ Node.Class d = same_Some (Node.Empty []) (Node.Class d) (sym is ∙ k) in absurd (cc)
empty-not-under m d e is (rule.in_union parts i part k at under) = let same : Node.Empty [] ≡ Node.Union parts = same_Some (Node.Empty []) (Node.Union parts) (sym is ∙ k) in absurd (cc)
empty-not-under m d e is (rule.in_product before part after k x y under) = let same : Node.Empty [] ≡ Node.Product (before ++ (part ∷ after)) = same_Some (Node.Empty []) (Node.Product (before ++ (part ∷ after))) (sym is ∙ k) in absurd (cc)
empty-not-under m d e is (rule.in_counted {part = part} counts few under) = (none-counted m).at e counts.node counts.is_node part counts.of_part

-- no class steps to another
no-step : (m c d : ℕ) → ¬ (StepsTo (tables_of m) c d)
no-step m c d h =
    let b = body-is m c h.body h.is_body in
    go h.body (node-of m c 5 h.body (Node.Union ((6 * c) ∷ (6 * c + 4) ∷ [])) b.0 b.1 refl) b.0 h.under
  where
    part-not-under : (i part : ℕ) → c < m → slice_get ((6 * c) ∷ (6 * c + 4) ∷ []) i ≡ Some part → ¬ (Under (tables_of m) d part)
    part-not-under zero part less at under = empty-not-under m d part (ap (node_at (tables_of m)) (same_Some part (6 * c) (sym at)) ∙ node-of m c 0 (6 * c) (Node.Empty []) less (omega arith) refl) under
    part-not-under (suc zero) part less at under = product-not-under m c d less (subst (Under (tables_of m) d) (same_Some part (6 * c + 4) (sym at)) under)
    part-not-under (suc (suc i)) part less at under = absurd (let h = slice_get_within ((6 * c) ∷ (6 * c + 4) ∷ []) (suc (suc i)) part at in omega (arith, h))

    go : (e : ℕ) → node_at (tables_of m) e ≡ Some (Node.Union ((6 * c) ∷ (6 * c + 4) ∷ [])) → c < m → ¬ (Under (tables_of m) d e)
    go e is less (rule.here k) = let same : Node.Union ((6 * c) ∷ (6 * c + 4) ∷ []) ≡ Node.Class d = same_Some _ (Node.Class d) (sym is ∙ k) in absurd (cc)
    go e is less (rule.in_union parts i part k at under) =
        let same : Node.Union ((6 * c) ∷ (6 * c + 4) ∷ []) ≡ Node.Union parts = same_Some _ (Node.Union parts) (sym is ∙ k) in
        part-not-under i part less (ap (λ es. slice_get es i) (ap parts_of same) ∙ at) under
    go e is less (rule.in_product before part after k x y under) = let same : Node.Union ((6 * c) ∷ (6 * c + 4) ∷ []) ≡ Node.Product (before ++ (part ∷ after)) = same_Some _ _ (sym is ∙ k) in absurd (cc)
    go e is less (rule.in_counted {part = part} counts few under) = (none-counted m).at e counts.node counts.is_node part counts.of_part

no-round : (m c d : ℕ) → ¬ (Leads (tables_of m) c d)
no-round m c d (rule.one step) = no-step m c d step
no-round m c d (rule.further lead step) = no-step m _ d step

-- The specification of 2 to 41 classes is well founded.
pub is-well-founded : (m : ℕ) → 2 ≤ m → m ≤ 41 → IsWellFounded (tables_of m)
is-well-founded m some few = accepted-founded (tables_of m) (orderly (tables_of m) (is-sound m some few)) (record { objects = has-some m; parts = no-repeat m; loops = λ c h. no-round m c c h.leads })
