-- The parts of a product stand below it, once, and in no other product.
use Rattle.std.proofs.Common.{◌≡◌, ◌≢◌, ℕ, suc, ◌<◌, inl, inr, List, [], ◌∷◌, length, Option, Some, None, arith, refl, sym, ap}
use Rattle.std.specs.Prelude.{slice_get}
use Rattle.std.specs.List.{AllByRecursion}
use Rattle.std.proofs.lemmas.Option.{slice_get_within}
use Rattle.bz_model.specs.Spec.{Spec, Node, node_at}
use Rattle.bz_model.specs.Totals.{IsDistinct}
use Rattle.bz_laws.specs.Lists.{IsOneOf}
use Rattle.bz_laws.specs.Sound.{IsLaidOut}
use Rattle.class_system.specs.NodeOrder.{parts_of}
use Rattle.class_system.specs.Sound.{IsSound}
use Rattle.class_system.proofs.Order.{PartPlace}
use Rattle.class_system.proofs.Soundness.{one_place}
use Rattle.rank_tables.specs.Visits.{product_parts}
use Rattle.rank_tables.proofs.LaidOut.{all-from_each}

-- Where an element stands in a list.
member-place : (xs : List ℕ) (x : ℕ) → IsOneOf xs x → (i : ℕ) × (slice_get xs i ≡ Some x)
member-place [] x m = elim m [ ]
member-place (y ∷ xs) x (inl e) = (0, ap Some (sym e))
member-place (y ∷ xs) x (inr m) = let r = member-place xs x m in (suc r.0, r.1)

-- The part of a product at a place.
record ProductPart (s : Spec) (e i p : ℕ) : Type 0 where
  node : Node
  is_there : node_at s e ≡ Some node
  is_part : slice_get (parts_of node) i ≡ Some p

none_there : (i p : ℕ) → slice_get [] i ≡ Some p → ⊥
none_there i p there = let lt : i < length {A = ℕ} [] = slice_get_within [] i p there in omega arith

product-part : (s : Spec) (e i p : ℕ) → slice_get (product_parts (node_at s e)) i ≡ Some p → ProductPart s e i p
product-part s e i p is = go (node_at s e) refl is
  where
    go : (o : Option Node) → node_at s e ≡ o → slice_get (product_parts o) i ≡ Some p → ProductPart s e i p
    go (Some (Node.Product parts)) at there = record { node = Node.Product parts; is_there = at; is_part = there }
    go None at there = absurd (none_there i p there)
    go (Some _) at there = absurd (none_there i p there)

abbrev placed-part : (s : Spec) (e i p : ℕ) → slice_get (product_parts (node_at s e)) i ≡ Some p → PartPlace s.nodes 0 (length s.nodes) p
placed-part s e i p is = let k = product-part s e i p is in record { above = e; node = k.node; place = i; from = omega arith; to = slice_get_within s.nodes e k.node k.is_there; is_there = k.is_there; is_part = k.is_part }

same-product : (s : Spec) → IsSound s → (d e p : ℕ) → (i : ℕ) × (slice_get (product_parts (node_at s d)) i ≡ Some p) → (j : ℕ) × (slice_get (product_parts (node_at s e)) j ≡ Some p) → d ≡ e
same-product s sound d e p i j = (one_place s sound p (placed-part s d i.0 p i.1) (placed-part s e j.0 p j.1)).above

-- A part of one product is no part of another.
pub other-product : (s : Spec) → IsSound s → (d e p : ℕ) → d ≢ e → IsOneOf (product_parts (node_at s d)) p → ¬ (IsOneOf (product_parts (node_at s e)) p)
other-product s sound d e p apart m k =
    apart (same-product s sound d e p (member-place (product_parts (node_at s d)) p m) (member-place (product_parts (node_at s e)) p k))

distinct-places : (xs : List ℕ) → ((i j x : ℕ) → slice_get xs i ≡ Some x → slice_get xs j ≡ Some x → i ≡ j) → IsDistinct xs
distinct-places [] same = tt
distinct-places (a ∷ xs) same = (
  all-from_each (λ b. b ≢ a) xs (λ i x at e. let z : suc i ≡ 0 = same (suc i) 0 x at (ap Some (sym e)) in omega arith),
  distinct-places xs (λ i j x p q. let z : suc i ≡ suc j = same (suc i) (suc j) x p q in omega arith),
)

-- The parts of a product are distinct.
pub distinct-parts : (s : Spec) → IsSound s → (e : ℕ) → IsDistinct (product_parts (node_at s e))
distinct-parts s sound e = distinct-places (product_parts (node_at s e)) (λ i j x p q. (one_place s sound x (placed-part s e i x p) (placed-part s e j x q)).place)

-- The parts of a product stand below it.
pub parts-below : (s : Spec) → IsLaidOut s → (e : ℕ) → AllByRecursion (λ p. p < e) (product_parts (node_at s e))
parts-below s laid_out e = go (node_at s e) refl
  where
    go : (o : Option Node) → node_at s e ≡ o → AllByRecursion (λ p. p < e) (product_parts o)
    go (Some (Node.Product parts)) at = laid_out.below e (Node.Product parts) at
    go None at = tt
    go (Some _) at = tt
